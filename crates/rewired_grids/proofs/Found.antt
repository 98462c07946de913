-- What is found in the wires of a grid under the names of layers, rules and vias.
use Rattle.std.proofs.Common.{◌≡◌, ℕ, ◌<◌, ℤ, ◌+ℤ◌, ◌-ℤ◌, All, List, [], ◌∷◌, length, map, get_or, sym, ◌∙◌, ap, arith}
use Rattle.std.specs.Prelude.{Contains, slice_index_or}
use Rattle.std.specs.Option.{unwrap_or}
use Rattle.std.proofs.lemmas.Int.{ints}
use Rattle.std.proofs.lemmas.List.{get_or-map, length-map}
use Rattle.std.proofs.lemmas.List.Elements.{All-contains, All-contains_itself}
use Rattle.name_table.specs.Numbering.{AreDistinct}
use Rattle.lef_tech.specs.declared.layer.RoutingLayer.{RoutingLayer}
use Rattle.lef_tech.specs.declared.rule.ViaRule.{ViaRule}
use Rattle.lef_tech.specs.declared.tech.Tech.{Tech}
use Rattle.def_writer.specs.Via.{via_of, via_name, vias_of, arrays_of, layer_name, rule_name, lower_name}
use Rattle.def_wiring.specs.Limits.{via_name as def_via_name}
use Rattle.via_arrays.specs.declared.parts.CutArray.{CutArray}
use Rattle.grid_pieces.specs.declared.grid.Grid.{Grid}
use Rattle.written_wiring.specs.Wires.{via_wire, wires_of}
use Rattle.wire_names.specs.declared.record.NamedVia.{NamedVia}
use Rattle.wire_names.specs.Names.{Names, names_of, place_in}
use Rattle.wire_names.specs.Wiring.{via_of as named_via}
use Rattle.wire_stacks.specs.Vias.{via_at, array_of}
use Rattle.wired_again.specs.Again.{HasOwnNames, AreOfTheirVias}
use Rattle.rewired_grids.proofs.Places.{place_is, found_in}
use Rattle.rewired_grids.proofs.ViaNames.{IsFew, same_via}
use Rattle.rewired_grids.proofs.Vias.{vias_keep, has_via}

-- ## names of layers and rules

name_found : {X : Type 0} (f : X → List ℕ) (xs : List X) → AreDistinct (map f xs) → (k : ℕ) → k < length xs → place_in (map f xs) (slice_index_or (map f xs) k []) ≡ k
name_found f xs distinct k within = ap (λ o. unwrap_or o 0) (place_is (map f xs) distinct k [] (let many = length-map xs f in omega (arith, within, many)))

pub layer_found : (tech : Tech) → HasOwnNames tech → (layer : ℕ) → layer < length tech.routing
    → place_in (map (λ (l : RoutingLayer). l.name) tech.routing) (layer_name tech layer) ≡ layer
layer_found tech own layer within = name_found (λ (l : RoutingLayer). l.name) tech.routing own.routing layer within

pub rule_found : (tech : Tech) → HasOwnNames tech → (rule : ℕ) → rule < length tech.rules
    → place_in (map (λ (r : ViaRule). r.name) tech.rules) (rule_name tech rule) ≡ rule
rule_found tech own rule within = name_found (λ (r : ViaRule). r.name) tech.rules own.rules rule within

pub lower_found : (tech : Tech) → HasOwnNames tech → (rule layer : ℕ) → rule < length tech.rules → layer < length tech.routing
    → ((r : ViaRule) → (slice_index_or tech.rules rule r).lower ≡ layer) → place_in (map (λ (l : RoutingLayer). l.name) tech.routing) (lower_name tech rule) ≡ layer
lower_found tech own rule layer within stands is =
    ap (place_in (map (λ (l : RoutingLayer). l.name) tech.routing)) (at tech.rules within is) ∙ layer_found tech own layer stands
  where
    at : (rules : List ViaRule) → rule < length rules → ((r : ViaRule) → (slice_index_or rules rule r).lower ≡ layer)
        → slice_index_or (map (λ (r : ViaRule). layer_name tech r.lower) rules) rule [] ≡ layer_name tech layer
    at [] within is = absurd (omega (arith, within))
    at (r ∷ rules) within is = get_or-map (λ (r : ViaRule). layer_name tech r.lower) (r ∷ rules) rule r [] within ∙ ap (layer_name tech) (is r)

-- ## vias

module _ (tech : Tech) (grid : Grid) (own : HasOwnNames tech) (few : All (λ (a : CutArray). IsFew (via_of a)) (arrays_of grid.stacks)) (theirs : AreOfTheirVias (arrays_of grid.stacks)) where
  abbrev names : Names
  names = names_of tech (wires_of tech grid)

  abbrev pub vias_found : List NamedVia
  vias_found = map (named_via names) (wires_of tech grid).vias

  abbrev arrays : List CutArray
  arrays = arrays_of grid.stacks

  abbrev vias_here : List CutArray
  vias_here = vias_of arrays

  -- What is wired of an array under its name.
  wired_at : (k : ℕ) (d : CutArray) → k < length vias_here → get_or (wires_of tech grid).vias k (via_wire tech d) ≡ via_wire tech (get_or vias_here k d)
  wired_at k d within = get_or-map (via_wire tech) vias_here k d (via_wire tech d) within

  name_at : (k : ℕ) (d : CutArray) (e : List ℕ) → k < length vias_here → get_or names.vias k e ≡ via_name (via_of (get_or vias_here k d))
  name_at k d e within =
      let many = length-map vias_here (via_wire tech) in
      get_or-map def_via_name (wires_of tech grid).vias k (via_wire tech d) e (omega (arith, within, many)) ∙ ap def_via_name (wired_at k d within)

  many_names : length names.vias ≡ length vias_here
  many_names = length-map (wires_of tech grid).vias def_via_name ∙ length-map vias_here (via_wire tech)

  named : (a : CutArray) → Contains arrays a → Contains names.vias (via_name (via_of a))
  named a there =
      let (b, (k, within, at), is) = has_via arrays a there in
      let many = many_names in
      (k, omega (arith, within, many), name_at k b (via_name (via_of a)) within ∙ ap (λ (c : CutArray). via_name (via_of c)) at ∙ ap via_name is)

  -- The array of the name's first place is the array.
  same_array : (a : CutArray) → Contains arrays a → (k : ℕ) → k < length vias_here → via_name (via_of (get_or vias_here k a)) ≡ via_name (via_of a) → get_or vias_here k a ≡ a
  same_array a there k within same =
      let c : CutArray = get_or vias_here k a in
      let in_arrays : Contains arrays c = vias_keep (Contains arrays) arrays (All-contains_itself arrays) k a within in
      theirs c a in_arrays there
      (same_via (via_of c) (via_of a) (All-contains (λ (z : CutArray). IsFew (via_of z)) arrays c few in_arrays) (All-contains (λ (z : CutArray). IsFew (via_of z)) arrays a few there) same)

  -- The via that is found under the name of an array is that of the array.
  pub via_found : (a : CutArray) → Contains arrays a → via_at vias_found (place_in names.vias (via_name (via_of a))) ≡ named_via names (via_wire tech a)
  via_found a there =
      let (k, in_names, at, found) = found_in names.vias (via_name (via_of a)) (named a there) in
      let many = many_names in
      let many_wires = length-map vias_here (via_wire tech) in
      let within : k < length vias_here = omega (arith, in_names, many) in
      let same : get_or vias_here k a ≡ a = same_array a there k within (sym (name_at k a [] within) ∙ at []) in
      ap (λ o. via_at vias_found (unwrap_or o 0)) found
      ∙ get_or-map (named_via names) (wires_of tech grid).vias k (via_wire tech a) _ (omega (arith, within, many_wires))
      ∙ ap (named_via names) (wired_at k a within ∙ ap (via_wire tech) same)

  pitch_is : (cut pitch : ℤ) → (pitch -ℤ cut) +ℤ cut ≡ pitch
  pitch_is cut pitch = omega (arith, ints)

  -- It is the array, and begins on its layer.
  pub found_array : (a : CutArray) → Contains arrays a → a.rule < length tech.rules → array_of (via_at vias_found (place_in names.vias (via_name (via_of a)))) ≡ a
  found_array a there within = ap array_of (via_found a there) ∙ alike
    where
      alike : array_of (named_via names (via_wire tech a)) ≡ a
      alike i = record {
        rule = rule_found tech own a.rule within i;
        columns = a.columns;
        rows = a.rows;
        cut_x = a.cut_x;
        cut_y = a.cut_y;
        pitch_x = pitch_is a.cut_x a.pitch_x i;
        pitch_y = pitch_is a.cut_y a.pitch_y i;
        lower_x = a.lower_x;
        lower_y = a.lower_y;
        upper_x = a.upper_x;
        upper_y = a.upper_y;
      }

  pub found_lower : (a : CutArray) → Contains arrays a → (layer : ℕ) → a.rule < length tech.rules → layer < length tech.routing
      → ((r : ViaRule) → (slice_index_or tech.rules a.rule r).lower ≡ layer) → (via_at vias_found (place_in names.vias (via_name (via_of a)))).lower ≡ layer
  found_lower a there layer within stands is = ap (λ (v : NamedVia). v.lower) (via_found a there) ∙ lower_found tech own a.rule layer within stands is
