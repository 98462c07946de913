-- The vias of stacks that are drawn again.
use Rattle.std.proofs.Common.{◌≡◌, ℕ, ◌+◌, ◌<◌, All, List, [], ◌∷◌, ◌++◌, length, map, get_or, refl, sym, ◌∙◌, ap, subst, append_assoc, arith}
use Rattle.std.specs.Prelude.{Contains, flat_map}
use Rattle.std.specs.List.{AllZip, enumerate_from}
use Rattle.std.proofs.lemmas.List.{map-append}
use Rattle.std.proofs.lemmas.List.FromFn.{length-enumerate_from, get_or-enumerate_from}
use Rattle.std.proofs.lemmas.List.Elements.{All-nil, All-cons, All-head, All-tail, All-weaker, All-contains_itself, Contains-append_left, Contains-append_right}
use Rattle.lef_tech.specs.declared.tech.Tech.{Tech}
use Rattle.def_writer.specs.Via.{via_of, arrays_of}
use Rattle.def_wiring.specs.Written.{via_place}
use Rattle.via_arrays.specs.declared.parts.CutArray.{CutArray}
use Rattle.grid_pieces.specs.declared.grid.Grid.{Grid}
use Rattle.grid_pieces.specs.declared.piece.StackAt.{StackAt}
use Rattle.written_wiring.specs.Wiring.{place_text, places_at}
use Rattle.written_wiring.specs.Wires.{wires_of}
use Rattle.wire_names.specs.declared.record.NamedVia.{NamedVia}
use Rattle.wire_names.specs.declared.record.Spot.{Spot}
use Rattle.wire_names.specs.Names.{Names, names_of}
use Rattle.wire_names.specs.Wiring.{spot_of}
use Rattle.rewired_stacks.specs.Rewired.{IsLevel, AreLevels, AreRewired}
use Rattle.wired_again.specs.Again.{HasOwnNames, LevelIs, StackIs, AreOfTheirVias}
use Rattle.rewired_grids.proofs.ViaNames.{IsFew}
use Rattle.rewired_grids.proofs.Found.{vias_found, found_array, found_lower}

-- ## lists

zip_maps : {A B C D : Type 0} (R : A → D → Type 0) (f : A → B) (g : B → C) (h : C → D) (xs : List A) → All (λ x. R x (h (g (f x)))) xs → AllZip R xs (map h (map g (map f xs)))
zip_maps R f g h [] are = tt
zip_maps R f g h (x ∷ xs) are = (All-head (λ x. R x (h (g (f x)))) x xs are, zip_maps R f g h xs (All-tail (λ x. R x (h (g (f x)))) x xs are))

-- What an entry gives is among what all give.
each_among : {A B : Type 0} (f : A → List B) (xs : List A) → All (λ x. All (Contains (flat_map f xs)) (f x)) xs
each_among f [] = All-nil (λ x. All (Contains (flat_map f [])) (f x))
each_among {A} {B} f (x ∷ xs) =
    let P : A → Type 0 = λ y. All (Contains (f x ++ flat_map f xs)) (f y) in
    All-cons P x xs (All-weaker (Contains (f x)) (Contains (f x ++ flat_map f xs)) (λ b in_it. Contains-append_left (f x) (flat_map f xs) b in_it) (f x) (All-contains_itself (f x)))
    (All-weaker (λ y. All (Contains (flat_map f xs)) (f y)) P
    (λ y all. All-weaker (Contains (flat_map f xs)) (Contains (f x ++ flat_map f xs)) (λ b in_it. Contains-append_right (f x) (flat_map f xs) b in_it) (f y) all) xs (each_among f xs))

-- ## levels

-- An array of a stack on its layer, both of which stand.
pub record LevelStands (tech : Tech) (arrays : List CutArray) (level : ℕ × CutArray) : Type 0 where
  pub layer : level.0 < length tech.routing
  pub among : Contains arrays level.1
  pub is : LevelIs tech level

abbrev pub StackStandsIn : Tech → List CutArray → StackAt → Type 0
StackStandsIn tech arrays at = All (LevelStands tech arrays) (enumerate_from at.stack.from at.stack.arrays)

-- The stacks stand where their upper layers do.
pub stack_stands : (tech : Tech) (stacks : List StackAt) → All (StackIs tech) stacks → All (λ (at : StackAt). at.stack.from + length at.stack.arrays < length tech.routing) stacks
    → All (StackStandsIn tech (arrays_of stacks)) stacks
stack_stands tech stacks are high i d within j level inside =
    let at : StackAt = get_or stacks i d in
    let top : at.stack.from + length at.stack.arrays < length tech.routing = high i d within in
    let long = length-enumerate_from at.stack.from at.stack.arrays in
    let in_arrays : j < length at.stack.arrays = omega (arith, inside, long) in
    let here = get_or-enumerate_from at.stack.from at.stack.arrays j level in_arrays in
    record {
      layer = subst (λ (l : ℕ × CutArray). l.0 < length tech.routing) (sym here) (omega (arith, top, in_arrays));
      among = subst (λ (l : ℕ × CutArray). Contains (arrays_of stacks) l.1) (sym here) (each_among (λ (s : StackAt). s.stack.arrays) stacks i d within j level.1 in_arrays);
      is = (are i d within).levels j level inside;
    }

module _ (tech : Tech) (grid : Grid) (own : HasOwnNames tech) (few : All (λ (a : CutArray). IsFew (via_of a)) (arrays_of grid.stacks)) (theirs : AreOfTheirVias (arrays_of grid.stacks)) where
  abbrev names : Names
  names = names_of tech (wires_of tech grid)

  abbrev vias : List NamedVia
  vias = vias_found tech grid own few theirs

  level_again : (net : ℕ) (name : List ℕ) (at : StackAt) → at.net ≡ net → (level : ℕ × CutArray) → LevelStands tech (arrays_of grid.stacks) level
      → IsLevel vias at level (spot_of names net (via_place (place_text tech name (at.x, at.y) level)))
  level_again net name at of_net level stands = record {
    net = sym of_net;
    x = refl;
    y = refl;
    layer = found_lower tech grid own few theirs level.1 stands.among level.0 stands.is.rule stands.layer stands.is.lower;
    array = found_array tech grid own few theirs level.1 stands.among stands.is.rule;
  }

  abbrev pub spots_of_net : ℕ → List ℕ → List StackAt → List Spot
  spots_of_net net name stacks = map (spot_of names net) (map via_place (flat_map (places_at tech name) stacks))

  levels_again : (net : ℕ) (name : List ℕ) (at : StackAt) → at.net ≡ net → StackStandsIn tech (arrays_of grid.stacks) at
      → AreLevels vias at (map (spot_of names net) (map via_place (places_at tech name at)))
  levels_again net name at of_net stand =
      zip_maps (IsLevel vias at) (place_text tech name (at.x, at.y)) via_place (spot_of names net) (enumerate_from at.stack.from at.stack.arrays)
      (All-weaker (LevelStands tech (arrays_of grid.stacks)) (λ (level : ℕ × CutArray). IsLevel vias at level (spot_of names net (via_place (place_text tech name (at.x, at.y) level))))
      (level_again net name at of_net) (enumerate_from at.stack.from at.stack.arrays) stand)

  -- The vias of stacks of one net are theirs, stack after stack.
  pub stacks_again : (net : ℕ) (name : List ℕ) (stacks : List StackAt) → All (λ (at : StackAt). at.net ≡ net) stacks → All (StackStandsIn tech (arrays_of grid.stacks)) stacks
      → AreRewired vias stacks (spots_of_net net name stacks)
  stacks_again net name [] of_net stand = refl
  stacks_again net name (at ∷ stacks) of_net stand =
      let P : StackAt → Type 0 = λ s. s.net ≡ net in
      let Q : StackAt → Type 0 = StackStandsIn tech (arrays_of grid.stacks) in
      let here = places_at tech name at in
      let later = flat_map (places_at tech name) stacks in (
        map (spot_of names net) (map via_place here),
        spots_of_net net name stacks,
        ap (map (spot_of names net)) (map-append via_place here later) ∙ map-append (spot_of names net) (map via_place here) (map via_place later),
        levels_again net name at (All-head P at stacks of_net) (All-head Q at stacks stand),
        stacks_again net name stacks (All-tail P at stacks of_net) (All-tail Q at stacks stand),
      )

pub rewired_both : (vias : List NamedVia) (stacks others : List StackAt) (spots more : List Spot) → AreRewired vias stacks spots → AreRewired vias others more
    → AreRewired vias (stacks ++ others) (spots ++ more)
rewired_both vias [] others spots more none are = subst (AreRewired vias others) (ap (λ z. z ++ more) (sym none)) are
rewired_both vias (at ∷ stacks) others spots more (first, rest, is, levels, later) are =
    (first, rest ++ more, ap (λ z. z ++ more) is ∙ append_assoc first rest more, levels, rewired_both vias stacks others rest more later are)
