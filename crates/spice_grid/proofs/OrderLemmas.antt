-- From the numbers of names to their places in byte order: what the cards say moves with them.
use Rattle.std.proofs.Common.{◌≡◌, inl, inr, ℕ, suc, ◌+◌, ◌<◌, ℤ, pos, Bool, true, false, if◌then◌else◌, List, [], ◌∷◌, ◌++◌, Option, None, Some, length, map, get_or, slice_get, position, cond, All, Contains, refl, sym, ap, ◌∙◌, subst, arith}
use Rattle.std.specs.Prelude.{flat_map, neg_ℤ, IsPermutation, not, slice_index_or}
use Rattle.std.specs.List.{position_or_len}
use Rattle.std.specs.Option.{option_map, option_to_list}
use Rattle.std.specs.Str.{bytes_eq}
use Rattle.std.proofs.lemmas.List.{map-append}
use Rattle.std.proofs.lemmas.List.Elements.{Contains-get_or, All-nil, All-cons}
use Rattle.std.proofs.lemmas.List.Quantifiers.{position-Some}
use Rattle.std.proofs.lemmas.List.Sorted.{Contains-permutation, IsPermutation-sym}
use Rattle.std.proofs.lemmas.Option.{slice_get-get_or, slice_get_within, get_or_from_slice_get}
use Rattle.std.proofs.lemmas.Slice.Eq.{bytes_eq-Decides}
use Rattle.entry_list.specs.InTurn.{InTurn}
use Rattle.grid_net.specs.declared.part.Pad.{Pad}
use Rattle.grid_net.specs.declared.part.Load.{Load as NetLoad}
use Rattle.grid_net.specs.Network.{Network}
use Rattle.grid_net.specs.Building.{network_of, first_net_refusal}
use Rattle.grid_net.specs.declared.error.NetError.{NetError}
use Rattle.name_table.specs.Laws.{member_cases}
use Rattle.node_names.specs.Folding.{folded}
use Rattle.reading.specs.Word.{Token}
use Rattle.spice_cards.specs.declared.record.Cards.{Cards}
use Rattle.spice_cards.specs.Card.{Card, Resistor, Source, Load, Capacitor, is_ground, cards_of, capacitors_of}
use Rattle.spice_cards.specs.Fault.{is_zero}
use Rattle.spice_cards.specs.Number.{IsCapacitance}
use Rattle.spice_cards.specs.Record.{HasNumber, Part, resistor_part, short_part, load_part, SaysCard, SaysSource, LoadsNode, SaysCards, AreNumbered}
use Rattle.spice_grid.specs.declared.error.NetRefusal.{NetRefusal}
use Rattle.spice_grid.specs.declared.error.NetRefusal.TheVariants.{Range, PadConflict}
use Rattle.spice_grid.specs.declared.error.SpiceKind.TheVariants as kinds
use Rattle.spice_grid.specs.declared.named.Named.{Named}
use Rattle.spice_grid.specs.Place.{placed_resistor, placed_short, placed_pad, placed_load}
use Rattle.spice_grid.specs.Caps.{EndAmong}
use Rattle.spice_grid.specs.Named.{IsOrderOf, place_in, ground, ground_pads, all_pads, network_in, refusal_in, IsNamed, IsRefusedFor, RefusesCards}
use Rattle.spice_grid.specs.Netlist.{SaysInOrder, resistors_of, shorts_of, loads_of, pads_of, network_by, refusal_by, IsNamedBy, RefusesNetwork, NamedKeeps}
use Rattle.spice_grid.proofs.CapLemmas.{caps_are, caps_among, caps_hold}

-- ## places of names

-- A name that is in a list is found there, first at the place that the search tells.
found_by : (b : Bool) (x y : List ℕ) (xs : List (List ℕ)) → bytes_eq x y ≡ b → (Contains xs x → slice_get xs (position_or_len (bytes_eq x) xs) ≡ Some x) → Contains (y ∷ xs) x →
    slice_get (y ∷ xs) (cond (not b) (1 + position_or_len (bytes_eq x) xs) 0) ≡ Some x
found_by true x y xs e rest h = ap Some (sym ((bytes_eq-Decides x y).0 e))
found_by false x y xs e rest h = elim (member_cases y xs x h) [
  | inl same ↦ absurd (differ same e)
  | inr k ↦ subst (λ n. slice_get (y ∷ xs) n ≡ Some x) next (rest k)
]
  where
    differ : y ≡ x → bytes_eq x y ≡ false → ⊥
    differ same apart = let yes = (bytes_eq-Decides x y).1 (sym same) in cc

    next : suc (position_or_len (bytes_eq x) xs) ≡ 1 + position_or_len (bytes_eq x) xs
    next = omega arith

found : (x : List ℕ) (xs : List (List ℕ)) → Contains xs x → slice_get xs (position_or_len (bytes_eq x) xs) ≡ Some x
found x [] h = absurd (omega (arith, h.1))
found x (y ∷ xs) h = found_by (bytes_eq x y) x y xs refl (λ k. found x xs k) h

-- What stands at a place is in the list.
has : (xs : List (List ℕ)) (n : ℕ) (x : List ℕ) → slice_get xs n ≡ Some x → Contains xs x
has xs n x h = subst (Contains xs) (get_or_from_slice_get xs n x [] h) (Contains-get_or xs n [] (slice_get_within xs n x h))

-- A name has its place among the ordered names.
pub placed_name : (names ordered : List (List ℕ)) → IsPermutation names ordered → (n : ℕ) (x : List ℕ) → slice_get names n ≡ Some x → slice_get ordered (place_in names ordered n) ≡ Some x
placed_name names ordered same n x h =
    let is : slice_index_or names n [] ≡ x = get_or_from_slice_get names n x [] h in
    subst (λ y. slice_get ordered (position_or_len (bytes_eq y) ordered) ≡ Some x) (sym is)
    (found x ordered (Contains-permutation names ordered x same (has names n x h)))

-- ## ground

abbrev pad_at : ℕ → Pad
pad_at number = record { node = number; volts = pos 0 }

pub is_there : (x : List ℕ) (xs : List (List ℕ)) (n : ℕ) → position (bytes_eq x) xs ≡ Some n → slice_get xs n ≡ Some x
is_there x xs n e =
    let at = position-Some (bytes_eq x) xs n [] e in
    slice_get-get_or xs n [] at.0 ∙ ap Some (sym ((bytes_eq-Decides x (get_or xs n [])).0 at.1))

pub position_is : (x : List ℕ) (xs : List (List ℕ)) → Contains xs x → position (bytes_eq x) xs ≡ Some (position_or_len (bytes_eq x) xs)
position_is x xs h =
    let within : position_or_len (bytes_eq x) xs < length xs = slice_get_within xs (position_or_len (bytes_eq x) xs) x (found x xs h) in
    grind (arith, within)

-- Ground's own pad moves with its node.
ground_by : (names ordered : List (List ℕ)) → IsPermutation names ordered → (o p : Option ℕ) → position (bytes_eq ground) names ≡ o → position (bytes_eq ground) ordered ≡ p →
    option_to_list (option_map (λ number. pad_at number) p) ≡ map (placed_pad (place_in names ordered)) (option_to_list (option_map (λ number. pad_at number) o))
ground_by names ordered same None None e f = refl
ground_by names ordered same (Some n) p e f =
    let here : slice_get names n ≡ Some ground = is_there ground names n e in
    let there = placed_name names ordered same n ground here in
    let is : slice_index_or names n [] ≡ ground = get_or_from_slice_get names n ground [] here in
    let q : position (bytes_eq ground) ordered ≡ Some (position_or_len (bytes_eq ground) ordered) = position_is ground ordered (has ordered (place_in names ordered n) ground there) in
    ap (λ z. option_to_list (option_map (λ number. pad_at number) z)) (sym f ∙ q ∙ ap (λ y. Some (position_or_len (bytes_eq y) ordered)) (sym is))
ground_by names ordered same None (Some m) e f =
    let there : slice_get ordered m ≡ Some ground = is_there ground ordered m f in
    let back = Contains-permutation ordered names ground (IsPermutation-sym names ordered same) (has ordered m ground there) in
    let q = position_is ground names back in absurd (none_some (position_or_len (bytes_eq ground) names) (sym e ∙ q))
  where
    none_some : (k : ℕ) → ◌≡◌ {A = Option ℕ} None (Some k) → ⊥
    none_some k h = cc

pub ground_moves : (names ordered : List (List ℕ)) → IsPermutation names ordered → ground_pads ordered ≡ map (placed_pad (place_in names ordered)) (ground_pads names)
ground_moves names ordered same = ground_by names ordered same (position (bytes_eq ground) names) (position (bytes_eq ground) ordered) refl refl

-- ## what cards say

-- A part whose nodes get other numbers.
abbrev pub placed_part : (ℕ → ℕ) → Part → Part
placed_part place part = record {
  resistors = map (placed_resistor place) part.resistors;
  shorts = map (placed_short place) part.shorts;
  pads = map (placed_pad place) part.pads;
  loads = map (placed_load place) part.loads;
}

module _ (names ordered : List (List ℕ)) (same : IsPermutation names ordered) where
  abbrev place : ℕ → ℕ
  place = place_in names ordered

  moved : (name : List ℕ) (n : ℕ) → HasNumber names name n → HasNumber ordered name (place n)
  moved name n h = placed_name names ordered same n (folded name) h

  either_moves : (zero : Bool) (m n : ℕ) (v : ℤ) (part : Part) → part ≡ (if zero then short_part m n else resistor_part m n v) →
      placed_part place part ≡ (if zero then short_part (place m) (place n) else resistor_part (place m) (place n) v)
  either_moves true m n v part e = ap (placed_part place) e
  either_moves false m n v part e = ap (placed_part place) e

  source_moves : (first second : Bool) (a b : List ℕ) (v : ℤ) (part : Part) → SaysSource first second names a b v part → SaysSource first second ordered a b v (placed_part place part)
  source_moves true true a b v part h = (place h.0, moved a h.0 h.1, ap (placed_part place) h.2)
  source_moves true false a b v part h = (place h.0, moved b h.0 h.1, ap (placed_part place) h.2)
  source_moves false true a b v part h = (place h.0, moved a h.0 h.1, ap (placed_part place) h.2)
  source_moves false false a b v part h = (place h.0, place h.1, moved a h.0 h.2, moved b h.1 h.3, h.4, ap (placed_part place) h.5)

  node_moves : (first : Bool) (name : List ℕ) (low high : ℤ) (loads : List NetLoad) → LoadsNode first names name low high loads → LoadsNode first ordered name low high (map (placed_load place) loads)
  node_moves true name low high loads h = ap (map (placed_load place)) h
  node_moves false name low high loads h = (place h.0, moved name h.0 h.1, ap (map (placed_load place)) h.2)

  part_moves : (card : Card) (part : Part) → SaysCard names card part → SaysCard ordered card (placed_part place part)
  part_moves (Resistor a b value) part h = (h.0, place h.1, place h.2, h.3, moved a h.1 h.4, moved b h.2 h.5, either_moves (is_zero h.0) h.1 h.2 h.0 part h.6)
  part_moves (Source a b value) part h = (h.0, h.1, source_moves (is_ground a) (is_ground b) a b h.0 part h.2)
  part_moves (Load a b value range) part h =
      let s = h.5 in (
        h.0,
        h.1,
        h.2,
        h.3,
        h.4,
        (
          map (placed_load place) s.0,
          map (placed_load place) s.1,
          node_moves (is_ground a) a h.1 h.2 s.0 s.2,
          node_moves (is_ground b) b (neg_ℤ h.2) (neg_ℤ h.1) s.1 s.3,
          ap (placed_part place) s.4 ∙ ap load_part (map-append (placed_load place) s.0 s.1),
        ),
      )
  part_moves (Capacitor a b value) part h = ap (placed_part place) h

  parts_move : (cards : List Card) (parts : List Part) → InTurn (SaysCard names) cards parts → InTurn (SaysCard ordered) cards (map (placed_part place) parts)
  parts_move [] [] h = tt
  parts_move (card ∷ cards) (part ∷ parts) h = (part_moves card part h.0, parts_move cards parts h.1)
  parts_move [] (part ∷ parts) h = absurd h
  parts_move (card ∷ cards) [] h = absurd h

-- A list of all parts, where each entry moves.
lists_move : {A : Type 0} (field : Part → List A) (move : A → A) (move_part : Part → Part) → ((part : Part) → field (move_part part) ≡ map move (field part)) → (parts : List Part) →
    flat_map field (map move_part parts) ≡ map move (flat_map field parts)
lists_move field move move_part each [] = refl
lists_move field move move_part each (part ∷ parts) =
    ap (λ z. z ++ flat_map field (map move_part parts)) (each part) ∙ ap (λ z. map move (field part) ++ z) (lists_move field move move_part each parts)
    ∙ sym (map-append move (field part) (flat_map field parts))

-- ## the cards in byte order

module _ (units : List (List Token)) (cards : Cards) (h : SaysCards units cards) (ordered : List (List ℕ)) (o : IsOrderOf cards.names ordered) where
  abbrev to : ℕ → ℕ
  to = place_in cards.names ordered

  -- The parts of the cards, with the places of the names.
  abbrev pub parts_there : List Part
  parts_there = map (placed_part to) h.parts

  pub says_in_order : SaysInOrder units ordered parts_there
  says_in_order = record {
    says = parts_move cards.names ordered o.same_names (cards_of units) h.parts h.says;
    in_byte_order = o.in_byte_order;
    nodes = λ name. (
      (λ k. (h.nodes name).0 (Contains-permutation ordered cards.names name (IsPermutation-sym cards.names ordered o.same_names) k)),
      (λ k. Contains-permutation cards.names ordered name o.same_names ((h.nodes name).1 k)),
    );
  }

  resistors_there : map (placed_resistor to) cards.resistors.items ≡ resistors_of parts_there
  resistors_there = ap (map (placed_resistor to)) h.resistors ∙ sym (lists_move (λ part. part.resistors) (placed_resistor to) (placed_part to) (λ part. refl) h.parts)

  loads_there : map (placed_load to) cards.loads.items ≡ loads_of parts_there
  loads_there = ap (map (placed_load to)) h.loads ∙ sym (lists_move (λ part. part.loads) (placed_load to) (placed_part to) (λ part. refl) h.parts)

  pub shorts_there : map (placed_short to) cards.shorts.items ≡ shorts_of parts_there
  shorts_there = ap (map (placed_short to)) h.shorts ∙ sym (lists_move (λ part. part.shorts) (placed_short to) (placed_part to) (λ part. refl) h.parts)

  given_pads_there : map (placed_pad to) cards.pads.items ≡ flat_map (λ part. part.pads) parts_there
  given_pads_there = ap (map (placed_pad to)) h.pads ∙ sym (lists_move (λ part. part.pads) (placed_pad to) (placed_part to) (λ part. refl) h.parts)

  pads_there : map (placed_pad to) (all_pads cards) ≡ pads_of ordered parts_there
  pads_there = map-append (placed_pad to) cards.pads.items (ground_pads cards.names)
      ∙ ap (λ z. z ++ map (placed_pad to) (ground_pads cards.names)) given_pads_there
      ∙ ap (λ z. flat_map (λ part. part.pads) parts_there ++ z) (sym (ground_moves cards.names ordered o.same_names))

  pub network_there : network_in cards ordered ≡ network_by ordered parts_there
  network_there = λ i. network_of (length ordered) (resistors_there i) (pads_there i) (loads_there i)

  pub refusal_there : refusal_in cards ordered ≡ refusal_by ordered parts_there
  refusal_there = λ i. first_net_refusal (length ordered) (resistors_there i) (pads_there i) (loads_there i)

-- ## the answers

pub named_is : (units : List (List Token)) (cards : Cards) (named : Named) → SaysCards units cards → IsNamed cards named → refusal_in cards named.names ≡ None → IsNamedBy units named
named_is units cards named h is fine = record {
  parts = parts_there units cards h named.names is.order;
  order = says_in_order units cards h named.names is.order;
  accepted = sym (refusal_there units cards h named.names is.order) ∙ fine;
  network = is.network ∙ network_there units cards h named.names is.order;
  shorts = is.shorts ∙ shorts_there units cards h named.names is.order;
  caps = caps_are named.names (capacitors_of units) cards.caps.items named.caps h.caps is.caps;
}

refusal_is : (names : List (List ℕ)) (a b : Option NetError) (refusal : NetRefusal) → a ≡ b → IsRefusedFor names a refusal → IsRefusedFor names b refusal
refusal_is names a b (Range quantity at number) e h = sym e ∙ h
refusal_is names a b (PadConflict node first second) e h = (h.0, h.1, sym e ∙ h.2)

pub network_refused : (units : List (List Token)) (cards : Cards) (refusal : NetRefusal) → SaysCards units cards → RefusesCards cards (kinds.Net refusal) → RefusesNetwork units refusal
network_refused units cards refusal h (names, order, told) = (
  names,
  parts_there units cards h names order,
  says_in_order units cards h names order,
  refusal_is names (refusal_in cards names) (refusal_by names (parts_there units cards h names order)) refusal (refusal_there units cards h names order) told,
)

-- A number below the count of names has its place below that of the ordered ones.
place_within : (names ordered : List (List ℕ)) → IsPermutation names ordered → (n : ℕ) → n < length names → place_in names ordered n < length ordered
place_within names ordered same n h =
    slice_get_within ordered (place_in names ordered n) (get_or names n []) (placed_name names ordered same n (get_or names n []) (slice_get-get_or names n [] h))

pub named_keeps : (cards : Cards) (named : Named) → AreNumbered cards → All (λ cap. IsCapacitance cap.farads) cards.caps.items → IsNamed cards named → NamedKeeps named
named_keeps cards named numbered farads is =
    let count : length named.names ≡ named.net.nodes = sym (ap (λ (n : Network). n.nodes) is.network) in record {
      one_name_per_node = count;
      in_byte_order = is.order.in_byte_order;
      shorts_are_nodes =
          subst (λ (l : List (ℕ × ℕ)). All (λ s. (s.0 < named.net.nodes) × (s.1 < named.net.nodes)) l) (sym is.shorts)
          (subst (λ n. All (λ s. (s.0 < n) × (s.1 < n)) (map (placed_short (place_in cards.names named.names)) cards.shorts.items)) count
          (placed_within cards.names named.names is.order.same_names cards.shorts.items numbered.shorts));
      ends_among_nodes = subst (λ n. EndAmong n named.caps) count (caps_among named.names cards.caps.items named.caps is.caps);
      capacitances = caps_hold named.names cards.caps.items named.caps is.caps farads;
    }
  where
    placed_within : (names ordered : List (List ℕ)) → IsPermutation names ordered → (shorts : List (ℕ × ℕ)) → All (λ s. (s.0 < length names) × (s.1 < length names)) shorts →
        All (λ s. (s.0 < length ordered) × (s.1 < length ordered)) (map (placed_short (place_in names ordered)) shorts)
    placed_within names ordered same [] all = All-nil (λ s. (s.0 < length ordered) × (s.1 < length ordered))
    placed_within names ordered same (s ∷ shorts) all =
        All-cons (λ s. (s.0 < length ordered) × (s.1 < length ordered)) (placed_short (place_in names ordered) s) (map (placed_short (place_in names ordered)) shorts)
        (place_within names ordered same s.0 (all 0 s (omega arith)).0, place_within names ordered same s.1 (all 0 s (omega arith)).1)
        (placed_within names ordered same shorts (λ k d w. all (suc k) d (omega arith)))
