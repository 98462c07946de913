-- The ranges of loads go up, and numbers are kept by the machine.
use Rattle.std.proofs.Common.{◌≡◌, ◌∙◌, ℕ, ◌^◌, ◌≤◌, ℤ, ◌≤ℤ◌, Bool, true, false, if◌then◌else◌, List, [], ◌∷◌, All, Option, Some, None, sym, ap, subst, arith, to_z, of_z}
use Rattle.std.specs.Prelude.{unsigned_abs, neg_ℤ, flat_map}
use Rattle.std.specs.Int.{w64, w128}
use Rattle.std.specs.Int.Signed.{lt_z, lt_z_no}
use Rattle.std.proofs.lemmas.Float.{T_from_false}
use Rattle.std.proofs.lemmas.Int.{ints, to_z-of_z, fits_signed_from_abs}
use Rattle.std.proofs.lemmas.List.Elements.{All-nil, All-cons, All-append}
use Rattle.entry_list.specs.InTurn.{InTurn}
use Rattle.grid_net.specs.declared.part.Load.{Load as NetLoad}
use Rattle.reading.specs.Word.{Token}
use Rattle.spice_cards.specs.declared.record.Cards.{Cards}
use Rattle.spice_cards.specs.Card.{Card, Resistor, Source, Load, Capacitor, Ends, is_ground, cards_of}
use Rattle.spice_cards.specs.Fault.{is_zero}
use Rattle.spice_cards.specs.Record.{Part, resistor_part, short_part, SaysCard, SaysSource, SaysCards, IsRange, LoadsNode}

-- ## kept numbers

pub kept_128 : (v : ℤ) (n : ℕ) → n ≤ 10 ^ 37 → unsigned_abs v ≤ n → to_z w128 (of_z w128 v) ≡ v
kept_128 v n limit h = to_z-of_z w128 v (fits_signed_from_abs w128 v (omega arith))

pub kept_64 : (v : ℤ) → unsigned_abs v ≤ 10 ^ 18 → to_z w64 (of_z w64 v) ≡ v
kept_64 v h = to_z-of_z w64 v (fits_signed_from_abs w64 v (omega arith))

turned_abs : (v : ℤ) → unsigned_abs (neg_ℤ v) ≡ unsigned_abs v
turned_abs v = omega (arith, ints)

-- Minus a number that is far within its width, as the machine keeps it.
pub kept_turned : (v turned : ℤ) → unsigned_abs v ≤ 10 ^ 30 → turned ≡ neg_ℤ v → to_z w128 (of_z w128 turned) ≡ neg_ℤ v
kept_turned v turned h e = ap (λ z. to_z w128 (of_z w128 z)) e ∙ kept_128 (neg_ℤ v) (10 ^ 30) (omega arith) (omega (arith, h, turned_abs v))

-- What the test of two kept numbers tells.
pub not_less : (a b kept_a kept_b : ℤ) → kept_a ≡ a → kept_b ≡ b → lt_z kept_a kept_b ≡ false → b ≤ℤ a
not_less a b kept_a kept_b same_a same_b h =
    subst (λ z. b ≤ℤ z) same_a (subst (λ z. z ≤ℤ kept_a) same_b (lt_z_no (T_from_false (lt_z kept_a kept_b) h)))

-- ## ranges

abbrev pub Rises : NetLoad → Type 0
Rises load = load.low ≤ℤ load.high

same_rises : (v : ℤ) → v ≤ℤ v
same_rises v = omega (arith, ints)

between : (low v high : ℤ) → low ≤ℤ v → v ≤ℤ high → low ≤ℤ high
between low v high h k = omega (arith, ints)

turned : (low high : ℤ) → low ≤ℤ high → neg_ℤ high ≤ℤ neg_ℤ low
turned low high h = omega (arith, ints)

range_rises : (range : Option Ends) (v low high : ℤ) → IsRange range v low high → low ≤ℤ high
range_rises None v low high h = subst (λ z. low ≤ℤ z) (sym h.1) (subst (λ z. z ≤ℤ v) (sym h.0) (same_rises v))
range_rises (Some ends) v low high h = between low v high h.2 h.3

none_rise : (loads : List NetLoad) → loads ≡ [] → All Rises loads
none_rise loads e = subst (λ z. All Rises z) (sym e) (All-nil Rises)

node_rises : (ground : Bool) (names : List (List ℕ)) (name : List ℕ) (low high : ℤ) (loads : List NetLoad) → low ≤ℤ high → LoadsNode ground names name low high loads → All Rises loads
node_rises true names name low high loads up h = none_rise loads h
node_rises false names name low high loads up h =
    subst (λ z. All Rises z) (sym h.2) (All-cons Rises (record { node = h.0; low = low; high = high }) [] up (All-nil Rises))

resistor_loads : (zero : Bool) (m n : ℕ) (v : ℤ) (part : Part) → part ≡ (if zero then short_part m n else resistor_part m n v) → part.loads ≡ []
resistor_loads true m n v part e = ap (λ (z : Part). z.loads) e
resistor_loads false m n v part e = ap (λ (z : Part). z.loads) e

source_loads : (first second : Bool) (names : List (List ℕ)) (a b : List ℕ) (v : ℤ) (part : Part) → SaysSource first second names a b v part → part.loads ≡ []
source_loads true true names a b v part h = ap (λ (z : Part). z.loads) h.2
source_loads true false names a b v part h = ap (λ (z : Part). z.loads) h.2
source_loads false true names a b v part h = ap (λ (z : Part). z.loads) h.2
source_loads false false names a b v part h = ap (λ (z : Part). z.loads) h.5

part_rises : (names : List (List ℕ)) (card : Card) (part : Part) → SaysCard names card part → All Rises part.loads
part_rises names (Resistor a b value) part h = none_rise part.loads (resistor_loads (is_zero h.0) h.1 h.2 h.0 part h.6)
part_rises names (Source a b value) part h = none_rise part.loads (source_loads (is_ground a) (is_ground b) names a b h.0 part h.2)
part_rises names (Load a b value range) part h =
    let s = h.5 in
    let up = range_rises range h.0 h.1 h.2 h.4 in
    subst (λ z. All Rises z) (sym (ap (λ (z : Part). z.loads) s.4)) (All-append Rises s.0 s.1
    (node_rises (is_ground a) names a h.1 h.2 s.0 up s.2)
    (node_rises (is_ground b) names b (neg_ℤ h.2) (neg_ℤ h.1) s.1 (turned h.1 h.2 up) s.3))
part_rises names (Capacitor a b value) part h = none_rise part.loads (ap (λ (z : Part). z.loads) h)

parts_rise : (names : List (List ℕ)) (cards : List Card) (parts : List Part) → InTurn (SaysCard names) cards parts → All Rises (flat_map (λ part. part.loads) parts)
parts_rise names [] [] h = All-nil Rises
parts_rise names (card ∷ cards) (part ∷ parts) h =
    All-append Rises part.loads (flat_map (λ (p : Part). p.loads) parts) (part_rises names card part h.0) (parts_rise names cards parts h.1)
parts_rise names [] (part ∷ parts) h = absurd h
parts_rise names (card ∷ cards) [] h = absurd h

-- The range of each load of a netlist goes up.
pub loads_rise : (units : List (List Token)) (cards : Cards) → SaysCards units cards → All Rises cards.loads.items
loads_rise units cards h = subst (λ z. All Rises z) (sym h.loads) (parts_rise cards.names (cards_of units) h.parts h.says)
