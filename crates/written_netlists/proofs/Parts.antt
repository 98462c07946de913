-- What the cards of a written network say: its resistors, its pads and its loads, with the names of their nodes.
use Rattle.std.proofs.Common.{◌≡◌, ◌≢◌, ℕ, ◌<◌, ◌≤◌, ◌^◌, Bool, true, false, ℤ, pos, List, [], ◌∷◌, ◌++◌, length, codes, All, refl, sym, ◌∙◌, ap, subst, arith}
use Rattle.std.specs.Prelude.{Some, if◌then◌else◌, unsigned_abs, int_lt, ◌≤ℤ◌, neg_ℤ, nat_lt, decimal}
use Rattle.std.specs.Ordering.{int_eq}
use Rattle.std.proofs.lemmas.List.Elements.{All-get_or}
use Rattle.std.proofs.lemmas.Option.{slice_get-get_or}
use Rattle.std.proofs.lemmas.Slice.Eq.{bytes_eq-Decides}
use Rattle.std.proofs.lemmas.Bool.Decides.{Decides-int_eq}
use Rattle.std.proofs.lemmas.Int.{ints}
use Rattle.std.specs.Int.Signed.{≤ℤ_refl}
use Rattle.fixed_decimal.specs.Printed.{printed}
use Rattle.grid_net.specs.declared.part.Resistor.{Resistor}
use Rattle.grid_net.specs.declared.part.Pad.{Pad}
use Rattle.grid_net.specs.declared.part.Load.{Load}
use Rattle.grid_net.specs.declared.part.LoadRange.{LoadRange}
use Rattle.grid_net.specs.Limits.{greatest_resistance, greatest_voltage, greatest_load, IsInLimit}
use Rattle.node_names.specs.Folding.{folded}
use Rattle.spice_cards.specs.Card.{is_ground}
use Rattle.spice_cards.specs.Fault.{is_zero}
use Rattle.spice_cards.specs.Record.{HasNumber, resistor_part, short_part, pad_part, load_part, SaysSource, LoadsNode, SaysCard, source_nodes, nodes_of}
use Rattle.spice_grid.specs.Named.{ground}
use Rattle.spice_grid.specs.Written.{name_of, card_end}
use Rattle.written_netlists.specs.Fits.{IsNodeName}
use Rattle.written_netlists.proofs.Lines.{IsText}
use Rattle.written_netlists.proofs.Values.{NumberLaws, numbered_text, printed_is}
use Rattle.written_netlists.proofs.Cards.{CardText, Ohms, Volts, Amps, AmpsIn}
use Rattle.written_netlists.proofs.Taken.{AmpsIs, IsCard, said_card}

-- ## the cards of a network

abbrev pub resistor_card : List (List ℕ) → ℕ × Resistor → CardText
resistor_card names k = Ohms (decimal k.0) (name_of names k.1.a) (name_of names k.1.b) (printed k.1.ohms 9)

abbrev pub pad_card : List (List ℕ) → ℕ × Pad → CardText
pad_card names k = Volts (decimal k.0) (name_of names k.1.node) (printed k.1.volts 24)

abbrev pub load_card : List (List ℕ) → ℕ × (ℕ × LoadRange) → CardText
load_card names k =
    if int_eq k.1.1.low k.1.1.high then Amps (decimal k.0) (name_of names k.1.0) (printed (card_end k.1.1) 15)
    else AmpsIn (decimal k.0) (name_of names k.1.0) (printed (card_end k.1.1) 15) (printed k.1.1.low 15) (printed k.1.1.high 15)

-- ## what is asked of its entries

abbrev pub IsResistorHere : ℕ → Resistor → Type 0
IsResistorHere nodes r = (r.a < nodes) × (r.b < nodes) × (pos 1 ≤ℤ r.ohms) × (r.ohms ≤ℤ pos greatest_resistance)

abbrev pub IsPadHere : ℕ → Pad → Type 0
IsPadHere nodes p = (p.node < nodes) × IsInLimit greatest_voltage p.volts

abbrev pub IsLoadHere : ℕ → ℕ × LoadRange → Type 0
IsLoadHere nodes l = (l.0 < nodes) × (l.1.low ≤ℤ l.1.high) × (unsigned_abs l.1.low ≤ greatest_load) × (unsigned_abs l.1.high ≤ greatest_load)

-- ## the end of a load that its card has

not_less : (x y : ℤ) → y ≤ℤ x → int_lt x y ≡ false
not_less x y h = grind (arith, ints)

end_by : (t : Bool) (low high : ℤ) → low ≤ℤ high → (low ≤ℤ (if t then low else high)) × ((if t then low else high) ≤ℤ high)
end_by true low high h = (≤ℤ_refl low, h)
end_by false low high h = (h, ≤ℤ_refl high)

end_size : (t : Bool) (low high : ℤ) (most : ℕ) → unsigned_abs low ≤ most → unsigned_abs high ≤ most → unsigned_abs (if t then low else high) ≤ most
end_size true low high most h k = h
end_size false low high most h k = k

end_same : (t : Bool) (low high : ℤ) → low ≡ high → (low ≡ (if t then low else high)) × (high ≡ (if t then low else high))
end_same true low high e = (refl, sym e)
end_same false low high e = (e, refl)

-- The entry of a load.
abbrev pub entry : ℕ → LoadRange → Load
entry node l = record { node = node; low = l.low; high = l.high }

few_ohms : (z : ℤ) → pos 1 ≤ℤ z → z ≤ℤ pos greatest_resistance → unsigned_abs z ≤ 10 ^ 30
few_ohms z low high = grind arith

few_volts : (z : ℤ) → neg_ℤ (pos greatest_voltage) ≤ℤ z → z ≤ℤ pos greatest_voltage → unsigned_abs z ≤ 10 ^ 30
few_volts z low high = grind arith

not_zero : (z : ℤ) → pos 1 ≤ℤ z → is_zero z ≡ false
not_zero z h = grind (arith, ints)

-- ## names

module _ (names : List (List ℕ)) (good : All IsNodeName names) where
  name_good : (i : ℕ) → i < length names → IsNodeName (name_of names i)
  name_good i l = All-get_or IsNodeName names i [] l good

  name_text : (i : ℕ) → i < length names → IsText (name_of names i)
  name_text i l = let n = name_good i l in record { some = n.word.some; plain = n.word.plain }

  has_number : (i : ℕ) → i < length names → HasNumber names (name_of names i) i
  has_number i l = slice_get-get_or names i [] l ∙ ap Some (sym (name_good i l).no_capitals)

  no_ground_by : (i : ℕ) (is : Bool) → is_ground (name_of names i) ≡ is → (name_of names i ≢ ground) → is_ground (name_of names i) ≡ false
  no_ground_by i true e n = absurd (n ((bytes_eq-Decides (name_of names i) (codes "0")).0 e))
  no_ground_by i false e n = e

  no_ground : (i : ℕ) → i < length names → is_ground (name_of names i) ≡ false
  no_ground i l = no_ground_by i (is_ground (name_of names i)) refl (name_good i l).not_ground

  -- ## the cards are those that read back

  pub resistor_is : NumberLaws → (k : ℕ × Resistor) → IsResistorHere (length names) k.1 → IsCard (resistor_card names k)
  resistor_is laws k h = record {
    head = numbered_text 82 k.0 (omega arith);
    first = name_text k.1.a h.0;
    second = name_text k.1.b h.1;
    number = k.1.ohms;
    is = printed_is laws k.1.ohms 9 (10 ^ 30) (omega arith) (omega arith) (few_ohms k.1.ohms h.2 h.3);
  }

  pub pad_is : NumberLaws → (k : ℕ × Pad) → IsPadHere (length names) k.1 → IsCard (pad_card names k)
  pad_is laws k h = record {
    head = numbered_text 86 k.0 (omega arith);
    first = name_text k.1.node h.0;
    number = k.1.volts;
    is = printed_is laws k.1.volts 24 (10 ^ 30) (omega arith) (omega arith) (few_volts k.1.volts h.1.0 h.1.1);
  }

  abbrev amps_is : NumberLaws → (number node : ℕ) (value : ℤ) → node < length names → unsigned_abs value ≤ greatest_load →
      AmpsIs (decimal number) (name_of names node) (printed value 15)
  amps_is laws number node value l few = record {
    head = numbered_text 73 number (omega arith);
    first = name_text node l;
    number = value;
    is = printed_is laws value 15 (10 ^ 18) (omega arith) (omega arith) few;
  }

  load_is_by : NumberLaws → (t : Bool) (number node : ℕ) (l : LoadRange) → node < length names → l.low ≤ℤ l.high →
      unsigned_abs l.low ≤ greatest_load → unsigned_abs l.high ≤ greatest_load →
      IsCard (if t then Amps (decimal number) (name_of names node) (printed (card_end l) 15)
      else AmpsIn (decimal number) (name_of names node) (printed (card_end l) 15) (printed l.low 15) (printed l.high 15))
  load_is_by laws true number node l within up low high =
      amps_is laws number node (card_end l) within (end_size (nat_lt (unsigned_abs l.high) (unsigned_abs l.low)) l.low l.high greatest_load low high)
  load_is_by laws false number node l within up low high =
      let between = end_by (nat_lt (unsigned_abs l.high) (unsigned_abs l.low)) l.low l.high up in (
        amps_is laws number node (card_end l) within (end_size (nat_lt (unsigned_abs l.high) (unsigned_abs l.low)) l.low l.high greatest_load low high),
        record {
          low_number = l.low;
          high_number = l.high;
          low_is = printed_is laws l.low 15 (10 ^ 18) (omega arith) (omega arith) low;
          high_is = printed_is laws l.high 15 (10 ^ 18) (omega arith) (omega arith) high;
          not_above = not_less (card_end l) l.low between.0;
          not_below = not_less l.high (card_end l) between.1;
        },
      )

  pub load_is : NumberLaws → (k : ℕ × (ℕ × LoadRange)) → IsLoadHere (length names) k.1 → IsCard (load_card names k)
  load_is laws k h = load_is_by laws (int_eq k.1.1.low k.1.1.high) k.0 k.1.0 k.1.1 h.0 h.1 h.2 h.3

  -- ## what they say

  pub resistor_says : NumberLaws → (k : ℕ × Resistor) → IsResistorHere (length names) k.1 →
      SaysCard names (said_card (resistor_card names k)) (resistor_part k.1.a k.1.b k.1.ohms)
  resistor_says laws k h = (
    k.1.ohms,
    k.1.a,
    k.1.b,
    (printed_is laws k.1.ohms 9 (10 ^ 30) (omega arith) (omega arith) (few_ohms k.1.ohms h.2 h.3)).number,
    has_number k.1.a h.0,
    has_number k.1.b h.1,
    ap (λ z. if z then short_part k.1.a k.1.b else resistor_part k.1.a k.1.b k.1.ohms) (sym (not_zero k.1.ohms h.2)),
  )

  pub pad_says : NumberLaws → (k : ℕ × Pad) → IsPadHere (length names) k.1 → SaysCard names (said_card (pad_card names k)) (pad_part k.1.node k.1.volts)
  pad_says laws k h = (
    k.1.volts,
    (printed_is laws k.1.volts 24 (10 ^ 30) (omega arith) (omega arith) (few_volts k.1.volts h.1.0 h.1.1)).number,
    subst (λ z. SaysSource z true names (name_of names k.1.node) (codes "0") k.1.volts (pad_part k.1.node k.1.volts)) (sym (no_ground k.1.node h.0))
        (k.1.node, has_number k.1.node h.0, refl),
  )

  load_node : (node : ℕ) (l : LoadRange) → node < length names → LoadsNode (is_ground (name_of names node)) names (name_of names node) l.low l.high (entry node l ∷ [])
  load_node node l within =
      subst (λ z. LoadsNode z names (name_of names node) l.low l.high (entry node l ∷ [])) (sym (no_ground node within)) (node, has_number node within, refl)

  load_says_by : NumberLaws → (t : Bool) (number node : ℕ) (l : LoadRange) → int_eq l.low l.high ≡ t → node < length names → l.low ≤ℤ l.high →
      unsigned_abs l.low ≤ greatest_load → unsigned_abs l.high ≤ greatest_load →
      SaysCard names (said_card (if t then Amps (decimal number) (name_of names node) (printed (card_end l) 15)
      else AmpsIn (decimal number) (name_of names node) (printed (card_end l) 15) (printed l.low 15) (printed l.high 15))) (load_part (entry node l ∷ []))
  load_says_by laws true number node l e within up low high =
      let test = nat_lt (unsigned_abs l.high) (unsigned_abs l.low) in
      let same = end_same test l.low l.high ((Decides-int_eq l.low l.high).0 e) in (
        card_end l,
        l.low,
        l.high,
        (printed_is laws (card_end l) 15 (10 ^ 18) (omega arith) (omega arith) (end_size test l.low l.high greatest_load low high)).number,
        (same.0, same.1),
        (entry node l ∷ [], [], load_node node l within, refl, refl),
      )
  load_says_by laws false number node l e within up low high =
      let test = nat_lt (unsigned_abs l.high) (unsigned_abs l.low) in
      let between = end_by test l.low l.high up in (
        card_end l,
        l.low,
        l.high,
        (printed_is laws (card_end l) 15 (10 ^ 18) (omega arith) (omega arith) (end_size test l.low l.high greatest_load low high)).number,
        (
          (printed_is laws l.low 15 (10 ^ 18) (omega arith) (omega arith) low).number,
          (printed_is laws l.high 15 (10 ^ 18) (omega arith) (omega arith) high).number,
          between.0,
          between.1,
        ),
        (entry node l ∷ [], [], load_node node l within, refl, refl),
      )

  pub load_says : NumberLaws → (k : ℕ × (ℕ × LoadRange)) → IsLoadHere (length names) k.1 → SaysCard names (said_card (load_card names k)) (load_part (entry k.1.0 k.1.1 ∷ []))
  load_says laws k h = load_says_by laws (int_eq k.1.1.low k.1.1.high) k.0 k.1.0 k.1.1 refl h.0 h.1 h.2 h.3

  -- ## their nodes

  name_kept : (i : ℕ) → i < length names → folded (name_of names i) ≡ name_of names i
  name_kept i l = (name_good i l).no_capitals

  pub resistor_nodes : (k : ℕ × Resistor) → IsResistorHere (length names) k.1 → nodes_of (said_card (resistor_card names k)) ≡ name_of names k.1.a ∷ name_of names k.1.b ∷ []
  resistor_nodes k h = λ i. name_kept k.1.a h.0 i ∷ name_kept k.1.b h.1 i ∷ []

  pub pad_nodes : (k : ℕ × Pad) → IsPadHere (length names) k.1 → nodes_of (said_card (pad_card names k)) ≡ name_of names k.1.node ∷ []
  pad_nodes k h =
      ap (λ z. source_nodes z true (name_of names k.1.node) (codes "0")) (no_ground k.1.node h.0) ∙ ap (λ z. z ∷ []) (name_kept k.1.node h.0)

  load_nodes_by : (t : Bool) (number node : ℕ) (l : LoadRange) → node < length names →
      nodes_of (said_card (if t then Amps (decimal number) (name_of names node) (printed (card_end l) 15)
      else AmpsIn (decimal number) (name_of names node) (printed (card_end l) 15) (printed l.low 15) (printed l.high 15))) ≡ name_of names node ∷ []
  load_nodes_by true number node l within =
      ap (λ z. (if z then [] else (folded (name_of names node) ∷ [])) ++ []) (no_ground node within) ∙ ap (λ z. z ∷ []) (name_kept node within)
  load_nodes_by false number node l within =
      ap (λ z. (if z then [] else (folded (name_of names node) ∷ [])) ++ []) (no_ground node within) ∙ ap (λ z. z ∷ []) (name_kept node within)

  pub load_nodes : (k : ℕ × (ℕ × LoadRange)) → IsLoadHere (length names) k.1 → nodes_of (said_card (load_card names k)) ≡ name_of names k.1.0 ∷ []
  load_nodes k h = load_nodes_by (int_eq k.1.1.low k.1.1.high) k.0 k.1.0 k.1.1 h.0
