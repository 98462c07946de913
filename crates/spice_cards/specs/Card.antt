-- The cards of a netlist, taken apart.
use Rattle.std.specs.Prelude.{ℕ, Bool, false, List, [], ◌∷◌, codes, Option, Some, None, filter_map, if◌then◌else◌}
use Rattle.std.specs.Str.{bytes_eq}
use Rattle.spice_cards.specs.declared.sort.Sort.{Sort}
use Rattle.spice_cards.specs.declared.sort.Sort.TheVariants as sorts
use Rattle.spice_cards.specs.Sort.{sort_of, the}
use Rattle.reading.specs.Word.{Token}

-- The two ends of a range line.
pub record Ends : Type 0 where
  pub low : List ℕ
  pub high : List ℕ

-- A card by its letter: its two ends, the text of its value, and of a load the range line after it, if there is one.
pub data Card : Type 0 where
  Resistor : List ℕ → List ℕ → List ℕ → Card
  Source : List ℕ → List ℕ → List ℕ → Card
  Load : List ℕ → List ℕ → List ℕ → Option Ends → Card
  Capacitor : List ℕ → List ℕ → List ℕ → Card

-- The card of a capacitor: its two ends and the text of its value.
pub record CapacitorCard : Type 0 where
  pub a : List ℕ
  pub b : List ℕ
  pub value : List ℕ

-- The name `0`, against which sources and loads are given.
abbrev pub is_ground : List ℕ → Bool
is_ground name = bytes_eq name (codes "0")

-- The words begin with `DC`.
abbrev pub is_dc_first : List Token → Bool
is_dc_first [] = false
is_dc_first (word ∷ words) = the sorts.Dc (sort_of word)

-- The words after the nodes of a source or a load, without `DC`.
abbrev pub without_dc : List Token → List Token
without_dc [] = []
without_dc (word ∷ words) = if is_dc_first (word ∷ words) then words else word ∷ words

-- How many words stand before the value of a source or a load: its letter with its name, its nodes, and perhaps `DC`.
abbrev pub value_at : List Token → ℕ
value_at words = if is_dc_first words then 4 else 3

-- What stands after the nodes of a whole card: its value and its end, and of a load perhaps its range line.
abbrev pub resistor_with : List ℕ → List ℕ → List Token → Option Card
resistor_with a b (value ∷ stop ∷ []) = Some (Resistor a b value.text)
resistor_with a b _ = None

abbrev pub source_with : List ℕ → List ℕ → List Token → Option Card
source_with a b (value ∷ stop ∷ []) = Some (Source a b value.text)
source_with a b _ = None

abbrev pub load_with : List ℕ → List ℕ → List Token → Option Card
load_with a b (value ∷ stop ∷ []) = Some (Load a b value.text None)
load_with a b (value ∷ range ∷ low ∷ high ∷ stop ∷ []) =
    Some (Load a b value.text (Some (record { low = low.text; high = high.text })))
load_with a b _ = None

abbrev pub capacitor_with : List ℕ → List ℕ → List Token → Option Card
capacitor_with a b (value ∷ stop ∷ []) = Some (Capacitor a b value.text)
capacitor_with a b _ = None

-- The card of this letter.
abbrev pub card_with : Sort → List ℕ → List ℕ → List Token → Option Card
card_with sorts.Resistor a b words = resistor_with a b words
card_with sorts.Source a b words = source_with a b (without_dc words)
card_with sorts.Load a b words = load_with a b (without_dc words)
card_with sorts.Capacitor a b words = capacitor_with a b words
card_with _ a b words = None

-- The card that a unit is, if it is one. The words of dot lines are none.
abbrev pub card_of : List Token → Option Card
card_of (first ∷ a ∷ b ∷ words) = card_with (sort_of first) a.text b.text words
card_of _ = None

-- The cards among units.
abbrev pub cards_of : List (List Token) → List Card
cards_of units = filter_map card_of units

-- The capacitor that a card is, if it is one.
abbrev pub capacitor_in : Card → Option CapacitorCard
capacitor_in (Capacitor a b value) = Some (record { a = a; b = b; value = value })
capacitor_in _ = None

-- The capacitors among units.
abbrev pub capacitors_of : List (List Token) → List CapacitorCard
capacitors_of units = filter_map capacitor_in (cards_of units)
