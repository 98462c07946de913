-- The capacitances that are read.
use Rattle.std.proofs.Common.{ℕ, ◌≤◌, ◌^◌, ℤ, ◌≤ℤ◌, pos, List, All, Ok, arith}
use Rattle.std.specs.Prelude.{unsigned_abs}
use Rattle.std.proofs.lemmas.Int.{ints}
use Rattle.entry_list.specs.Laws.{in-turn-all}
use Rattle.number_place.specs.declared.place.NumberPlace.{NumberPlace}
use Rattle.number_place.specs.Place.{IsNumberAt, HasSign}
use Rattle.reading.specs.Word.{Token}
use Rattle.spice_cards.specs.declared.record.Cards.{Cards}
use Rattle.spice_cards.specs.Card.{capacitors_of}
use Rattle.spice_cards.specs.Number.{farads, IsCapacitance}
use Rattle.spice_cards.specs.Record.{SaysCapacitor, SaysCards}

-- A value of a place is within its limit and has its sign.
abbrev pub IsWithin : Type 0
IsWithin = (place : NumberPlace) (text : List ℕ) (value : ℤ) → IsNumberAt place text (Ok value) → unsigned_abs value ≤ place.limit

abbrev pub IsSigned : Type 0
IsSigned = (place : NumberPlace) (text : List ℕ) (value : ℤ) → IsNumberAt place text (Ok value) → HasSign place.sign value

at_most : (value : ℤ) (n : ℕ) → unsigned_abs value ≤ n → value ≤ℤ pos n
at_most value n h = omega (arith, ints)

-- Each capacitance of a netlist is from 0 to its limit.
pub caps_fit : IsWithin → IsSigned → (units : List (List Token)) (cards : Cards) → SaysCards units cards → All (λ cap. IsCapacitance cap.farads) cards.caps.items
caps_fit within signed units cards h =
    in-turn-all SaysCapacitor (λ cap. IsCapacitance cap.farads)
    (λ card read says. (signed farads card.value read.farads says.farads, at_most read.farads (10 ^ 30) (within farads card.value read.farads says.farads)))
    (capacitors_of units) cards.caps.items h.caps
