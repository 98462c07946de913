-- What the words of a unit say as numbers.
use Rattle.std.specs.Prelude.{◌≡◌, ℕ, ◌-◌, ℤ, List, length, Some, Ok}
use Rattle.number_place.specs.Place.{IsNumberAt}
use Rattle.wiring_file.specs.declared.error.WiringKind.{WiringKind}
use Rattle.wiring_file.specs.declared.number.Quantity.{Quantity}
use Rattle.wiring_file.specs.declared.section.Section.{Section}
use Rattle.wiring_file.specs.Fault.{IsRefusedAs}
use Rattle.wiring_file.specs.Number.{place_of, numbers_in, quantity_at}
use Rattle.wiring_file.specs.Unit.{text_at}
use Rattle.reading.specs.Word.{Token}

-- The word with this text, which has n words of a unit of the section before it, is a number that is refused.
abbrev pub IsRefusedAt : Section → ℕ → List ℕ → WiringKind → Type 0
IsRefusedAt section n text kind =
    (quantity : Quantity) × (quantity_at n (numbers_in section) ≡ Some quantity) × IsRefusedAs quantity text kind

-- The word with this text is this number, where a number stands in its place.
abbrev pub SaysAt : Section → ℕ → List ℕ → ℤ → Type 0
SaysAt section n text value = (quantity : Quantity) → quantity_at n (numbers_in section) ≡ Some quantity →
    IsNumberAt (place_of quantity) text (Ok value)

-- What the last of a unit's words so far says.
abbrev pub says : Section → List Token → ℤ → Type 0
says section part value = SaysAt section (length part - 1) (text_at (length part - 1) part) value
