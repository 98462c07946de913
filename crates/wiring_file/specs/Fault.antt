-- The faults that the words of a unit show, each at the last one.
use Rattle.std.specs.Prelude.{◌≡◌, ◌≢◌, ◌⊎◌, ℕ, ◌+◌, ◌-◌, Bool, true, false, ℤ, pos, List, length, Some, Ok, Err}
use Rattle.number_place.specs.declared.place.Refused.{Refused}
use Rattle.number_place.specs.declared.place.Refused.TheVariants as refused
use Rattle.number_place.specs.Place.{IsNumberAt}
use Rattle.fixed_decimal.specs.declared.error.DecimalError.TheVariants.{Range}
use Rattle.wiring_file.specs.declared.error.WiringKind.{WiringKind}
use Rattle.wiring_file.specs.declared.error.WiringKind.TheVariants.{Syntax, Number}
use Rattle.wiring_file.specs.declared.number.Quantity.{Quantity}
use Rattle.wiring_file.specs.declared.number.Quantity.TheVariants.{Coordinate, NotNegative, Positive, Microns}
use Rattle.wiring_file.specs.declared.section.Section.{Section}
use Rattle.wiring_file.specs.declared.section.Section.TheVariants.{Die, Vias, Nets, Line}
use Rattle.wiring_file.specs.declared.sort.Sort.TheVariants.{Stripe, Open}
use Rattle.wiring_file.specs.Number.{place_of, numbers_in, quantity_at}
use Rattle.wiring_file.specs.Sort.{the}
use Rattle.wiring_file.specs.Standing.{Standing}
use Rattle.wiring_file.specs.Unit.{text_at, sort_at, is_entry}
use Rattle.reading.specs.declared.refusal.Found.{Found}
use Rattle.reading.specs.Word.{Token}

-- The kind of a number that is refused. A number of another sign is Syntax, and so are units beyond their limit.
abbrev pub kind_of : Quantity → Refused → WiringKind
kind_of quantity refused.Syntax = Syntax
kind_of Microns (refused.Number Range) = Syntax
kind_of quantity (refused.Number error) = Number error

-- The text is refused as a number of this quantity.
abbrev pub IsRefusedAs : Quantity → List ℕ → WiringKind → Type 0
IsRefusedAs quantity text kind =
    (reason : Refused) × IsNumberAt (place_of quantity) text (Err reason) × (kind ≡ kind_of quantity reason)

-- The last word is a number that is refused.
abbrev pub IsNumberFault : Section → List Token → WiringKind → Type 0
IsNumberFault section part kind =
    (quantity : Quantity) × (quantity_at (length part - 1) (numbers_in section) ≡ Some quantity)
    × IsRefusedAs quantity (text_at (length part - 1) part) kind

-- The word that has n words before it is this number.
abbrev pub Says : Quantity → ℕ → List Token → ℤ → Type 0
Says quantity n part value = IsNumberAt (place_of quantity) (text_at n part) (Ok value)

-- The corners of a die have one coordinate in common.
abbrev pub IsFlat : List Token → Type 0
IsFlat part =
    ((x : ℤ) × Says Coordinate 2 part x × Says Coordinate 6 part x)
    ⊎ ((y : ℤ) × Says Coordinate 3 part y × Says Coordinate 7 part y)

-- How many entries the head of the list says that it has.
abbrev pub HasCount : Standing → ℤ → Type 0
HasCount s count = IsNumberAt (place_of NotNegative) s.count (Ok count)

-- An entry too many, or an end with too few of them.
abbrev pub IsMiscounted : Standing → List Token → Type 0
IsMiscounted s part =
    ((is_entry part ≡ true) × HasCount s (pos s.entries))
    ⊎ ((is_entry part ≡ false) × (count : ℤ) × HasCount s count × (count ≢ pos s.entries))

-- The line's width is 0, and is not.
abbrev pub HasNoWidth : List Token → Type 0
HasNoWidth part = Says NotNegative 1 part (pos 0)

abbrev pub HasWidth : List Token → Type 0
HasWidth part = (width : ℤ) × Says NotNegative 1 part width × (width ≢ pos 0)

-- A line without a width has another shape than STRIPE.
abbrev pub HasOtherShape : List Token → Type 0
HasOtherShape part = HasNoWidth part × (the Stripe (sort_at 4 part) ≡ false)

-- A line without a width goes to another point, or one with a width has a via.
abbrev pub HasOtherEnd : List Token → Type 0
HasOtherEnd part =
    (HasNoWidth part × (the Open (sort_at 9 part) ≡ true)) ⊎ (HasWidth part × (the Open (sort_at 9 part) ≡ false))

-- The last word of a line does not fit what stands before it: a width after a line of its net that has a via, which would
-- be a piece after a stack; another shape than STRIPE without a width; another end.
abbrev pub IsUnfitLine : Bool → List Token → Type 0
IsUnfitLine placed part =
    ((length part ≡ 2) × (placed ≡ true) × HasWidth part)
    ⊎ (((length part ≡ 5) × HasOtherShape part) ⊎ ((length part ≡ 10) × HasOtherEnd part))

-- The last word does not fit what stands before it.
abbrev pub IsUnfit : Section → Standing → List Token → Type 0
IsUnfit Die s part = (length part ≡ 10) × IsFlat part
IsUnfit Vias s part = (length part ≡ 1) × IsMiscounted s part
IsUnfit Nets s part = (length part ≡ 1) × IsMiscounted s part
IsUnfit Line s part = IsUnfitLine s.placed part
IsUnfit _ s part = ⊥

-- Why the last of a unit's words so far is refused, which stands here: as a number, or since it does not fit.
abbrev pub LastFault : Standing → List Token → WiringKind → Type 0
LastFault s part kind = IsNumberFault s.section part kind ⊎ ((kind ≡ Syntax) × IsUnfit s.section s part)

-- The fault that the words of a unit so far show, which stands here.
abbrev pub fault_at : Standing → List Token → Found WiringKind → Type 0
fault_at s part found = (found.at + 1 ≡ length part) × LastFault s part found.kind
