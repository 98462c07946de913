-- The numbers of wiring (LEF/DEF 5.8 Language Reference, "DEF Syntax"): whole numbers of the units of the design.
use Rattle.std.specs.Prelude.{◌≡◌, ◌≢◌, ℕ, ◌^◌, ℤ, List, Ok, Err}
use Rattle.def_wiring.specs.declared.error.WiresKind.{WiresKind}
use Rattle.def_wiring.specs.declared.error.WiresKind.TheVariants as kinds
use Rattle.def_wiring.specs.declared.number.Quantity.{Quantity}
use Rattle.def_wiring.specs.declared.number.Quantity.TheVariants as quantities
use Rattle.number_place.specs.declared.place.NumberPlace.{NumberPlace}
use Rattle.number_place.specs.declared.place.NumberForm.TheVariants.{Integer}
use Rattle.number_place.specs.declared.place.NumberSign.{NumberSign}
use Rattle.number_place.specs.declared.place.NumberSign.TheVariants.{Any, NotNegative, Positive}
use Rattle.number_place.specs.declared.place.Refused.{Refused}
use Rattle.number_place.specs.declared.place.Refused.TheVariants.{Syntax, Number}
use Rattle.number_place.specs.Place.{IsNumberAt}

-- A whole number at most 2^30 from 0.
abbrev pub whole : NumberSign → NumberPlace
whole sign = record { form = Integer; places = 0; limit = 2 ^ 30; sign = sign }

-- The place of a number, by what it stands for.
abbrev pub place_of : Quantity → NumberPlace
place_of quantities.Any = whole Any
place_of quantities.NotNegative = whole NotNegative
place_of quantities.Positive = whole Positive

-- The text is this number.
abbrev pub IsNumber : Quantity → List ℕ → ℤ → Type 0
IsNumber quantity text value = IsNumberAt (place_of quantity) text (Ok value)

-- The kind of a number that is refused.
abbrev pub kind_of : Refused → WiresKind
kind_of Syntax = kinds.Syntax
kind_of (Number error) = kinds.Number error

-- The text is refused as a number.
abbrev pub NumberFault : Quantity → List ℕ → WiresKind → Type 0
NumberFault quantity text kind = (refused : Refused) × IsNumberAt (place_of quantity) text (Err refused)
    × (kind ≡ kind_of refused)

-- The two texts are two different numbers.
abbrev pub IsOther : List ℕ → List ℕ → Type 0
IsOther one other = (v : ℤ) × (w : ℤ) × IsNumber quantities.Any one v × IsNumber quantities.Any other w × (v ≢ w)
