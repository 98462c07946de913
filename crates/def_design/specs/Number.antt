-- The numbers of a design (LEF/DEF 5.8 Language Reference, "DEF Syntax"): whole numbers of its units, and counts.
use Rattle.std.specs.Prelude.{ℕ, ◌^◌, ℤ, List, Ok}
use Rattle.def_design.specs.declared.number.Quantity.{Quantity}
use Rattle.def_design.specs.declared.number.Quantity.TheVariants as quantities
use Rattle.number_place.specs.declared.place.NumberPlace.{NumberPlace}
use Rattle.number_place.specs.declared.place.NumberForm.TheVariants.{Integer}
use Rattle.number_place.specs.declared.place.NumberSign.{NumberSign}
use Rattle.number_place.specs.declared.place.NumberSign.TheVariants.{Any, NotNegative, Positive}
use Rattle.number_place.specs.Place.{IsNumberAt}

-- A whole number at most this far from 0.
abbrev pub whole : ℕ → NumberSign → NumberPlace
whole limit sign = record { form = Integer; places = 0; limit = limit; sign = sign }

-- The place of a number, by what it stands for. A micrometre has from 1 to 20000 units.
abbrev pub place_of : Quantity → NumberPlace
place_of quantities.Any = whole (2 ^ 30) Any
place_of quantities.NotNegative = whole (2 ^ 30) NotNegative
place_of quantities.Positive = whole (2 ^ 30) Positive
place_of quantities.Microns = whole 20000 Positive

-- The text is this number.
abbrev pub IsNumber : Quantity → List ℕ → ℤ → Type 0
IsNumber quantity text value = IsNumberAt (place_of quantity) text (Ok value)

-- The two texts are one number.
abbrev pub IsSame : List ℕ → List ℕ → Type 0
IsSame one other = (value : ℤ) × IsNumber quantities.Any one value × IsNumber quantities.Any other value
