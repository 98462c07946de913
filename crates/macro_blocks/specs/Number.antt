-- The coordinates of a LEF library.
use Rattle.std.specs.Prelude.{◌^◌, ℤ, Ok, Err}
use Rattle.number_place.specs.declared.place.NumberPlace.{NumberPlace}
use Rattle.number_place.specs.declared.place.NumberForm.TheVariants.{Decimal}
use Rattle.number_place.specs.declared.place.NumberSign.TheVariants.{Any}
use Rattle.number_place.specs.declared.place.Refused.{Refused}
use Rattle.number_place.specs.Place.{IsNumberAt}
use Rattle.reading.specs.Word.{Token}

-- Coordinates are picometres up to 100 mm from 0, from micrometres, of any sign.
abbrev pub coordinate : NumberPlace
coordinate = record { form = Decimal; places = 6; limit = 10 ^ 11; sign = Any }

-- The word is this coordinate.
abbrev pub IsCoordinate : Token → ℤ → Type 0
IsCoordinate word value = IsNumberAt coordinate word.text (Ok value)

-- The word is no coordinate, for this reason.
abbrev pub IsRefused : Token → Refused → Type 0
IsRefused word refused = IsNumberAt coordinate word.text (Err refused)
