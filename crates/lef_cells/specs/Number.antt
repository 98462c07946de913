-- The lengths of a LEF library.
use Rattle.std.specs.Prelude.{◌^◌}
use Rattle.number_place.specs.declared.place.NumberPlace.{NumberPlace}
use Rattle.number_place.specs.declared.place.NumberForm.TheVariants.{Decimal}
use Rattle.number_place.specs.declared.place.NumberSign.TheVariants.{NotNegative}

-- Lengths are picometres up to 100 mm, from micrometres, and not negative.
abbrev pub length : NumberPlace
length = record { form = Decimal; places = 6; limit = 10 ^ 11; sign = NotNegative }
