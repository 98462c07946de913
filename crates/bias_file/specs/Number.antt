-- The numbers of a bias file: their places, their limits, whether they have a scale, and their signs.
use Rattle.std.specs.Prelude.{◌^◌}
use Rattle.number_place.specs.declared.place.NumberPlace.{NumberPlace}
use Rattle.number_place.specs.declared.place.NumberForm.TheVariants.{Decimal, Scaled}
use Rattle.number_place.specs.declared.place.NumberSign.TheVariants.{Any, NotNegative}

-- Volts are yoctovolts up to 10 V, with a scale or none.
abbrev pub volts : NumberPlace
volts = record { form = Scaled; places = 24; limit = 10 ^ 25; sign = Any }

-- A drop is not negative.
abbrev pub drop_volts : NumberPlace
drop_volts = record { form = Scaled; places = 24; limit = 10 ^ 25; sign = NotNegative }

-- Amperes are femtoamperes up to 1000 A, with a scale or none, and not negative.
abbrev pub amperes : NumberPlace
amperes = record { form = Scaled; places = 15; limit = 10 ^ 18; sign = NotNegative }

-- Places are picometres up to 100 mm, from micrometres without a scale.
abbrev pub micrometres : NumberPlace
micrometres = record { form = Decimal; places = 6; limit = 10 ^ 11; sign = Any }
