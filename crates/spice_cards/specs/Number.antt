-- The numbers of a netlist, with SPICE's scales: their places, their limits and their signs.
use Rattle.std.specs.Prelude.{◌^◌, ℤ, pos, ◌≤ℤ◌}
use Rattle.number_place.specs.declared.place.NumberPlace.{NumberPlace}
use Rattle.number_place.specs.declared.place.NumberForm.TheVariants.{Scaled}
use Rattle.number_place.specs.declared.place.NumberSign.TheVariants.{Any, NotNegative}

-- Ohms are nano-ohms.
abbrev pub ohms : NumberPlace
ohms = record { form = Scaled; places = 9; limit = 10 ^ 30; sign = Any }

-- Volts are yoctovolts.
abbrev pub volts : NumberPlace
volts = record { form = Scaled; places = 24; limit = 10 ^ 30; sign = Any }

-- Amperes are femtoamperes, up to 1000 A.
abbrev pub amperes : NumberPlace
amperes = record { form = Scaled; places = 15; limit = 10 ^ 18; sign = Any }

-- Farads are counted in 10^-24 farads, up to 10^6 farads. No capacitance is below 0.
abbrev pub farads : NumberPlace
farads = record { form = Scaled; places = 24; limit = 10 ^ 30; sign = NotNegative }

-- A capacitance that is read, in 10^-24 farads.
abbrev pub IsCapacitance : ℤ → Type 0
IsCapacitance value = (pos 0 ≤ℤ value) × (value ≤ℤ pos (10 ^ 30))
