-- The numbers of a technology: their places, their limits and their signs (LEF/DEF 5.8 Language Reference: lengths in
-- micrometres, areas in square micrometres, resistances in ohms, currents in milliamperes).
use Rattle.std.specs.Prelude.{◌^◌}
use Rattle.lef_tech.specs.declared.number.Quantity.{Quantity}
use Rattle.lef_tech.specs.declared.number.Quantity.TheVariants.{Length, Corner, Resistance, WireDensity, CutDensity, Area, Microns}
use Rattle.number_place.specs.declared.place.NumberPlace.{NumberPlace}
use Rattle.number_place.specs.declared.place.NumberForm.TheVariants.{Decimal, Integer}
use Rattle.number_place.specs.declared.place.NumberSign.TheVariants.{Any, NotNegative, Positive}

-- Lengths are picometres up to 100 mm.
abbrev pub lengths : NumberPlace
lengths = record { form = Decimal; places = 6; limit = 10 ^ 11; sign = NotNegative }

-- The corners of a cut are picometres up to 100 mm on either side of 0.
abbrev pub coordinates : NumberPlace
coordinates = record { form = Decimal; places = 6; limit = 10 ^ 11; sign = Any }

-- Resistances are nano-ohms up to 10^9 ohms.
abbrev pub ohms : NumberPlace
ohms = record { form = Decimal; places = 9; limit = 10 ^ 18; sign = NotNegative }

-- Densities of wires are femtoamperes for each micrometre of width up to 10^6 mA.
abbrev pub wire_density : NumberPlace
wire_density = record { form = Decimal; places = 12; limit = 10 ^ 18; sign = NotNegative }

-- Densities of cuts are femtoamperes for each square micrometre up to 1000 mA.
abbrev pub cut_density : NumberPlace
cut_density = record { form = Decimal; places = 12; limit = 10 ^ 15; sign = NotNegative }

-- Areas of cuts are 10^-12 square micrometres up to 100 square micrometres.
abbrev pub areas : NumberPlace
areas = record { form = Decimal; places = 12; limit = 10 ^ 14; sign = NotNegative }

-- The units that a micrometre has are a whole number from 1 to 20000.
abbrev pub microns : NumberPlace
microns = record { form = Integer; places = 0; limit = 20000; sign = Positive }

-- The place of a number, by what it stands for.
abbrev pub place_of : Quantity → NumberPlace
place_of Length = lengths
place_of Corner = coordinates
place_of Resistance = ohms
place_of WireDensity = wire_density
place_of CutDensity = cut_density
place_of Area = areas
place_of Microns = microns
