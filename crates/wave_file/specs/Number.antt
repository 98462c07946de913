-- The numbers of a wave file: steps, and currents as a netlist has them.
use Rattle.std.specs.Prelude.{ℕ, ◌^◌, pos, List, Ok}
use Rattle.number_place.specs.declared.place.NumberPlace.{NumberPlace}
use Rattle.number_place.specs.declared.place.NumberForm.TheVariants.{Integer, Scaled}
use Rattle.number_place.specs.declared.place.NumberSign.TheVariants.{Any, Positive}
use Rattle.number_place.specs.Place.{IsNumberAt}

-- A step is a whole number from 1 to 1000.
abbrev pub steps : NumberPlace
steps = record { form = Integer; places = 0; limit = 1000; sign = Positive }

-- Amperes are femtoamperes up to 1000 A, with a scale or none, and of any sign.
abbrev pub amperes : NumberPlace
amperes = record { form = Scaled; places = 15; limit = 10 ^ 18; sign = Any }

-- The word stands for the step k.
abbrev pub IsStep : List ℕ → ℕ → Type 0
IsStep text k = IsNumberAt steps text (Ok (pos k))
