use Rattle.std.proofs.Common.{◌≡◌, ◌++◌, map, take, drop, get_or}
use Rattle.spice_grid.specs.Place.{placed_resistor}
use Rattle.spice_grid.proofs.place.place_resistors.Given as goal

-- Those before the index have their places, and the others are as they were.
abbrev pub invariant-loop-resistor : goal.invariant-loop-resistor
invariant-loop-resistor l = l.resistors ≡ map (placed_resistor (λ n. get_or l.places n 0)) (take l.resistor-index l.initial.resistors) ++ drop l.resistor-index l.initial.resistors
