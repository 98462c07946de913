use Rattle.std.proofs.Common.{◌≡◌, ◌++◌, map, take, drop, get_or}
use Rattle.spice_grid.specs.Place.{placed_load}
use Rattle.spice_grid.proofs.place.place_loads.Given as goal

-- Those before the index have their places, and the others are as they were.
abbrev pub invariant-loop-load : goal.invariant-loop-load
invariant-loop-load l = l.loads ≡ map (placed_load (λ n. get_or l.places n 0)) (take l.load-index l.initial.loads) ++ drop l.load-index l.initial.loads
