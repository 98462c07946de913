use Rattle.std.proofs.Common.{◌≡◌, ◌++◌, map, take, drop, get_or}
use Rattle.spice_grid.specs.Place.{placed_pad}
use Rattle.spice_grid.proofs.place.place_pads.Given as goal

-- Those before the index have their places, and the others are as they were.
abbrev pub invariant-loop-pad : goal.invariant-loop-pad
invariant-loop-pad l = l.pads ≡ map (placed_pad (λ n. get_or l.places n 0)) (take l.pad-index l.initial.pads) ++ drop l.pad-index l.initial.pads
