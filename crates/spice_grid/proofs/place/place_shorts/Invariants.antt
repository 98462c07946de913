use Rattle.std.proofs.Common.{◌≡◌, ◌++◌, map, take, drop, get_or}
use Rattle.spice_grid.specs.Place.{placed_short}
use Rattle.spice_grid.proofs.place.place_shorts.Given as goal

-- Those before the index have their places, and the others are as they were.
abbrev pub invariant-loop-short : goal.invariant-loop-short
invariant-loop-short l = l.shorts ≡ map (placed_short (λ n. get_or l.places n 0)) (take l.short-index l.initial.shorts) ++ drop l.short-index l.initial.shorts
