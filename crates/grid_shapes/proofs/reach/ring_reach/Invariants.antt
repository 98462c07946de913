use Rattle.std.proofs.Common.{◌≡◌, take}
use Rattle.grid_shapes.specs.Site.{ring_reach}
use Rattle.grid_shapes.proofs.reach.ring_reach.Given as goal

abbrev pub invariant-loop-side : goal.invariant-loop-side
invariant-loop-side l = l.reach ≡ ring_reach l.axis l.net (take l.side-index l.sides)
