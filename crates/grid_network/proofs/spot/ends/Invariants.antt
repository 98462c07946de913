use Rattle.std.proofs.Common.{take, []}
use Rattle.grid_network.specs.inside.Steps.{Adds, IsEnd}
use Rattle.grid_network.proofs.spot.ends.Given as goal

abbrev pub invariant-loop-stack : goal.invariant-loop-stack
invariant-loop-stack l = Adds (IsEnd l.axis (take l.stack-index l.stacks)) [] l.spots.items
