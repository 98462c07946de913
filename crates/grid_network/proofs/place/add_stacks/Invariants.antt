use Rattle.std.proofs.Common.{take}
use Rattle.grid_network.specs.Nodes.{IsOfStack}
use Rattle.grid_network.specs.inside.Steps.{Adds}
use Rattle.grid_network.proofs.place.add_stacks.Given as goal

abbrev pub invariant-loop-stack : goal.invariant-loop-stack
invariant-loop-stack l = Adds (IsOfStack (take l.stack-index l.stacks)) l.initial.keys.items l.keys.items
