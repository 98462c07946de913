use Rattle.std.proofs.Common.{◌≡◌, ◌≤◌, ◌++◌, map, max}
use Rattle.grid_pieces.specs.Touch.{stack_metal, between}
use Rattle.grid_pieces.proofs.metal.add_stack.Given as goal

abbrev pub invariant-loop-layer : goal.invariant-loop-layer
invariant-loop-layer l = (l.all.items ≡ l.initial.all.items ++ map (stack_metal l.at) (between l.at.stack.from l.layer)) × (l.layer ≤ max l.at.stack.from l.at.stack.to)
