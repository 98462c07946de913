use Rattle.std.proofs.Common.{◌≡◌, ◌≤◌, ◌++◌, ◌+◌, ◌-◌, map, max}
use Rattle.std.specs.List.{range_with_len}
use Rattle.grid_pieces.specs.Touch.{stack_metal}
use Rattle.plain_drawing.proofs.metal.add_inside.Given as goal

abbrev pub invariant-loop-layer : goal.invariant-loop-layer
invariant-loop-layer l =
    (l.all.items ≡ l.initial.all.items ++ map (stack_metal l.at) (range_with_len (l.at.stack.from + 1) (l.layer - l.at.stack.from - 1)))
    × (l.layer ≤ max l.at.stack.from l.at.stack.to)
