use Rattle.std.proofs.Common.{ℕ, ◌<◌}
use Rattle.grid_stacks.specs.Crossing.{At}
use Rattle.plain_drawing.proofs.layers.stands_above.Given as goal

abbrev pub invariant-loop-above : goal.invariant-loop-above
invariant-loop-above l = (k : ℕ) → l.place < k → k < l.above → At l.order k l.layer → ⊥
