use Rattle.std.proofs.Common.{ℕ, ◌<◌}
use Rattle.grid_stacks.specs.Crossing.{At}
use Rattle.plain_drawing.proofs.layers.stands_below.Given as goal

abbrev pub invariant-loop-below : goal.invariant-loop-below
invariant-loop-below l = (k : ℕ) → k < l.below → At l.order k l.layer → ⊥
