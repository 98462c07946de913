use Rattle.std.proofs.Common.{ℕ, ◌<◌}
use Rattle.grid_stacks.specs.Crossing.{At}
use Rattle.grid_stacks.proofs.between.stands_within.Given as goal

abbrev pub invariant-loop-place : goal.invariant-loop-place
invariant-loop-place l = (j : ℕ) → l.low < j → j < l.place → At l.order j l.fn.layer → ⊥
