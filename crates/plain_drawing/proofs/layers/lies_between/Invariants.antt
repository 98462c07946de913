use Rattle.std.proofs.Common.{ℕ, ◌<◌}
use Rattle.grid_stacks.specs.Crossing.{At}
use Rattle.plain_drawing.specs.inside.Sites.{AreAround}
use Rattle.plain_drawing.proofs.layers.lies_between.Given as goal

abbrev pub invariant-loop-place : goal.invariant-loop-place
invariant-loop-place l = (k : ℕ) → k < l.place → At l.fn.tech.order k l.layer → AreAround l.fn.tech.order l.from l.to k → ⊥
