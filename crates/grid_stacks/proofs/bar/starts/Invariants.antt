use Rattle.std.proofs.Common.{ℕ, ◌<◌, Contains}
use Rattle.grid_stacks.specs.declared.bar.Bar.{Bar}
use Rattle.grid_stacks.specs.Crossing.{At}
use Rattle.grid_stacks.proofs.bar.starts.Given as goal

abbrev pub invariant-loop-place : goal.invariant-loop-place
invariant-loop-place l = (p : ℕ) (bar : Bar) → p < l.place → At l.bars p bar → Contains l.starts.items (record { from = bar.from; place = p })
