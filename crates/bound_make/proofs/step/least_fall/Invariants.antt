use Rattle.std.proofs.Common.{ℕ, ◌<◌, pos, ◌≤ℤ◌, get_or}
use Rattle.grid_net.specs.Certificate.{value_limit}
use Rattle.bound_make.specs.inside.Moving.{FallsAtMost}
use Rattle.bound_make.proofs.step.least_fall.Given as goal

abbrev pub invariant-loop-place : goal.invariant-loop-place
invariant-loop-place l = record {
  positive : pos 1 ≤ℤ l.least;
  at_most : l.least ≤ℤ pos value_limit;
  room : (k : ℕ) → k < l.place-index → FallsAtMost l.resistors l.x l.node l.units l.least (get_or l.around k 0);
}
