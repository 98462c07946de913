use Rattle.std.proofs.Common.{ℕ, ◌<◌, ◌≤◌}
use Rattle.grid_stacks.specs.Crossing.{At}
use Rattle.grid_stacks.proofs.between.last_place.Given as goal

abbrev pub invariant-loop-place : goal.invariant-loop-place
invariant-loop-place l = record {
  within : l.last ≤ l.place;
  none : (k : ℕ) → l.last < k → k < l.place → At l.order k l.fn.layer → ⊥;
  is : 0 < l.last → At l.order l.last l.fn.layer;
}
