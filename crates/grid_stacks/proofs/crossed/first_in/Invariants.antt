use Rattle.std.proofs.Common.{◌≡◌, ℕ, ◌-◌, ◌<◌, ◌≤◌, ◌<ℤ◌, length}
use Rattle.grid_stacks.specs.declared.bar.Bar.{Bar}
use Rattle.grid_stacks.specs.Crossing.{At}
use Rattle.grid_stacks.proofs.crossed.first_in.Given as goal

abbrev pub invariant-loop-low : goal.invariant-loop-low
invariant-loop-low l = record {
  upto : l.low ≤ l.high;
  within : l.high ≤ length l.uprights;
  passed : (p : ℕ) (bar : Bar) → p < l.low → At l.uprights p bar → l.net ≡ bar.net → bar.low <ℤ l.x;
}

abbrev pub decreases-loop-low : goal.decreases-loop-low
decreases-loop-low l = l.high - l.low
