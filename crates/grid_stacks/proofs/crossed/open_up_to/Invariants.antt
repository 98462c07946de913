use Rattle.std.proofs.Common.{ℕ, ◌-◌, ◌<◌, ◌≤◌, length}
use Rattle.grid_stacks.specs.declared.bar.Start.{Start}
use Rattle.grid_stacks.specs.Crossing.{At}
use Rattle.grid_stacks.specs.inside.Standing.{Lies}
use Rattle.grid_stacks.proofs.crossed.open_up_to.Given as goal

abbrev pub invariant-loop-next : goal.invariant-loop-next
invariant-loop-next l = record {
  behind : l.next-2 ≤ l.next;
  within : l.next ≤ length l.starts;
  put : (k : ℕ) (s : Start) → l.next-2 ≤ k → k < l.next → At l.starts k s → Lies l.lying s.place;
  kept : (p : ℕ) → Lies l.initial.lying p → Lies l.lying p;
}

abbrev pub decreases-loop-next : goal.decreases-loop-next
decreases-loop-next l = length l.starts - l.next
