use Rattle.std.proofs.Common.{ℕ, ◌-◌, ◌<◌, ◌≤◌, length, get_or}
use Rattle.wave_file.specs.declared.record.Change.{Change}
use Rattle.step_bounds.proofs.loads.end_of.Given as goal

abbrev pub invariant-loop-end : goal.invariant-loop-end
invariant-loop-end l = record {
  after : l.from ≤ l.end;
  within : l.end ≤ length l.changes;
  below : (k : ℕ) (d : Change) → k < l.end → (get_or l.changes k d).step ≤ l.step;
}

abbrev pub decreases-loop-end : goal.decreases-loop-end
decreases-loop-end l = length l.changes - l.end
