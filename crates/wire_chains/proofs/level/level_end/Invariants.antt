use Rattle.std.proofs.Common.{◌≡◌, ◌<◌, ◌≤◌, ◌-◌, ℕ, length}
use Rattle.wire_chains.specs.inside.Run.{AreLevel, via_of}
use Rattle.wire_chains.proofs.level.level_end.Given as goal

abbrev pub invariant-loop-to : goal.invariant-loop-to
invariant-loop-to l = (l.from < l.to) × (l.to ≤ length l.all) × ((k : ℕ) → l.from ≤ k → k < l.to → AreLevel (via_of l.all l.from) (via_of l.all k))

abbrev pub decreases-loop-to : goal.decreases-loop-to
decreases-loop-to l = length l.all - l.to
