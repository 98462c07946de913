use Rattle.std.proofs.Common.{◌≤◌, ◌-◌, length}
use Rattle.wire_chains.specs.inside.Run.{AreFrom, IsStart}
use Rattle.wire_chains.proofs.run.chains.Given as goal

abbrev pub invariant-loop-from : goal.invariant-loop-from
invariant-loop-from l = (l.from ≤ length l.all.items) × IsStart l.all.items l.from × AreFrom l.all.items 0 l.from l.chains.items

abbrev pub decreases-loop-from : goal.decreases-loop-from
decreases-loop-from l = length l.all.items - l.from
