use Rattle.std.proofs.Common.{◌-◌, length}
use Rattle.wire_chains.specs.inside.Run.{InRun}
use Rattle.wire_chains.proofs.run.add_run.Given as goal

abbrev pub invariant-levels : goal.invariant-levels
invariant-levels l = InRun l.all l.from l.to l.paths.items

abbrev pub decreases-levels : goal.decreases-levels
decreases-levels l = length l.all - l.to
