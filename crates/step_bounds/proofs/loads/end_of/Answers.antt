use Rattle.std.proofs.Common.{pos}
use Rattle.wave_file.specs.declared.record.Change.{Change}
use Rattle.step_bounds.proofs.Course.{later_above}
use Rattle.step_bounds.proofs.loads.end_of.Goals as goal

abbrev no_change : Change
no_change = record { step = 0; node = 0; low = pos 0; high = pos 0 }

pub returns-else-changes-end-clause-end : goal.returns-else-changes-end-clause-end
returns-else-changes-end-clause-end c = record {
  within = c.loop-end.invariant.within;
  below = c.loop-end.invariant.below;
  above = λ k d g l.
      later_above c.args.changes.now c.requires.in_order c.args.step c.loop-end.end no_change c.loop-end-test.true c.if-changes-end.false k d g l;
}
