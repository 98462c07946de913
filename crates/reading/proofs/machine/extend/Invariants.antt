use Rattle.std.proofs.Common.{◌-◌, length}
use Rattle.reading.specs.inside.Machine.{TellsNoMore}
use Rattle.reading.proofs.machine.extend.Given as goal

abbrev pub invariant-loop-table : goal.invariant-loop-table
invariant-loop-table l = TellsNoMore l.initial.table.items l.table.items

abbrev pub decreases-loop-table : goal.decreases-loop-table
decreases-loop-table l = l.count - length l.table.items
