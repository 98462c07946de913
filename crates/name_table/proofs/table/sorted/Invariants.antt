use Rattle.std.proofs.Common.{◌≡◌, take}
use Rattle.name_table.specs.inside.Numbered.{numbered}
use Rattle.name_table.proofs.table.sorted.Given as goal

abbrev pub invariant-loop-number : goal.invariant-loop-number
invariant-loop-number l = l.sorted.items ≡ numbered (take l.number l.names)
