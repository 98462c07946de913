use Rattle.std.proofs.Common.{◌≡◌, take}
use Rattle.std.specs.List.{enumerate_from}
use Rattle.node_names.specs.inside.Keys.{names_in}
use Rattle.node_names.specs.inside.Entries.{entries_of}
use Rattle.node_names.proofs.names.sorted.Given as goal

abbrev pub invariant-loop-number : goal.invariant-loop-number
invariant-loop-number l = entries_of l.sorted.items ≡ enumerate_from 0 (take l.number (names_in l.keys))
