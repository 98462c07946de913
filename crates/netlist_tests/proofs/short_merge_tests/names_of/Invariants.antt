use Rattle.std.proofs.Common.{◌≡◌, length}
use Rattle.netlist_tests.proofs.short_merge_tests.names_of.Given as goal

abbrev pub invariant-loop-name : goal.invariant-loop-name
invariant-loop-name l = length l.names.items ≡ l.name-index
