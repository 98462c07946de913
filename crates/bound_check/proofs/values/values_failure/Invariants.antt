use Rattle.std.proofs.Common.{◌≡◌, None}
use Rattle.grid_net.specs.Network.{entry_of}
use Rattle.grid_net.specs.Search.{first_below}
use Rattle.bound_check.specs.Failing.{value_test}
use Rattle.bound_check.proofs.values.values_failure.Given as goal

abbrev pub invariant-loop-value : goal.invariant-loop-value
invariant-loop-value l = record {
  at_node : l.node ≡ l.value-index;
  so_far : first_below l.value-index (value_test (entry_of l.high) (entry_of l.low)) ≡ None;
}
