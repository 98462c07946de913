use Rattle.std.proofs.Common.{◌≡◌, None}
use Rattle.grid_net.specs.Network.{entry_of, pad_at}
use Rattle.grid_net.specs.Search.{first_below}
use Rattle.bound_check.specs.Failing.{sum_test}
use Rattle.bound_check.proofs.by_resistor.sums_failure.Given as goal

abbrev pub invariant-loop-node : goal.invariant-loop-node
invariant-loop-node l = record {
  so_far : first_below l.node (λ i. sum_test l.net (entry_of l.high) (entry_of l.low) i (pad_at l.net i)) ≡ None;
}
