use Rattle.std.proofs.Common.{◌≡◌, None, take}
use Rattle.grid_net.specs.Network.{entry_of}
use Rattle.grid_net.specs.Search.{first_of}
use Rattle.bound_check.specs.Failing.{flow_test}
use Rattle.bound_check.proofs.flows.flows_failure.Given as goal

abbrev pub invariant-loop-r : goal.invariant-loop-r
invariant-loop-r l = record {
  so_far : first_of (flow_test (entry_of l.high) (entry_of l.low)) (take l.r-index l.resistors) ≡ None;
}
