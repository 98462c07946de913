use Rattle.std.proofs.Common.{◌≡◌, ℕ, ◌<◌, ◌+ℤ◌, None, take, length}
use Rattle.rounding.specs.Rounding.{floor_div, ceil_div}
use Rattle.grid_net.specs.Network.{entry_of, outflow}
use Rattle.grid_net.specs.Search.{first_of}
use Rattle.bound_check.specs.Failing.{flow_test}
use Rattle.bound_check.proofs.by_resistor.add_flows.Given as goal

abbrev pub invariant-loop-r : goal.invariant-loop-r
invariant-loop-r l = record {
  of_high : (i : ℕ) → i < length l.high → entry_of l.of_high i ≡ entry_of l.initial.of_high i +ℤ outflow floor_div (take l.r-index l.resistors) (entry_of l.high) i;
  of_low : (i : ℕ) → i < length l.high → entry_of l.of_low i ≡ entry_of l.initial.of_low i +ℤ outflow ceil_div (take l.r-index l.resistors) (entry_of l.low) i;
  flows : first_of (flow_test (entry_of l.high) (entry_of l.low)) (take l.r-index l.resistors) ≡ None;
}
