use Rattle.std.proofs.Common.{◌≡◌, ◌*◌, ◌+◌, ◌^◌, pos, neg_ℤ, ◌≤ℤ◌, take}
use Rattle.rounding.specs.Rounding.{quotient}
use Rattle.grid_net.specs.Network.{total, entry_of}
use Rattle.grid_net.specs.inside.Flows.{flow_over}
use Rattle.bound_check.proofs.sums.outflow_of.Given as goal

abbrev pub invariant-loop-place : goal.invariant-loop-place
invariant-loop-place l = record {
  so_far : l.sum ≡ total (flow_over (quotient l.round) l.resistors (entry_of l.x) l.node (record { a = 0; b = 0; ohms = pos 0 })) (take l.place-index l.around);
  at_least : neg_ℤ (pos ((10 ^ 31 + 1) * l.place-index)) ≤ℤ l.sum;
  at_most : l.sum ≤ℤ pos ((10 ^ 31 + 1) * l.place-index);
}
