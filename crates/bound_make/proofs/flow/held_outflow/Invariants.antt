use Rattle.std.proofs.Common.{◌≡◌, ◌*◌, ◌^◌, pos, neg_ℤ, ◌≤ℤ◌, take}
use Rattle.bound_make.specs.inside.Moving.{held_rule}
use Rattle.grid_net.specs.inside.Flows.{no_resistor}
use Rattle.grid_net.specs.Network.{total, entry_of}
use Rattle.grid_net.specs.inside.Flows.{flow_over}
use Rattle.bound_make.proofs.flow.held_outflow.Given as goal

abbrev pub invariant-loop-place : goal.invariant-loop-place
invariant-loop-place l = record {
  so_far : l.sum ≡ total (flow_over held_rule l.resistors (entry_of l.x) l.node no_resistor) (take l.place-index l.around);
  at_least : neg_ℤ (pos (10 ^ 31 * l.place-index)) ≤ℤ l.sum;
  at_most : l.sum ≤ℤ pos (10 ^ 31 * l.place-index);
}
