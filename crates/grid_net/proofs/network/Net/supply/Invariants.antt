use Rattle.std.proofs.Common.{ℕ, ◌<◌}
use Rattle.grid_net.specs.Level.{IsSupplied}
use Rattle.grid_net.proofs.network.Net.supply.Given as goal

abbrev pub invariant-loop-node : goal.invariant-loop-node
invariant-loop-node l = record {
  so_far : (j : ℕ) → j < l.node → IsSupplied l.self j;
}
