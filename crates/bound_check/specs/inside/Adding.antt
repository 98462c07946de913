-- The flows that leave the nodes, as they are kept for all nodes at once.
use Rattle.std.specs.Prelude.{◌≡◌, ℕ, ◌<◌, ℤ, List, length}
use Rattle.grid_net.specs.Network.{Network, FlowRule, entry_of, outflow}

-- A list has for each node the sum of the flows that leave it at these potentials, by a rule.
pub record LeavesNodes (rule : FlowRule) (net : Network) (x : ℕ → ℤ) (sums : List ℤ) : Type 0 where
  pub size : length sums ≡ net.nodes
  pub each : (i : ℕ) → i < net.nodes → entry_of sums i ≡ outflow rule net.resistors x i
