-- How large a network may be, and how large its numbers.
use Rattle.std.specs.Prelude.{ℕ, ◌<◌, ◌≤◌, ◌*◌, ◌^◌, ℤ, pos, neg_ℤ, ◌≤ℤ◌, ◌≡◌, All, length, map}
use Rattle.std.specs.List.Sorted.{IsStrictlyIncreasing}
use Rattle.grid_net.specs.Network.{Network, IsNetwork, total_load}

-- The greatest number of nodes.
abbrev pub most_nodes : ℕ
most_nodes = 2 * 10 ^ 6

-- The greatest number of resistors.
abbrev pub most_resistors : ℕ
most_resistors = 4 * 10 ^ 6

-- The greatest resistance, in nano-ohms: 1000 ohms.
abbrev pub greatest_resistance : ℕ
greatest_resistance = 10 ^ 12

-- The greatest magnitude of a pad's voltage, in yoctovolts: 10 volts.
abbrev pub greatest_voltage : ℕ
greatest_voltage = 10 ^ 25

-- The greatest sum of the magnitudes of the loads, in femtoamperes: 1000 amperes.
abbrev pub greatest_load : ℕ
greatest_load = 10 ^ 18

-- A number lies within a limit, on either side of 0.
abbrev pub IsInLimit : ℕ → ℤ → Type 0
IsInLimit limit z = (neg_ℤ (pos limit) ≤ℤ z) × (z ≤ℤ pos limit)

-- What holds of each network that is built: it is a network, its pads stand at nodes in their order and no node has
-- two, each node has one load, and its numbers keep their limits.
pub record IsBuilt (net : Network) : Type 0 where
  pub is_network : IsNetwork net
  pub pads_are_nodes : All (λ p. p.node < net.nodes) net.pads
  pub pads_in_order : IsStrictlyIncreasing (map (λ p. p.node) net.pads)
  pub one_load_a_node : length net.loads ≡ net.nodes
  pub few_nodes : net.nodes ≤ most_nodes
  pub few_resistors : length net.resistors ≤ most_resistors
  pub resistances : All (λ r. r.ohms ≤ℤ pos greatest_resistance) net.resistors
  pub voltages : All (λ p. IsInLimit greatest_voltage p.volts) net.pads
  pub loads_in_limit : total_load net ≤ greatest_load
