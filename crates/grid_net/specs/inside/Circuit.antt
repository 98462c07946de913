-- How the lists of a network are kept: what the fields tell, and what always holds of them.
use Rattle.std.specs.Prelude.{◌≡◌, map}
use Rattle.std.specs.List.{range_with_len}
use Rattle.grid_net.specs.declared.circuit.Circuit.TheInside.{Inside}
use Rattle.grid_net.specs.Network.{Network, pad_at}
use Rattle.grid_net.specs.Limits.{IsBuilt}
use Rattle.grid_net.specs.inside.Around.{TellsAround}

-- The network that the fields tell.
abbrev pub network_in : Inside → Network
network_in net =
    record { nodes = net.nodes; resistors = net.resistors.items; pads = net.pads.items; loads = net.ranges.items }

-- The network is within its limits, and the two tables tell its pads and the places of its resistors around each node.
pub record IsKept (net : Inside) : Type 0 where
  pub built : IsBuilt (network_in net)
  pub voltages : net.voltages.items ≡ map (pad_at (network_in net)) (range_with_len 0 net.nodes)
  pub around : TellsAround net.resistors.items net.nodes net.around.starts.items net.around.places.items
