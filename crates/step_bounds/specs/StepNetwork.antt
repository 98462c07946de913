-- The network of one time step: the network itself, with a memory of the voltages before at the capacitors.
use Rattle.std.specs.Prelude.{ℕ, ◌+◌, ◌==◌, ℤ, Bool, List, ◌++◌, length, map, filter, min, Option}
use Rattle.std.specs.List.{range_with_len, list_any}
use Rattle.grid_net.specs.declared.part.Resistor.{Resistor}
use Rattle.grid_net.specs.declared.part.Pad.{Pad}
use Rattle.grid_net.specs.declared.part.Load.{Load}
use Rattle.grid_net.specs.declared.error.NetError.{NetError}
use Rattle.grid_net.specs.Network.{Network, entry_of}
use Rattle.grid_net.specs.Building.{network_of, first_net_refusal}
use Rattle.bound_make.specs.Certifier.{region_cells}
use Rattle.step_bounds.specs.declared.companion.Companion.{Companion}
use Rattle.wave_file.specs.declared.record.Change.{Change}
use Rattle.step_bounds.specs.Changes.{step_loads}

-- A capacitor counts at the node.
abbrev pub has_memory : List Companion → ℕ → Bool
has_memory companions node = list_any (λ x. x.node == node) companions

-- The nodes at which a capacitor counts, of the first so many nodes, in their order.
abbrev pub nodes_with_memory : List Companion → ℕ → List ℕ
nodes_with_memory companions nodes = filter (has_memory companions) (range_with_len 0 nodes)

-- The number of the memory node of a node: memory nodes stand after all nodes, in the order of the nodes that they are for.
abbrev pub memory_of : List Companion → ℕ → ℕ → ℕ
memory_of companions nodes node = nodes + length (nodes_with_memory companions node)

-- A capacitor that counts, as a resistor from its node to the node's memory node.
abbrev pub memory_resistor : List Companion → ℕ → Companion → Resistor
memory_resistor companions nodes x = record { a = x.node; b = memory_of companions nodes x.node; ohms = x.ohms }

-- The pad at a node's memory node: it has the node's voltage in a list.
abbrev pub memory_pad : List Companion → ℕ → List ℤ → ℕ → Pad
memory_pad companions nodes before node =
    record { node = memory_of companions nodes node; volts = entry_of before node }

-- The nodes of a step's network: the network's, and one memory node for each node at which a capacitor counts.
abbrev pub step_nodes : Network → List Companion → ℕ
step_nodes net companions = net.nodes + length (nodes_with_memory companions net.nodes)

-- Its resistors: the network's, and then one for each capacitor that counts, in the order of the cards.
abbrev pub step_resistors : Network → List Companion → List Resistor
step_resistors net companions = net.resistors ++ map (memory_resistor companions net.nodes) companions

-- How many cells the region has in which the lists of all steps are made: as many as for a step's network, of which one with
-- more than 4 million resistors is refused.
abbrev pub step_cells : Network → List Companion → ℕ
step_cells net companions =
    region_cells (step_nodes net companions) (length net.resistors + min (length companions) 4000000)

-- Its pads over a list of voltages: the network's, and then one at each memory node.
abbrev pub step_pads : Network → List Companion → List ℤ → List Pad
step_pads net companions before =
    net.pads ++ map (memory_pad companions net.nodes before) (nodes_with_memory companions net.nodes)

-- The network of a step with these loads, over a list of voltages. Nothing is drawn at memory nodes.
abbrev pub network_over : Network → List Companion → List Load → List ℤ → Network
network_over net companions loads before =
    network_of (step_nodes net companions) (step_resistors net companions) (step_pads net companions before) loads

-- What refuses that network.
abbrev pub refusal_over : Network → List Companion → List Load → List ℤ → Option NetError
refusal_over net companions loads before =
    first_net_refusal (step_nodes net companions) (step_resistors net companions) (step_pads net companions before) loads

-- The network of step t over a list of voltages.
abbrev pub step_network : Network → List Companion → List Change → ℕ → List ℤ → Network
step_network net companions changes t before = network_over net companions (step_loads net changes t) before

-- What refuses the network of step t over a list of voltages.
abbrev pub step_refusal : Network → List Companion → List Change → ℕ → List ℤ → Option NetError
step_refusal net companions changes t before = refusal_over net companions (step_loads net changes t) before
