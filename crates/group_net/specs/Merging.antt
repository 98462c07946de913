-- The network of the groups of nodes that shorts join: each group is one node of it.
use Rattle.std.specs.Prelude.{◌≡◌, ◌≢◌, ℕ, ◌<◌, ◌≤◌, ◌==◌, if◌then◌else◌, ℤ, pos, List, All, Contains, Some, map, length, slice_index}
use Rattle.std.specs.List.{range_with_len}
use Rattle.grid_net.specs.declared.part.Resistor.{Resistor}
use Rattle.grid_net.specs.declared.part.Pad.{Pad}
use Rattle.grid_net.specs.declared.part.Load.{Load}
use Rattle.grid_net.specs.declared.error.NetError.TheVariants.{PadConflict}
use Rattle.grid_net.specs.Network.{Network, low_load, high_load, total}
use Rattle.grid_net.specs.Building.{network_of, first_conflict}
use Rattle.node_groups.specs.Joined.{AreJoined}
use Rattle.node_groups.specs.Groups.{AreGroups}

-- The ends of each short are nodes.
abbrev pub AreNodes : ℕ → List (ℕ × ℕ) → Type 0
AreNodes nodes shorts = All (λ (s : ℕ × ℕ). (s.0 < nodes) × (s.1 < nodes)) shorts

-- ---- the network of the groups
-- A resistor joins the groups of its ends; one whose ends are of one group joins that group to itself.
abbrev pub grouped_resistor : List ℕ → Resistor → Resistor
grouped_resistor group r = record { a = slice_index group r.a; b = slice_index group r.b; ohms = r.ohms }

-- A pad holds the group of its node.
abbrev pub grouped_pad : List ℕ → Pad → Pad
grouped_pad group p = record { node = slice_index group p.node; volts = p.volts }

-- The load of each node is drawn out of its group.
abbrev pub grouped_load : Network → List ℕ → ℕ → Load
grouped_load net group i = record { node = slice_index group i; low = low_load net i; high = high_load net i }

abbrev pub grouped_loads : Network → List ℕ → List Load
grouped_loads net group = map (grouped_load net group) (range_with_len 0 net.nodes)

-- The network of so many groups: the resistors in their order, the pads in the order of nodes, and the loads of all nodes
-- of a group added, low ends and high ends.
abbrev pub merged_network : Network → List ℕ → ℕ → Network
merged_network net group groups =
    network_of groups (map (grouped_resistor group) net.resistors) (map (grouped_pad group) net.pads) (grouped_loads net group)

-- ---- pads that differ
-- Any two pads whose nodes are joined have one voltage.
abbrev pub PadsOfGroupsAgree : Network → List (ℕ × ℕ) → Type 0
PadsOfGroupsAgree net shorts =
    All (λ (p : Pad). All (λ (q : Pad). AreJoined shorts p.node q.node → p.volts ≡ q.volts) net.pads) net.pads

-- Two pads of one group differ: of the pads in the order of nodes, the first that differs from the first pad of its
-- group. The group is told by its first node, then stands the voltage of its first pad, and then the one that differs.
pub record IsConflict (net : Network) (shorts : List (ℕ × ℕ)) (node : ℕ) (first second : ℤ) : Type 0 where
  pub group : List ℕ
  pub firsts : List ℕ
  pub groups : AreGroups net.nodes shorts group firsts
  pub number : ℕ
  pub is_group : number < length firsts
  pub conflict : first_conflict (map (grouped_pad group) net.pads) ≡ Some (PadConflict number first second)
  pub first_node : node ≡ slice_index firsts number

-- What a conflict tells: two pads whose nodes are joined, with voltages that differ, and the first of the nodes that are
-- joined to them.
pub record PadsDiffer (net : Network) (shorts : List (ℕ × ℕ)) (node : ℕ) (first second : ℤ) : Type 0 where
  pub one : Pad
  pub other : Pad
  pub one_stands : Contains net.pads one
  pub other_stands : Contains net.pads other
  pub joined : AreJoined shorts one.node other.node
  pub of_the_group : AreJoined shorts node one.node
  pub no_earlier : (i : ℕ) → i < net.nodes → AreJoined shorts i one.node → node ≤ i
  pub first_voltage : first ≡ one.volts
  pub second_voltage : second ≡ other.volts
  pub differ : first ≢ second

-- ---- a solution, group by group
-- The potential of a group is that of its first node, as of all its nodes.
abbrev pub group_potential : List ℕ → (ℕ → ℤ) → ℕ → ℤ
group_potential firsts p g = p (slice_index firsts g)

-- What is drawn out of a group is drawn out of its nodes, all together.
abbrev pub group_drawn : ℕ → List ℕ → (ℕ → ℤ) → ℕ → ℤ
group_drawn nodes group l g = total (λ i. if slice_index group i == g then l i else pos 0) (range_with_len 0 nodes)
