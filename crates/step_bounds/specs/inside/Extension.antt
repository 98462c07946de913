-- What the code keeps of the capacitors that count.
use Rattle.std.specs.Prelude.{◌≡◌, ℕ, ◌<◌, pos, ◌≤ℤ◌, List, All, map}
use Rattle.std.specs.List.{range_with_len}
use Rattle.grid_net.specs.Network.{Network}
use Rattle.step_bounds.specs.declared.companion.Companion.{Companion}
use Rattle.step_bounds.specs.declared.extension.Extension.{Extension}
use Rattle.step_bounds.specs.declared.extension.Memories.{Memories}
use Rattle.step_bounds.specs.StepNetwork.{nodes_with_memory, memory_of}

-- Each stands at a node, with a resistance of at least 1.
abbrev pub AreCompanions : Network → List Companion → Type 0
AreCompanions net companions = All (λ x. (x.node < net.nodes) × (pos 1 ≤ℤ x.ohms)) companions

-- The nodes at which they stand, in their order, and for each node the number that its memory node has.
pub record AreMemories (nodes : ℕ) (companions : List Companion) (m : Memories) : Type 0 where
  pub nodes_are : m.nodes.items ≡ nodes_with_memory companions nodes
  pub numbers_are : m.numbers.items ≡ map (memory_of companions nodes) (range_with_len 0 nodes)

-- All of it is that of the network.
pub record IsExtension (net : Network) (x : Extension) : Type 0 where
  pub fit : AreCompanions net x.companions.items
  pub memories_are : AreMemories net.nodes x.companions.items x.memories
