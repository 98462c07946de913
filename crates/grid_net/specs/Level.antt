-- How far the nodes of a network are from its pads.
use Rattle.std.specs.Prelude.{◌≡◌, ℕ, zero, suc, ◌<◌, ◌⊎◌, ℤ, Option, Some, None, length, slice_index_or}
use Rattle.grid_net.specs.declared.part.Resistor.{Resistor}
use Rattle.grid_net.specs.Network.{Network, pad_at}

-- Two nodes share a resistor.
pub record AreJoined (net : Network) (i j : ℕ) : Type 0 where
  pub place : ℕ
  pub in_list : place < length net.resistors
  pub ends : (d : Resistor)
      → let r = slice_index_or net.resistors place d in ((r.a ≡ i) × (r.b ≡ j)) ⊎ ((r.a ≡ j) × (r.b ≡ i))

-- A chain of at most k resistors joins the node to a pad.
abbrev pub IsWithin : Network → ℕ → ℕ → Type 0
IsWithin net zero i = (v : ℤ) × (pad_at net i ≡ Some v)
IsWithin net (suc k) i = IsWithin net k i ⊎ ((j : ℕ) × (j < net.nodes) × AreJoined net i j × IsWithin net k j)

-- The level of a node is the length of the shortest chain of resistors to a pad.
pub record IsLevel (net : Network) (i k : ℕ) : Type 0 where
  pub within : IsWithin net k i
  pub not_nearer : (m : ℕ) → m < k → IsWithin net m i → ⊥

-- What is told as a node's level is its level, and where none is told no chain joins it to a pad.
abbrev pub LevelIs : Network → ℕ → Option ℕ → Type 0
LevelIs net i (Some k) = IsLevel net i k
LevelIs net i None = (k : ℕ) → IsWithin net k i → ⊥

-- A chain of resistors joins the node to a pad.
abbrev pub IsSupplied : Network → ℕ → Type 0
IsSupplied net i = (k : ℕ) × IsWithin net k i

-- The node is not supplied, and each node before it is.
pub record IsFirstUnsupplied (net : Network) (i : ℕ) : Type 0 where
  pub is_node : i < net.nodes
  pub unsupplied : IsSupplied net i → ⊥
  pub before : (j : ℕ) → j < i → IsSupplied net j
