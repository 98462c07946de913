-- The search of the levels of a network: from the pads, with a queue into which each node is put once.
use Rattle.std.specs.Prelude.{◌≡◌, ℕ, suc, ◌+◌, ◌<◌, ◌≤◌, ◌⊎◌, ℤ, List, length, Option, Some, None, slice_index_or, slice_set}
use Rattle.std.specs.List.{sum_by}
use Rattle.grid_net.specs.Network.{Network, pad_at}
use Rattle.grid_net.specs.Level.{AreJoined, IsWithin, LevelIs}

-- The level that a list tells of a node.
abbrev pub told : List (Option ℕ) → ℕ → Option ℕ
told levels i = slice_index_or levels i None

-- The node at a place of the queue.
abbrev pub queued : List ℕ → ℕ → ℕ
queued queue k = slice_index_or queue k 0

abbrev pub one_if_none : Option ℕ → ℕ
one_if_none None = 1
one_if_none (Some m) = 0

-- How many nodes have no level.
abbrev pub unmet : List (Option ℕ) → ℕ
unmet levels = sum_by one_if_none levels

-- A node with a level stays as it is; another is given one, and a place at the end of the queue.
abbrev pub IsPut : ℕ → ℕ → List (Option ℕ) → List (Option ℕ) → List ℕ → List ℕ → ℕ → ℕ → Type 0
IsPut node level old new queue_old queue_new tail end =
    ((m : ℕ) × (told old node ≡ Some m) × (new ≡ old) × (queue_new ≡ queue_old) × (end ≡ tail))
    ⊎ ((told old node ≡ None) × (new ≡ slice_set old node (Some level))
    × (queue_new ≡ slice_set queue_old tail node) × (end ≡ suc tail))

-- The nodes with a level are those in the queue, each once, and as far away as told at most.
pub record IsSearch (net : Network) (levels : List (Option ℕ)) (queue : List ℕ) (tail : ℕ) : Type 0 where
  pub size : length levels ≡ net.nodes
  pub room : length queue ≡ net.nodes
  pub count : tail + unmet levels ≡ net.nodes
  pub within : (i m : ℕ) → told levels i ≡ Some m → IsWithin net m i
  pub stands : (i m : ℕ) → told levels i ≡ Some m → (k : ℕ) × (k < tail) × (queued queue k ≡ i)
  pub has : (k : ℕ) → k < tail → (m : ℕ) × (told levels (queued queue k) ≡ Some m)

-- Nodes were given a level and were put into the queue, and nothing else changed.
pub record IsGrown (level : ℕ) (old new : List (Option ℕ)) (queue_old queue_new : List ℕ) (tail end : ℕ) : Type 0 where
  pub order : tail ≤ end
  pub kept : (i m : ℕ) → told old i ≡ Some m → told new i ≡ Some m
  pub only : (i m : ℕ) → told new i ≡ Some m → (told old i ≡ Some m) ⊎ (m ≡ level)
  pub queue_kept : (k : ℕ) → k < tail → queued queue_new k ≡ queued queue_old k
  pub fresh : (k : ℕ) → tail ≤ k → k < end → told new (queued queue_new k) ≡ Some level

-- Each node before the head is done: what shares a resistor with it has a level that is at most one more. From the
-- head on the queue has nodes of one level up to an end, and nodes of the next level from there.
pub record IsFront (net : Network) (levels : List (Option ℕ)) (queue : List ℕ) (head end tail level : ℕ) : Type 0 where
  pub head_order : head ≤ end
  pub end_order : end ≤ tail
  pub here : (k : ℕ) → head ≤ k → k < end → told levels (queued queue k) ≡ Some level
  pub next : (k : ℕ) → end ≤ k → k < tail → told levels (queued queue k) ≡ Some (suc level)
  pub most : (i m : ℕ) → told levels i ≡ Some m → m ≤ suc level
  pub done : (k : ℕ) → k < head → (m : ℕ) → told levels (queued queue k) ≡ Some m → (i : ℕ)
      → AreJoined net i (queued queue k) → (n : ℕ) × (told levels i ≡ Some n) × (n ≤ suc m)

-- Each pad has the level 0.
abbrev pub HasPads : Network → List (Option ℕ) → Type 0
HasPads net levels = (i : ℕ) (v : ℤ) → pad_at net i ≡ Some v → told levels i ≡ Some 0

-- A list tells the level of each node of a network.
pub record AreLevels (net : Network) (levels : List (Option ℕ)) : Type 0 where
  pub size : length levels ≡ net.nodes
  pub each : (i : ℕ) → i < net.nodes → LevelIs net i (told levels i)
