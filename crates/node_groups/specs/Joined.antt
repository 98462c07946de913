-- Nodes that are joined: a short is a wire without resistance between two nodes, given by its two ends, and a chain of
-- shorts makes one conductor of all its nodes.
use Rattle.std.specs.Prelude.{◌≡◌, ◌⊎◌, ℕ, zero, suc, List, Contains}

-- A short of the list has these two ends, whichever of them stands first.
abbrev pub IsShorted : List (ℕ × ℕ) → ℕ → ℕ → Type 0
IsShorted shorts i j = Contains shorts (i, j) ⊎ Contains shorts (j, i)

-- A chain of k shorts leads from one node to another; a chain of none leads from a node to itself.
abbrev pub IsChain : List (ℕ × ℕ) → ℕ → ℕ → ℕ → Type 0
IsChain shorts zero i j = i ≡ j
IsChain shorts (suc k) i j = (m : ℕ) × IsShorted shorts i m × IsChain shorts k m j

-- A chain of shorts joins the two nodes.
abbrev pub AreJoined : List (ℕ × ℕ) → ℕ → ℕ → Type 0
AreJoined shorts i j = (k : ℕ) × IsChain shorts k i j
