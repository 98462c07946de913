-- What a solver proposes.
use Rattle.std.specs.Prelude.{◌≡◌, ℕ, ℤ, List, length}
use Rattle.grid_net.specs.Network.{Network}

-- Two lists that have one entry for each node are proposed as they are told.
abbrev pub Proposes : Network → List ℤ × List ℤ → List ℤ → List ℤ → Type 0
Proposes net told x w = length told.0 ≡ net.nodes → length told.1 ≡ net.nodes → (x ≡ told.0) × (w ≡ told.1)

-- A solver that tells two lists, and how many proposals it was asked for.
pub record TwoLists : Type 0 where
  pub x : List ℤ
  pub w : List ℤ
  pub proposals : ℕ

-- A solver that writes one number everywhere, and how many proposals it was asked for.
pub record OneNumber : Type 0 where
  pub number : ℤ
  pub proposals : ℕ
