-- The vias of stacks, each stack bottom up.
use Rattle.std.specs.Prelude.{◌≡◌, ℕ, ◌+◌, ◌-◌, ◌<◌, true, List, All, Contains, length, slice_index_or}
use Rattle.std.specs.List.{flat_map}
use Rattle.wire_chains.specs.declared.via.ViaAt.{ViaAt}
use Rattle.wire_chains.specs.Chain.{LiesOn, IsJoined}

-- It has a via.
abbrev pub HasVia : List ViaAt → Type 0
HasVia stack = 0 < length stack

-- Each of its vias goes on from the one below.
abbrev pub GoesUp : List ViaAt → Type 0
GoesUp stack = (k : ℕ) (d : ViaAt) → k + 1 < length stack
    → IsJoined (slice_index_or stack k d) (slice_index_or stack (k + 1) d)

-- A piece is at its bottom.
abbrev pub StandsOnPiece : List ViaAt → Type 0
StandsOnPiece stack = (d : ViaAt) → (slice_index_or stack 0 d).held ≡ true

-- A piece is at its top: whatever via begins there, a piece is there too.
abbrev pub EndsOnPiece : List ViaAt → List ViaAt → Type 0
EndsOnPiece vias stack = (via d : ViaAt) → Contains vias via
    → LiesOn (slice_index_or stack (length stack - 1) d) ((slice_index_or stack (length stack - 1) d).layer + 1) via
    → via.held ≡ true

-- No other via of its net begins within it.
abbrev pub IsAlone : List ViaAt → List ViaAt → Type 0
IsAlone vias stack = (k : ℕ) (via d : ViaAt) → 0 < k → k < length stack → Contains vias via
    → LiesOn (slice_index_or stack k d) (slice_index_or stack k d).layer via → via ≡ slice_index_or stack k d

-- The vias are those of the stacks, which stand apart.
pub record AreOfStacks (vias : List ViaAt) (stacks : List (List ViaAt)) : Type 0 where
  pub all : vias ≡ flat_map (λ (stack : List ViaAt). stack) stacks
  pub some : All HasVia stacks
  pub up : All GoesUp stacks
  pub bottom : All StandsOnPiece stacks
  pub top : All (EndsOnPiece vias) stacks
  pub alone : All (IsAlone vias) stacks
