-- What the steps over vias in order keep.
use Rattle.std.specs.Prelude.{◌≡◌, ℕ, pos, ◌+◌, ◌-◌, ◌<◌, ◌≤◌, true, false, List, [], ◌∷◌, ◌++◌, All, AllPairs, Contains, length, map, slice_index_or}
use Rattle.std.specs.List.{flat_map}
use Rattle.std.specs.Ordering.{is_lt}
use Rattle.wire_chains.specs.declared.via.ViaAt.{ViaAt}
use Rattle.wire_chains.specs.Chain.{LiesOn, IsJoined, IsChain, ComesBefore, via_order}

-- The via at a place of the list; beyond its end one that is none.
abbrev pub via_of : List ViaAt → ℕ → ViaAt
via_of all k = slice_index_or all k
    (record { net = 0; x = pos 0; y = pos 0; layer = 0; held = false; via = 0; number = 0 })

-- Each via comes before all later ones.
abbrev pub IsSorted : List ViaAt → Type 0
IsSorted all = AllPairs (λ (a b : ViaAt). is_lt (via_order a b) ≡ true) all

-- The two lie on one layer of one place of a net.
abbrev pub AreLevel : ViaAt → ViaAt → Type 0
AreLevel one other = LiesOn one one.layer other

-- The vias before a place and those from it on lie on different layers or at different places.
abbrev pub IsEnd : List ViaAt → ℕ → Type 0
IsEnd all to = 0 < to → to < length all → AreLevel (via_of all (to - 1)) (via_of all to) → ⊥

-- The vias at a place are the first of their layer, and go on from none.
pub record IsStart (all : List ViaAt) (from : ℕ) : Type 0 where
  pub ends : IsEnd all from
  pub alone : from < length all → (via : ViaAt) → Contains all via → IsJoined via (via_of all from) → ⊥

-- The vias at a place go on from those before it.
abbrev pub GoesOn : List ViaAt → ℕ → Type 0
GoesOn all to = (to < length all) × IsJoined (via_of all (to - 1)) (via_of all to)

-- The chains that go on from those of a list by one of the vias.
abbrev pub gone_on : List ViaAt → List (List ViaAt) → List (List ViaAt)
gone_on level chains = flat_map (λ chain. map (λ via. chain ++ via ∷ []) level) chains

-- The chain begins with a via between two places.
abbrev pub BeginsIn : List ViaAt → ℕ → ℕ → List ViaAt → Type 0
BeginsIn all from to chain = (k : ℕ) × (from ≤ k) × (k < to) × (via_of chain 0 ≡ via_of all k)

-- All chains that begin between two places.
pub record AreFrom (all : List ViaAt) (from to : ℕ) (chains : List (List ViaAt)) : Type 0 where
  pub each : All (IsChain all) chains
  pub begin : All (BeginsIn all from to) chains
  pub every : (chain : List ViaAt) → IsChain all chain → BeginsIn all from to chain → Contains chains chain
  pub in_order : AllPairs ComesBefore chains

-- They are added.
abbrev pub AddsRun : List ViaAt → ℕ → ℕ → List (List ViaAt) → List (List ViaAt) → Type 0
AddsRun all from to old new = (more : List (List ViaAt)) × (new ≡ old ++ more) × AreFrom all from to more

-- At the place of the first via others of its net lie on each layer from its own up to this one, and no piece is on
-- those above its own.
pub record IsRun (all : List ViaAt) (first : ViaAt) (top : ℕ) : Type 0 where
  pub rising : first.layer ≤ top
  pub first_is : Contains all first
  pub levels : (layer : ℕ) → first.layer < layer → layer ≤ top
      → (via : ViaAt) × Contains all via × LiesOn first layer via × (via.held ≡ false)

-- A chain from the layer of the first via up to this one.
pub record IsPath (all : List ViaAt) (first : ViaAt) (top : ℕ) (chain : List ViaAt) : Type 0 where
  pub some : 0 < length chain
  pub long : length chain + first.layer ≡ top + 1
  pub within : All (Contains all) chain
  pub joined : (k : ℕ) (d : ViaAt) → k + 1 < length chain
      → IsJoined (slice_index_or chain k d) (slice_index_or chain (k + 1) d)
  pub begins : AreLevel first (via_of chain 0)

-- All of them, in order.
pub record ArePaths (all : List ViaAt) (first : ViaAt) (top : ℕ) (paths : List (List ViaAt)) : Type 0 where
  pub each : All (IsPath all first top) paths
  pub every : (chain : List ViaAt) → IsPath all first top chain → Contains paths chain
  pub in_order : AllPairs ComesBefore paths

-- All vias of a layer at the place of the first via, in order.
pub record IsLevel (all : List ViaAt) (first : ViaAt) (on : ℕ) (level : List ViaAt) : Type 0 where
  pub each : All (λ via. Contains all via × LiesOn first on via) level
  pub every : (via : ViaAt) → Contains all via → LiesOn first on via → Contains level via
  pub in_order : IsSorted level

-- What is known of the vias from one place up to another, with the chains through all of their layers.
pub record InRun (all : List ViaAt) (from to : ℕ) (paths : List (List ViaAt)) : Type 0 where
  pub some : from < to
  pub within : to ≤ length all
  pub ends : IsEnd all to
  pub run : IsRun all (via_of all from) (via_of all (to - 1)).layer
  pub last : LiesOn (via_of all from) (via_of all (to - 1)).layer (via_of all (to - 1))
  -- each of them lies on one of the layers
  pub inside : (k : ℕ) → from ≤ k → k < to → LiesOn (via_of all from) (via_of all k).layer (via_of all k)
      × ((via_of all from).layer ≤ (via_of all k).layer) × ((via_of all k).layer ≤ (via_of all (to - 1)).layer)
  -- all vias on the layer of the first are among them
  pub firsts : (k : ℕ) → k < length all → AreLevel (via_of all from) (via_of all k) → (from ≤ k) × (k < to)
  pub are : ArePaths all (via_of all from) (via_of all (to - 1)).layer paths
