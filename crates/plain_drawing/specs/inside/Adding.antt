-- What is added to a list in which no entry stands twice.
use Rattle.std.specs.Prelude.{◌≡◌, ◌≢◌, ◌⊎◌, [], ◌∷◌, ◌++◌, List, All, AllPairs, Contains}

-- Of the entries that are asked for (P), those of one part (S) are added; all that stands in the list is asked for.
pub record Adds {X : Type 0} (P S : X → Type 0) (old new : List X) : Type 0 where
  pub kept : (x : X) → Contains old x → Contains new x
  pub each : All P old → All P new
  pub every : (x : X) → P x → S x → Contains new x
  pub differ : AllPairs (λ (a b : X). a ≢ b) old → AllPairs (λ (a b : X). a ≢ b) new

-- One entry is added at the end, unless it is there.
abbrev pub AddsOne : {X : Type 0} → X → List X → List X → Type 0
AddsOne {X} x old new = (Contains old x × (new ≡ old)) ⊎ ((Contains old x → ⊥) × (new ≡ old ++ x ∷ []))
