-- The first of a list that has not what all are to have.
use Rattle.std.specs.Prelude.{◌≡◌, ℕ, ◌<◌, List, Some, slice_get}

-- The entry at a place has not the property, and all before it have it.
pub record IsFirstWithout {X : Type 0} (P : X → Type 0) (xs : List X) (place : ℕ) (entry : X) : Type 0 where
  pub stands : slice_get xs place ≡ Some entry
  pub lacks : P entry → ⊥
  pub before : (k : ℕ) (other : X) → k < place → slice_get xs k ≡ Some other → P other

-- All have it.
abbrev pub EachHas : {X : Type 0} → (X → Type 0) → List X → Type 0
EachHas {X} P xs = (k : ℕ) (entry : X) → slice_get xs k ≡ Some entry → P entry
