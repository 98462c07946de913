-- Names that are numbered as they come: the number of a name is its place in the list.
use Rattle.std.specs.Prelude.{◌≡◌, ◌≢◌, ℕ, ◌⊎◌, List, [], ◌∷◌, ◌++◌, AllPairs, Contains}

-- No name stands twice.
abbrev pub AreDistinct : List (List ℕ) → Type 0
AreDistinct names = AllPairs (λ a b. a ≢ b) names

-- The names after one of them was asked for: as they were where it is among them, and else with it at their end.
abbrev pub TakesName : List (List ℕ) → List (List ℕ) → List ℕ → Type 0
TakesName old new name = (Contains old name × (new ≡ old)) ⊎ ((¬ Contains old name) × (new ≡ old ++ name ∷ []))
