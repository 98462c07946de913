-- The byte order of names. A name is a list of bytes.
use Rattle.std.specs.Prelude.{◌≡◌, ℕ, ◌<◌, ◌⊎◌, ⊤, List, [], ◌∷◌, AllPairs}

-- A name stands before another: it is a beginning of the other, or has the smaller byte where the two first differ.
abbrev pub IsBefore : List ℕ → List ℕ → Type 0
IsBefore [] [] = ⊥
IsBefore [] (y ∷ ys) = ⊤
IsBefore (x ∷ xs) [] = ⊥
IsBefore (x ∷ xs) (y ∷ ys) = (x < y) ⊎ ((x ≡ y) × IsBefore xs ys)

-- Each name stands before all later ones.
abbrev pub IsInByteOrder : List (List ℕ) → Type 0
IsInByteOrder names = AllPairs IsBefore names
