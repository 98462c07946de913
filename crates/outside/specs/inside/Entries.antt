-- Where the first entry of a name stands.
use Rattle.std.specs.Prelude.{◌≡◌, ◌≢◌, ℕ, ◌<◌, List, length, slice_index_or}

-- None of the first n entries has this name.
abbrev pub OthersBelow : {V : Type 0} → List (List ℕ × V) → List ℕ → ℕ → Type 0
OthersBelow {V} entries name n =
    (k : ℕ) (entry : List ℕ × V) → k < n → (slice_index_or entries k entry).0 ≢ name

-- The first entry of a name stands at this place.
pub record IsFirstPlace {V : Type 0} (entries : List (List ℕ × V)) (name : List ℕ) (place : ℕ) : Type 0 where
  pub within : place < length entries
  pub named : (entry : List ℕ × V) → (slice_index_or entries place entry).0 ≡ name
  pub before : OthersBelow entries name place

-- No entry has this name.
abbrev pub IsAbsent : {V : Type 0} → List (List ℕ × V) → List ℕ → Type 0
IsAbsent entries name = OthersBelow entries name (length entries)
