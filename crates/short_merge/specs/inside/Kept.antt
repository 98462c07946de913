-- The names of the first groups moved to the front of the list.
use Rattle.std.specs.Prelude.{◌≡◌, ℕ, ◌<◌, List, [], length, slice_index, slice_index_or}

-- The first so many entries are those of the first nodes, and what stands after the last of these nodes is as it was.
pub record AreKept (names now : List (List ℕ)) (firsts : List ℕ) (count : ℕ) : Type 0 where
  pub same_length : length now ≡ length names
  pub kept : (g : ℕ) → g < count → slice_index_or now g [] ≡ slice_index_or names (slice_index firsts g) []
  pub rest : (j : ℕ) → ((g : ℕ) → g < count → slice_index firsts g < j) → slice_index_or now j [] ≡ slice_index_or names j []
