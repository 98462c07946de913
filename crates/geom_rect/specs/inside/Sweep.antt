-- What the steps of the sweep over runs keep.
use Rattle.std.specs.Prelude.{ℕ, ℤ, ◌<ℤ◌, ◌≤ℤ◌, ◌↔◌, ◌⊎◌, List, All, AllPairs}
use Rattle.std.specs.List.{AllWithin}
use Rattle.geom_rect.specs.declared.run.Run.{Run}
use Rattle.geom_rect.specs.Run.{IsHeld, IsOpen}

-- each run has a cell
abbrev pub HaveCells : List Run → Type 0
HaveCells runs = All (λ (run : Run). run.from <ℤ run.to) runs

-- none begins before an earlier one
abbrev pub AreRising : List Run → Type 0
AreRising runs = AllPairs (λ (a b : Run). a.from ≤ℤ b.from) runs

-- the same cells in runs that have a cell and rise
pub record Rises (old new : List Run) : Type 0 where
  pub held : (t : ℤ) → IsHeld new t ↔ IsHeld old t
  pub some : HaveCells new
  pub rising : AreRising new

-- each run ends before the next one begins, with at least one cell between them
pub record AreSeparate (runs : List Run) : Type 0 where
  pub some : HaveCells runs
  pub apart : AllPairs (λ (a b : Run). a.to <ℤ b.from) runs

-- no run has a cell from `at` on
abbrev pub EndBy : ℤ → List Run → Type 0
EndBy at runs = All (λ (run : Run). run.to ≤ℤ at) runs

-- the cells from `from` up to below `to` are added at the end
pub record AddsCells (old : List Run) (from to : ℤ) (new : List Run) : Type 0 where
  pub held : (t : ℤ) → IsHeld new t ↔ (IsHeld old t ⊎ ((from ≤ℤ t) × (t <ℤ to)))
  pub separate : AreSeparate new
  pub ends : (at : ℤ) → from ≤ℤ at → to ≤ℤ at → EndBy at new

-- the answer is known below `at`, and the first i and j runs of the two lists end there
pub record IsSettled (covered blocked : List Run) (at : ℤ) (i j : ℕ) (answer : List Run) : Type 0 where
  pub known : (t : ℤ) → t <ℤ at → IsHeld answer t ↔ IsOpen covered blocked t
  pub separate : AreSeparate answer
  pub ends : EndBy at answer
  pub covered_ended : AllWithin (λ (run : Run). run.to ≤ℤ at) covered 0 i
  pub blocked_ended : AllWithin (λ (run : Run). run.to ≤ℤ at) blocked 0 j
