-- Runs of unit cells along a line, by the cells in them.
use Rattle.std.specs.Prelude.{ℤ, pos, ◌-ℤ◌, ◌<ℤ◌, ◌≤ℤ◌, List, All, AllPairs, Contains}
use Rattle.geom_rect.specs.declared.run.Run.{Run}

-- cell t, the unit from t to t + 1, is one of the run's
abbrev pub HasCell : Run → ℤ → Type 0
HasCell run t = (run.from ≤ℤ t) × (t <ℤ run.to)

-- some run of the list has the cell
abbrev pub IsHeld : List Run → ℤ → Type 0
IsHeld runs t = (run : Run) × Contains runs run × HasCell run t

-- some covered run has the cell, and no blocked run has it
abbrev pub IsOpen : List Run → List Run → ℤ → Type 0
IsOpen covered blocked t = IsHeld covered t × (IsHeld blocked t → ⊥)

-- a run of cells with the property that is as long as can be
pub record IsMaximal (P : ℤ → Type 0) (run : Run) : Type 0 where
  -- it has a cell
  pub some : run.from <ℤ run.to
  -- each of its cells has the property
  pub each : (t : ℤ) → HasCell run t → P t
  -- the cell before it has not, and neither has the cell after it
  pub before : P (run.from -ℤ pos 1) → ⊥
  pub after : P run.to → ⊥

-- all maximal runs of the cells with the property, rising
pub record AreMaximalRuns (P : ℤ → Type 0) (runs : List Run) : Type 0 where
  pub maximal : All (IsMaximal P) runs
  -- no cell with the property is left out
  pub every : (t : ℤ) → P t → IsHeld runs t
  pub rising : AllPairs (λ (a b : Run). a.from <ℤ b.from) runs
