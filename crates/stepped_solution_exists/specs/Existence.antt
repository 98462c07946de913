-- What it is that a network has a solution over time steps.
use Rattle.std.specs.Prelude.{ℕ, zero, suc, ◌<◌, ◌≤◌, ◌*◌, ℤ, pos, ◌*ℤ◌, ◌≤ℤ◌, List}
use Rattle.grid_net.specs.Network.{Network, low_load}
use Rattle.wave_file.specs.declared.record.Change.{Change}
use Rattle.step_bounds.specs.declared.companion.Companion.{Companion}
use Rattle.step_bounds.specs.Changes.{load_at}
use Rattle.step_bounds.specs.SteppedSolution.{IsSteppedSolution}
use Rattle.solution_exists.specs.Existence.{AreDrawn, DrawAlike}

-- Currents that are drawn at each step up to a last one, in whole numbers over a common denominator d: drawn / d lies within the
-- range of each node's load at step 0, and at each later step within that of the step.
pub record AreDrawnOver (net : Network) (changes : List Change) (last d : ℕ) (drawn : ℕ → ℕ → ℤ) : Type 0 where
  pub start : AreDrawn net d (drawn 0)
  pub later : (t i : ℕ) → t < last → i < net.nodes
      → ((pos d *ℤ (load_at net changes (suc t) i).low) ≤ℤ drawn (suc t) i)
      × (drawn (suc t) i ≤ℤ (pos d *ℤ (load_at net changes (suc t) i).high))

-- There is a solution over the steps in which these very currents are drawn: its common denominator is a multiple of theirs.
pub record HasSteppedSolution (net : Network) (companions : List Companion) (changes : List Change) (last d : ℕ)
    (drawn : ℕ → ℕ → ℤ) : Type 0 where
  pub factor : ℕ
  pub potential : ℕ → ℕ → ℤ
  pub current : ℕ → ℕ → ℤ
  pub charge : ℕ → ℕ → ℤ
  pub is_solution : IsSteppedSolution net companions changes last (factor * d) potential current charge
      (λ t i. pos factor *ℤ drawn t i)

-- The low ends of all loads, at step 0 and at each later one.
abbrev pub low_ends_over : Network → List Change → ℕ → ℕ → ℤ
low_ends_over net changes zero i = low_load net i
low_ends_over net changes (suc t) i = (load_at net changes (suc t) i).low

-- The same is drawn at each step and each node that is no pad, l / q and m / r.
abbrev pub DrawAlikeOver : Network → ℕ → ℕ → (ℕ → ℕ → ℤ) → ℕ → (ℕ → ℕ → ℤ) → Type 0
DrawAlikeOver net last q l r m = (t : ℕ) → t ≤ last → DrawAlike net q (l t) r (m t)
