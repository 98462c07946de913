-- What it is that a network has a solution, and that two solutions are the same.
use Rattle.std.specs.Prelude.{◌≡◌, ℕ, ◌<◌, ◌≤◌, ◌*◌, ℤ, pos, ◌*ℤ◌, ◌≤ℤ◌, None}
use Rattle.grid_net.specs.Network.{Network, low_load, high_load, pad_at}
use Rattle.grid_net.specs.Level.{IsSupplied}
use Rattle.grid_net.specs.Solution.{IsSolution}

-- Each node is joined to a pad by a chain of resistors.
abbrev pub EachIsSupplied : Network → Type 0
EachIsSupplied net = (i : ℕ) → i < net.nodes → IsSupplied net i

-- Currents that are drawn, in whole numbers over a common denominator d: drawn / d lies within the range of each node's load.
pub record AreDrawn (net : Network) (d : ℕ) (drawn : ℕ → ℤ) : Type 0 where
  pub denominator : 1 ≤ d
  pub within : (i : ℕ) → i < net.nodes
      → ((pos d *ℤ low_load net i) ≤ℤ drawn i) × (drawn i ≤ℤ (pos d *ℤ high_load net i))

-- There is a solution in which these very currents are drawn: its common denominator is a multiple of theirs.
pub record HasSolution (net : Network) (d : ℕ) (drawn : ℕ → ℤ) : Type 0 where
  pub factor : ℕ
  pub potential : ℕ → ℤ
  pub current : ℕ → ℤ
  pub is_solution : IsSolution net (factor * d) potential current (λ i. pos factor *ℤ drawn i)

-- The first so many numbers over q and those over r are the same fractions: x / q and y / r.
abbrev pub AreSame : ℕ → ℕ → (ℕ → ℤ) → ℕ → (ℕ → ℤ) → Type 0
AreSame count q x r y = (i : ℕ) → i < count → pos r *ℤ x i ≡ pos q *ℤ y i

-- The same is drawn at each node that is no pad, l / q and m / r. What is drawn at a pad's node moves no voltage.
abbrev pub DrawAlike : Network → ℕ → (ℕ → ℤ) → ℕ → (ℕ → ℤ) → Type 0
DrawAlike net q l r m = (i : ℕ) → i < net.nodes → pad_at net i ≡ None → pos r *ℤ l i ≡ pos q *ℤ m i
