-- What it is that a network with shorts has a solution, and by how much the currents of its shorts are free.
use Rattle.std.specs.Prelude.{ℕ, ◌*◌, ◌==◌, if◌then◌else◌, ℤ, pos, ◌+ℤ◌, ◌-ℤ◌, ◌*ℤ◌, List}
use Rattle.grid_net.specs.Network.{Network}
use Rattle.grid_net.specs.Shorted.{IsShortedSolution}

-- There is a solution of the network with shorts in which these very currents are drawn, over a multiple of their denominator.
pub record HasShortedSolution (net : Network) (shorts : List (ℕ × ℕ)) (d : ℕ) (drawn : ℕ → ℤ) : Type 0 where
  pub factor : ℕ
  pub potential : ℕ → ℤ
  pub current : ℕ → ℤ
  pub through_short : ℕ → ℤ
  pub is_solution : IsShortedSolution net shorts (factor * d) potential current (λ i. pos factor *ℤ drawn i) through_short

-- The currents of shorts, and one more of size x that goes round: there through one short, and back through another.
abbrev pub with_loop : ℕ → ℕ → ℤ → (ℕ → ℤ) → ℕ → ℤ
with_loop there back x s k = (s k +ℤ (if k == there then x else pos 0)) -ℤ (if k == back then x else pos 0)
