-- Division of whole numbers by a positive whole number, rounded down and rounded up.
use Rattle.std.specs.Prelude.{ℤ, pos, ◌+ℤ◌, ◌-ℤ◌, ◌*ℤ◌, ◌≤ℤ◌, ◌<ℤ◌, neg_ℤ}
use Rattle.std.specs.Int.{int_div_euclid}
use Rattle.rounding.specs.declared.Round.{Round}
use Rattle.rounding.specs.declared.Round.TheVariants.{Down, Up}

-- f is z / r rounded down: the whole number with r·f ≤ z < r·(f + 1).
pub record IsFloor (z r f : ℤ) : Type 0 where
  pub reached : (r *ℤ f) ≤ℤ z
  pub next_is_above : z <ℤ (r *ℤ (f +ℤ pos 1))

-- f is z / r rounded up: the whole number with r·(f - 1) < z ≤ r·f.
pub record IsCeiling (z r f : ℤ) : Type 0 where
  pub reaches : z ≤ℤ (r *ℤ f)
  pub last_is_below : (r *ℤ (f -ℤ pos 1)) <ℤ z

-- z / r rounded down, for a positive r: Rust's `z.div_euclid(r)`.
abbrev pub floor_div : ℤ → ℤ → ℤ
floor_div z r = int_div_euclid z r

-- z / r rounded up, for a positive r: Rust's `-((-z).div_euclid(r))`.
abbrev pub ceil_div : ℤ → ℤ → ℤ
ceil_div z r = neg_ℤ (floor_div (neg_ℤ z) r)

-- z / r rounded down or up.
abbrev pub quotient : Round → ℤ → ℤ → ℤ
quotient Down z r = floor_div z r
quotient Up z r = ceil_div z r
