-- When the numbers of a table fit the arithmetic.
use Rattle.std.specs.Prelude.{ℕ, ◌*◌, ◌^◌, ◌<◌, ◌≤◌, List, length, All, AllPairs}
use Rattle.lef_tech.specs.declared.layer.Density.{Density}
use Rattle.lef_tech.specs.declared.layer.Density.TheVariants.{Unlimited, One, Table}

-- The entry of one point times the place of another, over the denominator d.
abbrev pub IsSmall : ℕ → ℕ × ℕ → ℕ × ℕ → Type 0
IsSmall d p q = p.1 * (q.0 * d) ≤ 10 ^ 38

-- A table has a point, its points rise, and each product of an entry and a place is small.
pub record Fits (points : List (ℕ × ℕ)) (d : ℕ) : Type 0 where
  pub some : 0 < length points
  pub rise : AllPairs (λ (p q : ℕ × ℕ). p.0 < q.0) points
  pub small : All (λ p. All (IsSmall d p) points) points

-- The table of a density fits, if it has one.
abbrev pub DensityFits : Density → ℕ → Type 0
DensityFits Unlimited d = Unit {0}
DensityFits (One stated) d = Unit {0}
DensityFits (Table points) d = Fits points d
