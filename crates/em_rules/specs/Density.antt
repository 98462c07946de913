-- How dense a direct current may be at a width of a wire or an area of a cut (LEF/DEF 5.8 Language Reference,
-- DCCURRENTDENSITY AVERAGE with WIDTH or CUTAREA, and TABLEENTRIES). A width or an area is a fraction n / d of the unit
-- that the points of the table have.
use Rattle.std.specs.Prelude.{◌≡◌, ℕ, ◌+◌, ◌-◌, ◌*◌, ◌/◌, ◌≤◌, ◌⊎◌, List, length, slice_get, Some}

-- At n / d the straight line from the point p to the point q has this density, rounded down to a whole femtoampere.
abbrev pub on_line : ℕ × ℕ → ℕ × ℕ → ℕ → ℕ → ℕ
on_line p q n d = (p.1 * (q.0 * d - n) + q.1 * (n - p.0 * d)) / ((q.0 - p.0) * d)

-- At the first point of the table and below it the density is that of the first point.
pub record IsBelowTable (points : List (ℕ × ℕ)) (n d density : ℕ) : Type 0 where
  pub first : ℕ × ℕ
  pub is_first : slice_get points 0 ≡ Some first
  pub below : n ≤ first.0 * d
  pub is : density ≡ first.1

-- From one point of the table to the next one the density lies on the straight line between them.
pub record IsInTable (points : List (ℕ × ℕ)) (n d density : ℕ) : Type 0 where
  pub place : ℕ
  pub point : ℕ × ℕ
  pub next : ℕ × ℕ
  pub is_point : slice_get points place ≡ Some point
  pub is_next : slice_get points (place + 1) ≡ Some next
  pub from : point.0 * d ≤ n
  pub to : n ≤ next.0 * d
  pub is : density ≡ on_line point next n d

-- At the last point of the table and above it the density is that of the last point.
pub record IsAboveTable (points : List (ℕ × ℕ)) (n d density : ℕ) : Type 0 where
  pub place : ℕ
  pub last : ℕ × ℕ
  pub is_last : (slice_get points place ≡ Some last) × (place + 1 ≡ length points)
  pub above : last.0 * d ≤ n
  pub is : density ≡ last.1

-- The density that a table has at n / d.
abbrev pub IsTableDensity : List (ℕ × ℕ) → ℕ → ℕ → ℕ → Type 0
IsTableDensity points n d density =
    IsBelowTable points n d density ⊎ (IsInTable points n d density ⊎ IsAboveTable points n d density)
