-- Rectangles of macros are not wide.
use Rattle.std.specs.Prelude.{ℤ, pos, neg_ℤ, ◌-ℤ◌, ◌≤ℤ◌, ◌<ℤ◌}
use Rattle.geom_rect.specs.declared.rect.Rect.{Rect}

-- At most 2·10^9 units from 0: 100 mm with 20000 units in a micrometre.
abbrev pub IsWithin : ℤ → Type 0
IsWithin z = (neg_ℤ (pos 2000000000) ≤ℤ z) × (z ≤ℤ pos 2000000000)

-- Extents are below 2^32.
pub record IsSmall (rect : Rect) : Type 0 where
  pub wide : (rect.x2 -ℤ rect.x1) <ℤ pos 4294967296
  pub high : (rect.y2 -ℤ rect.y1) <ℤ pos 4294967296
