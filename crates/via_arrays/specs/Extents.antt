-- Extents of a crossing: the rectangle that two wires have in common.
use Rattle.std.specs.Prelude.{ℕ, ◌-ℤ◌, unsigned_abs}
use Rattle.geom_rect.specs.declared.direction.Axis.{Axis}
use Rattle.geom_rect.specs.declared.direction.Axis.TheVariants.{X, Y}
use Rattle.geom_rect.specs.declared.rect.Rect.{Rect}

-- The extent of a rectangle along an axis.
abbrev pub extent : Axis → Rect → ℕ
extent X rect = unsigned_abs (rect.x2 -ℤ rect.x1)
extent Y rect = unsigned_abs (rect.y2 -ℤ rect.y1)

-- The width of a layer at a crossing: the crossing's extent across the layer's direction.
abbrev pub width_across : Axis → Rect → ℕ
width_across X crossing = extent Y crossing
width_across Y crossing = extent X crossing
