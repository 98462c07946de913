-- What is asked of a macro and its place.
use Rattle.std.specs.Prelude.{ℤ, pos, neg_ℤ, ◌≤ℤ◌}
use Rattle.geom_rect.specs.declared.rect.Rect.{Rect}
use Rattle.geom_rect.specs.Rect.{IsInOrder}
use Rattle.macro_turns.specs.declared.turned.TheConstants.{MOST_LENGTH}
use Rattle.macro_turns.specs.declared.turned.Placed.{Placed}
use Rattle.macro_turns.specs.declared.turned.Point.{Point}

-- At most the greatest length from 0.
abbrev pub IsNear : ℤ → Type 0
IsNear z = (neg_ℤ MOST_LENGTH ≤ℤ z) × (z ≤ℤ MOST_LENGTH)

-- The same, and not below 0.
abbrev pub IsLength : ℤ → Type 0
IsLength z = (pos 0 ≤ℤ z) × (z ≤ℤ MOST_LENGTH)

pub record PointKeeps (p : Point) : Type 0 where
  pub x : IsNear p.x
  pub y : IsNear p.y

pub record PlacedKeeps (m : Placed) : Type 0 where
  pub corner : PointKeeps m.corner
  pub width : IsLength m.width
  pub height : IsLength m.height

pub record RectKeeps (rect : Rect) : Type 0 where
  pub in_order : IsInOrder rect
  pub x1 : IsNear rect.x1
  pub y1 : IsNear rect.y1
  pub x2 : IsNear rect.x2
  pub y2 : IsNear rect.y2
