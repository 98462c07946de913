-- How a placed macro is turned (LEF/DEF 5.8 Language Reference, "Specifying Orientation", COMPONENTS).
use Rattle.std.specs.Prelude.{◌↔◌, ℤ, pos, ◌+ℤ◌, ◌-ℤ◌}
use Rattle.std.specs.Int.{int_max, int_min}
use Rattle.geom_rect.specs.declared.direction.Orient.{Orient}
use Rattle.geom_rect.specs.declared.direction.Orient.TheVariants.{N, S, W, E, FN, FS, FW, FE}
use Rattle.geom_rect.specs.declared.rect.Rect.{Rect}
use Rattle.geom_rect.specs.Rect.{HasPoint}
use Rattle.macro_turns.specs.declared.turned.Placed.{Placed}
use Rattle.macro_turns.specs.declared.turned.Point.{Point}

-- How far a coordinate is from the upper edge of a macro of this size.
abbrev pub from_edge : ℤ → ℤ → ℤ
from_edge size at = size -ℤ at

-- Where the point (x, y) of a macro of this width and height goes, with the lower left corner of its turned box at 0: the
-- eight orientations.
abbrev pub turned : Orient → ℤ → ℤ → Point → Point
turned N w h p = record { x = p.x; y = p.y }
turned S w h p = record { x = from_edge w p.x; y = from_edge h p.y }
turned W w h p = record { x = from_edge h p.y; y = p.x }
turned E w h p = record { x = p.y; y = from_edge w p.x }
turned FN w h p = record { x = from_edge w p.x; y = p.y }
turned FS w h p = record { x = p.x; y = from_edge h p.y }
turned FW w h p = record { x = p.y; y = p.x }
turned FE w h p = record { x = from_edge h p.y; y = from_edge w p.x }

abbrev pub moved : Point → Point → Point
moved by p = record { x = by.x +ℤ p.x; y = by.y +ℤ p.y }

-- Where a point of a placed macro lies.
abbrev pub point_in_place : Placed → Point → Point
point_in_place m p = moved m.corner (turned m.orient m.width m.height p)

-- The least rectangle with two points.
abbrev pub spanned : Point → Point → Rect
spanned a b = record { x1 = int_min a.x b.x; y1 = int_min a.y b.y; x2 = int_max a.x b.x; y2 = int_max a.y b.y }

-- Where a rectangle of it lies: the least one with the places of two opposite corners.
abbrev pub rect_in_place : Placed → Rect → Rect
rect_in_place m rect =
    spanned (point_in_place m (record { x = rect.x1; y = rect.y1 })) (point_in_place m (record { x = rect.x2; y = rect.y2 }))

-- The box of the macro.
abbrev pub box_in_place : Placed → Rect
box_in_place m = rect_in_place m (record { x1 = pos 0; y1 = pos 0; x2 = m.width; y2 = m.height })

-- The point lies in the rectangle, edges included.
abbrev pub Holds : Rect → Point → Type 0
Holds rect p = HasPoint rect p.x p.y

-- A rectangle has the places of exactly the points of another.
abbrev pub HasPlacesOf : Placed → Rect → Rect → Type 0
HasPlacesOf m rect placed = (p : Point) → Holds rect p ↔ Holds placed (point_in_place m p)
