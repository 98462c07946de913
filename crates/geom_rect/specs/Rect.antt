-- Rectangles with edges along the axes, by the points and the units of area in them.
use Rattle.std.specs.Prelude.{ℤ, pos, neg_ℤ, ◌+ℤ◌, ◌-ℤ◌, ◌≤ℤ◌}
use Rattle.geom_rect.specs.declared.rect.TheConstants.{GREATEST_COORDINATE}
use Rattle.geom_rect.specs.declared.rect.Rect.{Rect}

-- the rectangle has its left edge not right of its right one, and its lower edge not above its upper one
abbrev pub IsInOrder : Rect → Type 0
IsInOrder a = (a.x1 ≤ℤ a.x2) × (a.y1 ≤ℤ a.y2)

-- z lies from low up to high, ends included
abbrev pub IsBetween : ℤ → ℤ → ℤ → Type 0
IsBetween low high z = (low ≤ℤ z) × (z ≤ℤ high)

-- the point (x, y) lies in the rectangle, edges included
abbrev pub HasPoint : Rect → ℤ → ℤ → Type 0
HasPoint a x y = IsBetween a.x1 a.x2 x × IsBetween a.y1 a.y2 y

-- the unit of area from (x, y) to (x + 1, y + 1) lies in the rectangle
abbrev pub HasUnit : Rect → ℤ → ℤ → Type 0
HasUnit a x y = HasPoint a x y × HasPoint a (x +ℤ pos 1) (y +ℤ pos 1)

-- There is a point in both. Edges are whole numbers, so two rectangles that share any point share one with whole
-- coordinates.
abbrev pub SharePoint : Rect → Rect → Type 0
SharePoint a b = (x : ℤ) × (y : ℤ) × (HasPoint a x y × HasPoint b x y)

-- there is a unit of area in both
abbrev pub ShareArea : Rect → Rect → Type 0
ShareArea a b = (x : ℤ) × (y : ℤ) × (HasUnit a x y × HasUnit b x y)

-- each edge lies `by` further out
abbrev pub grown_by : Rect → ℤ → Rect
grown_by a by = record { x1 = a.x1 -ℤ by; y1 = a.y1 -ℤ by; x2 = a.x2 +ℤ by; y2 = a.y2 +ℤ by }

-- a coordinate is at most the greatest one from 0
abbrev pub IsCoordinate : ℤ → Type 0
IsCoordinate z = IsBetween (neg_ℤ GREATEST_COORDINATE) GREATEST_COORDINATE z

-- each edge lies at a coordinate
abbrev pub HasCoordinates : Rect → Type 0
HasCoordinates a = IsCoordinate a.x1 × IsCoordinate a.y1 × IsCoordinate a.x2 × IsCoordinate a.y2
