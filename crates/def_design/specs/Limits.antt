-- What every design that is read keeps: numbers are within their limits, rectangles are in order, the die and the
-- regions have an area, rows lie along the x axis, and names stand once.
use Rattle.name_table.specs.Numbering.{AreDistinct}
use Rattle.std.specs.Prelude.{◌≡◌, ◌^◌, ◌≤◌, ◌<◌, ℤ, pos, ◌≤ℤ◌, ◌<ℤ◌, unsigned_abs, Bool, true, false, length, map, All, Option, Some, None}
use Rattle.geom_rect.specs.declared.direction.Orient.{Orient}
use Rattle.geom_rect.specs.declared.direction.Orient.TheVariants as orients
use Rattle.geom_rect.specs.declared.rect.Rect.{Rect}
use Rattle.geom_rect.specs.Rect.{IsInOrder}
use Rattle.def_design.specs.declared.record.Blockage.{Blockage}
use Rattle.def_design.specs.declared.record.Component.{Component}
use Rattle.def_design.specs.declared.record.Design.{Design}
use Rattle.def_design.specs.declared.record.Fence.{Fence}
use Rattle.def_design.specs.declared.record.Row.{Row}

-- At most 2^30 from 0.
abbrev pub IsNear : ℤ → Type 0
IsNear z = unsigned_abs z ≤ 2 ^ 30

-- The same, and not below 0.
abbrev pub IsLength : ℤ → Type 0
IsLength z = (pos 0 ≤ℤ z) × IsNear z

-- A value that may be absent.
abbrev pub Keeps : {X : Type 0} → (X → Type 0) → Option X → Type 0
Keeps keeps None = Unit {0}
Keeps keeps (Some x) = keeps x

-- A rectangle in order and near 0.
pub record RectKeeps (rect : Rect) : Type 0 where
  pub in_order : IsInOrder rect
  pub x1 : IsNear rect.x1
  pub y1 : IsNear rect.y1
  pub x2 : IsNear rect.x2
  pub y2 : IsNear rect.y2

-- The same with an area.
pub record AreaKeeps (rect : Rect) : Type 0 where
  pub keeps : RectKeeps rect
  pub wide : rect.x1 <ℤ rect.x2
  pub high : rect.y1 <ℤ rect.y2

-- N, S, FN and FS leave a row along the x axis.
abbrev pub is_along : Orient → Bool
is_along orients.N = true
is_along orients.S = true
is_along orients.FN = true
is_along orients.FS = true
is_along _ = false

pub record RowKeeps (row : Row) : Type 0 where
  pub x : IsNear row.x
  pub y : IsNear row.y
  pub orient : is_along row.orient ≡ true
  pub some : pos 1 ≤ℤ row.count
  pub count : IsNear row.count
  pub step : Keeps IsLength row.step

abbrev pub PlaceKeeps : ℤ × ℤ × Orient → Type 0
PlaceKeeps (x, y, orient) = IsNear x × IsNear y

abbrev pub ComponentKeeps : Component → Type 0
ComponentKeeps component = Keeps PlaceKeeps component.place

pub record BlockageKeeps (blockage : Blockage) : Type 0 where
  pub spacing : Keeps IsLength blockage.spacing
  pub rect : RectKeeps blockage.rect

pub record RegionKeeps (region : Fence) : Type 0 where
  pub some : 0 < length region.rects
  pub rects : All AreaKeeps region.rects

-- What every record that is read keeps.
pub record DesignKeeps (design : Design) : Type 0 where
  pub some_units : 1 ≤ design.units
  pub units : design.units ≤ 20000
  pub die : AreaKeeps design.die
  pub rows : All RowKeeps design.rows
  pub components : All ComponentKeeps design.components
  pub component_names : AreDistinct (map (λ component. component.name) design.components)
  pub blockages : All BlockageKeeps design.blockages
  pub regions : All RegionKeeps design.regions
  pub region_names : AreDistinct (map (λ region. region.name) design.regions)
