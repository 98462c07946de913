-- Edges that lie at coordinates.
use Rattle.std.proofs.Common.{◌≡◌, ℕ, ◌≤◌, ◌^◌, ℤ, pos, ◌+ℤ◌, ◌-ℤ◌, ◌<ℤ◌, arith}
use Rattle.std.proofs.lemmas.Int.{ints}
use Rattle.geom_rect.specs.declared.direction.Axis.{Axis}
use Rattle.geom_rect.specs.declared.direction.Axis.TheVariants.{X, Y}
use Rattle.geom_rect.specs.declared.drawn.Drawn.{Drawn}
use Rattle.geom_rect.specs.declared.run.Run.{Run}
use Rattle.geom_rect.specs.Drawn.{half, centred, IsWidth}
use Rattle.geom_rect.specs.Rect.{IsCoordinate, HasCoordinates}
use Rattle.grid_cores.specs.Line.{LineKeeps}
use Rattle.grid_pieces.specs.Limits.{WidthKeeps, DrawnKeeps}
use Rattle.grid_plan.specs.Keeping.{IsNear, IsLineWidth}
use Rattle.grid_shapes.proofs.Cores.{low_of, high_of}

-- Both ends of a run.
pub record RunFits (run : Run) : Type 0 where
  pub from : IsCoordinate run.from
  pub to : IsCoordinate run.to

pub coordinate : (most : ℕ) (z : ℤ) → most ≤ 2 ^ 61 → IsNear most z → IsCoordinate z
coordinate most z few near =
    let low = low_of most z near in
    let high = high_of most z near in
    (omega (arith, ints), omega (arith, ints))

-- Half of a width.
pub halves : (w : ℤ) → IsLineWidth w → (pos 0 <ℤ half w) × (half w <ℤ pos (2 ^ 31)) × (w ≡ half w +ℤ half w)
halves w h =
    let low = h.0.0 in
    let even = h.0.1 in
    let high = h.1 in
    (omega (arith, ints), omega (arith, ints), even)

pub width_keeps : (w : ℤ) → IsLineWidth w → WidthKeeps w
width_keeps w h =
    let low = h.0.0 in
    let even = h.0.1 in
    let high = h.1 in
    (omega (arith, ints), omega (arith, ints))

-- The edges of a line, and its ends, make its rectangle.
pub centred_fits : (axis : Axis) (centre width from to : ℤ) → IsCoordinate (centre -ℤ half width) → IsCoordinate (centre +ℤ half width) → IsCoordinate from
    → IsCoordinate to → HasCoordinates (centred axis centre width from to)
centred_fits X centre width from to low high first last = (first, low, last, high)
centred_fits Y centre width from to low high first last = (low, first, high, last)

pub edge_low : (axis : Axis) (centre width from to : ℤ) → HasCoordinates (centred axis centre width from to) → IsCoordinate (centre -ℤ half width)
edge_low X centre width from to h = h.1
edge_low Y centre width from to h = h.0

pub edge_high : (axis : Axis) (centre width from to : ℤ) → HasCoordinates (centred axis centre width from to) → IsCoordinate (centre +ℤ half width)
edge_high X centre width from to h = h.3
edge_high Y centre width from to h = h.2

pub end_low : (axis : Axis) (centre width from to : ℤ) → HasCoordinates (centred axis centre width from to) → IsCoordinate from
end_low X centre width from to h = h.0
end_low Y centre width from to h = h.1

pub end_high : (axis : Axis) (centre width from to : ℤ) → HasCoordinates (centred axis centre width from to) → IsCoordinate to
end_high X centre width from to h = h.2
end_high Y centre width from to h = h.3

pub line_keeps : (d : Drawn) → IsWidth d.width → DrawnKeeps d → LineKeeps d
line_keeps d wide keeps = (wide, edge_low d.axis d.centre d.width d.from d.to keeps.1, edge_high d.axis d.centre d.width d.from d.to keeps.1)
