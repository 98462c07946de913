-- The metal of a shape that goes along an axis.
use Rattle.std.specs.Prelude.{◌≡◌, ℤ, pos, ◌+ℤ◌, ◌-ℤ◌, ◌<ℤ◌, int_div}
use Rattle.geom_rect.specs.declared.direction.Axis.{Axis}
use Rattle.geom_rect.specs.declared.direction.Axis.TheVariants.{X, Y}
use Rattle.geom_rect.specs.declared.drawn.Drawn.{Drawn}
use Rattle.geom_rect.specs.declared.rect.Rect.{Rect}
use Rattle.geom_rect.specs.declared.run.Run.{Run}

-- half of a width; widths are even
abbrev pub half : ℤ → ℤ
half width = int_div width (pos 2)

-- a width is positive, and twice its half
abbrev pub IsWidth : ℤ → Type 0
IsWidth width = (pos 0 <ℤ width) × (width ≡ half width +ℤ half width)

-- the rectangle that goes along the axis from `from` to `to`, and across it from `low` to `high`
abbrev pub strip : Axis → ℤ → ℤ → ℤ → ℤ → Rect
strip X from to low high = record { x1 = from; y1 = low; x2 = to; y2 = high }
strip Y from to low high = record { x1 = low; y1 = from; x2 = high; y2 = to }

-- the same, with half of the width on each side of its centre line
abbrev pub centred : Axis → ℤ → ℤ → ℤ → ℤ → Rect
centred axis centre width from to = strip axis from to (centre -ℤ half width) (centre +ℤ half width)

-- the metal of a drawn shape
abbrev pub drawn_rect : Drawn → Rect
drawn_rect shape = centred shape.axis shape.centre shape.width shape.from shape.to

-- the cells of its line that it has
abbrev pub drawn_run : Drawn → Run
drawn_run shape = record { from = shape.from; to = shape.to }
