-- What the parts of pins and the obstructions keep.
use Rattle.std.specs.Prelude.{ℤ, pos, ◌-ℤ◌, ◌<◌, ◌<ℤ◌, ◌^◌, length}
use Rattle.geom_rect.specs.declared.direction.Axis.{Axis}
use Rattle.geom_rect.specs.declared.direction.Axis.TheVariants.{X, Y}
use Rattle.geom_rect.specs.declared.rect.Rect.{Rect}
use Rattle.geom_rect.specs.Drawn.{IsWidth}
use Rattle.geom_rect.specs.Rect.{IsInOrder, HasCoordinates}
use Rattle.lef_tech.specs.declared.tech.Tech.{Tech}
use Rattle.via_arrays.specs.Choice.{direction}
use Rattle.block_rects.specs.declared.part.Obstruction.{Obstruction}
use Rattle.block_rects.specs.declared.part.PinPart.{PinPart}

-- The extent of a rectangle across a direction.
abbrev pub size_across : Axis → Rect → ℤ
size_across X rect = rect.y2 -ℤ rect.y1
size_across Y rect = rect.x2 -ℤ rect.x1

-- A part has an area and lies at coordinates of a drawing on a layer of the technology; across the layer's direction its
-- extent is even, and below 2^32.
pub record PartKeeps (tech : Tech) (part : PinPart) : Type 0 where
  pub layer : part.layer < length tech.routing
  pub wide : part.rect.x1 <ℤ part.rect.x2
  pub high : part.rect.y1 <ℤ part.rect.y2
  pub coordinates : HasCoordinates part.rect
  pub width : IsWidth (size_across (direction tech part.layer) part.rect)
  pub thin : size_across (direction tech part.layer) part.rect <ℤ pos (2 ^ 32)

-- An obstruction is in order and lies at coordinates of a drawing.
abbrev pub ObstructionKeeps : Obstruction → Type 0
ObstructionKeeps obstruction = IsInOrder obstruction.rect × HasCoordinates obstruction.rect
