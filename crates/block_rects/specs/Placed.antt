-- The pins and the obstructions of a block in their places (LEF/DEF 5.8 Language Reference, "MACRO", PIN, PORT and OBS).
use Rattle.std.specs.Prelude.{ℕ, ℤ, pos, ◌+ℤ◌, ◌-ℤ◌, ◌*ℤ◌, int_lt, Bool, ◌&&◌, if◌then◌else◌, List, Option, Some, None}
use Rattle.std.specs.List.{filter_map, flat_map}
use Rattle.std.specs.Option.{option_map}
use Rattle.geom_rect.specs.declared.direction.Axis.{Axis}
use Rattle.geom_rect.specs.declared.direction.Axis.TheVariants.{X, Y}
use Rattle.geom_rect.specs.declared.rect.Rect.{Rect}
use Rattle.geom_rect.specs.Drawn.{half}
use Rattle.rounding.specs.Rounding.{floor_div}
use Rattle.lef_tech.specs.declared.layer.LayerRef.{LayerRef}
use Rattle.lef_tech.specs.declared.tech.Tech.{Tech}
use Rattle.via_arrays.specs.Choice.{direction}
use Rattle.macro_blocks.specs.declared.record.BlockMacro.{BlockMacro}
use Rattle.macro_blocks.specs.declared.record.BlockPin.{BlockPin}
use Rattle.macro_blocks.specs.declared.record.BlockRect.{BlockRect}
use Rattle.macro_turns.specs.declared.turned.Placed.{Placed}
use Rattle.macro_turns.specs.Turns.{rect_in_place}
use Rattle.block_rects.specs.declared.part.Obstruction.{Obstruction}
use Rattle.block_rects.specs.declared.part.PinPart.{PinPart}
use Rattle.block_rects.specs.Layers.{place_of_layer, layer_of}

-- A coordinate in pm as units, of which a micrometre has so many: rounded down, also below 0.
abbrev pub in_units : ℕ → ℤ → ℤ
in_units units z = floor_div (pos units *ℤ z) (pos 1000000)

abbrev pub rect_in_units : ℕ → BlockRect → Rect
rect_in_units units rect = record {
  x1 = in_units units rect.x1;
  y1 = in_units units rect.y1;
  x2 = in_units units rect.x2;
  y2 = in_units units rect.y2;
}

-- A rectangle of a macro in its place: rounded first, and then turned and moved.
abbrev pub placed_rect : ℕ → Placed → BlockRect → Rect
placed_rect units placed rect = rect_in_place placed (rect_in_units units rect)

-- The upper end of an even extent: one lower where it was odd.
abbrev pub even_end : ℤ → ℤ → ℤ
even_end low high = low +ℤ half (high -ℤ low) +ℤ half (high -ℤ low)

-- The rectangle with an even extent across a direction.
abbrev pub evened : Axis → Rect → Rect
evened X rect = record rect { y2 = even_end rect.y1 rect.y2 }
evened Y rect = record rect { x2 = even_end rect.x1 rect.x2 }

abbrev pub has_area : Rect → Bool
has_area rect = int_lt rect.x1 rect.x2 && int_lt rect.y1 rect.y2

-- A part of a pin on a routing layer, where something is left of its rectangle.
abbrev pub part_with : Bool → ℕ → Rect → Option PinPart
part_with power layer rect =
    if has_area rect then Some (record { layer = layer; power = power; rect = rect }) else None

abbrev pub part_on : Tech → Bool → Rect → Option ℕ → Option PinPart
part_on tech power rect None = None
part_on tech power rect (Some layer) = part_with power layer (evened (direction tech layer) rect)

-- The part of a rectangle of a pin: none where the technology has no routing layer of its name, or where it is left without
-- area.
abbrev pub part_of : Tech → ℕ → Placed → Bool → BlockRect → Option PinPart
part_of tech units placed power rect =
    part_on tech power (placed_rect units placed rect) (place_of_layer tech rect.layer)

abbrev pub parts_of_pin : Tech → ℕ → Placed → BlockPin → List PinPart
parts_of_pin tech units placed pin = filter_map (part_of tech units placed pin.power) pin.rects

-- The parts of all pins of a block, in the order of its pins and of their rectangles.
abbrev pub parts_of : Tech → ℕ → Placed → BlockMacro → List PinPart
parts_of tech units placed cell = flat_map (parts_of_pin tech units placed) cell.pins

-- An obstruction on a routing or cut layer. It is not made even, and may be without area.
abbrev pub obstruction_on : Rect → LayerRef → Obstruction
obstruction_on rect layer = record { layer = layer; rect = rect }

abbrev pub obstruction_of : Tech → ℕ → Placed → BlockRect → Option Obstruction
obstruction_of tech units placed rect =
    option_map (obstruction_on (placed_rect units placed rect)) (layer_of tech rect.layer)

-- The obstructions of a block, in their order.
abbrev pub obstructions_of : Tech → ℕ → Placed → BlockMacro → List Obstruction
obstructions_of tech units placed cell = filter_map (obstruction_of tech units placed) cell.obstructions
