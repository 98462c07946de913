-- What every record of blocks that is read keeps: coordinates are within their limit, and rectangles are in order.
use Rattle.std.specs.Prelude.{◌^◌, ◌≤◌, ℤ, ◌≤ℤ◌, unsigned_abs, All}
use Rattle.macro_blocks.specs.declared.record.BlockMacro.{BlockMacro}
use Rattle.macro_blocks.specs.declared.record.BlockPin.{BlockPin}
use Rattle.macro_blocks.specs.declared.record.BlockRect.{BlockRect}
use Rattle.macro_blocks.specs.declared.record.Blocks.{Blocks}

-- At most 100 mm from 0.
abbrev pub IsNear : ℤ → Type 0
IsNear z = unsigned_abs z ≤ 10 ^ 11

-- A rectangle in order and near 0. It may be without area.
pub record RectKeeps (rect : BlockRect) : Type 0 where
  pub wide : rect.x1 ≤ℤ rect.x2
  pub high : rect.y1 ≤ℤ rect.y2
  pub x1 : IsNear rect.x1
  pub y1 : IsNear rect.y1
  pub x2 : IsNear rect.x2
  pub y2 : IsNear rect.y2

abbrev pub PinKeeps : BlockPin → Type 0
PinKeeps pin = All RectKeeps pin.rects

pub record MacroKeeps (cell : BlockMacro) : Type 0 where
  pub pins : All PinKeeps cell.pins
  pub obstructions : All RectKeeps cell.obstructions

-- All rectangles keep their limits.
abbrev pub BlocksKeep : Blocks → Type 0
BlocksKeep blocks = All MacroKeeps blocks.macros
