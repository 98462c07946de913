-- What is asked of a grid over blocks whose load taps are found.
use Rattle.std.specs.Prelude.{◌<◌, ◌^◌, All, length}
use Rattle.via_arrays.specs.Lengths.{IsUnits}
use Rattle.grid_pieces.specs.Limits.{PieceKeeps}
use Rattle.macro_grid.specs.declared.record.MacroGrid.{MacroGrid}
use Rattle.pin_pieces.specs.declared.pin.PinPiece.{PinPiece}

-- Its units are in their range, its pieces keep their limits and have numbers of 32 bits, and the pieces with metal of pins are
-- among them.
pub record MacroGridKeeps (drawn : MacroGrid) : Type 0 where
  pub units : IsUnits drawn.grid.units
  pub pieces : All PieceKeeps drawn.grid.pieces
  pub few_pieces : length drawn.grid.pieces < 2 ^ 32
  pub pins : All (λ (pin : PinPiece). pin.piece < length drawn.grid.pieces) drawn.pins
