-- What any reader of wiring asks of a written grid, besides what this project's own reader of its texts asks.
use Rattle.std.specs.Prelude.{◌^◌, ◌≤◌, All, length}
use Rattle.name_table.specs.Numbering.{AreDistinct}
use Rattle.via_arrays.specs.declared.parts.CutArray.{CutArray}
use Rattle.grid_pieces.specs.declared.grid.Grid.{Grid}
use Rattle.grid_pieces.specs.declared.piece.Piece.{Piece}
use Rattle.grid_pieces.specs.declared.piece.StackAt.{StackAt}
use Rattle.def_writer.specs.Via.{arrays_of, vias_of}
use Rattle.def_wiring.specs.Limits.{IsNear}

-- The numbers of a piece are at most 2^30 from 0.
pub record PieceIsNear (piece : Piece) : Type 0 where
  pub width : IsNear piece.width
  pub from : IsNear piece.from
  pub to : IsNear piece.to
  pub centre : IsNear piece.centre

-- So are those of an array.
pub record ArrayIsNear (array : CutArray) : Type 0 where
  pub columns : array.columns ≤ 2 ^ 30
  pub rows : array.rows ≤ 2 ^ 30
  pub cut_x : IsNear array.cut_x
  pub cut_y : IsNear array.cut_y
  pub pitch_x : IsNear array.pitch_x
  pub pitch_y : IsNear array.pitch_y
  pub lower_x : IsNear array.lower_x
  pub lower_y : IsNear array.lower_y
  pub upper_x : IsNear array.upper_x
  pub upper_y : IsNear array.upper_y

-- So are the point of a stack and its arrays.
pub record StackIsNear (at : StackAt) : Type 0 where
  pub x : IsNear at.x
  pub y : IsNear at.y
  pub arrays : All ArrayIsNear at.stack.arrays

-- All numbers of a grid are at most 2^30 from 0, and no two of its nets have one name.
pub record WiresFit (grid : Grid) : Type 0 where
  pub pieces : All PieceIsNear grid.pieces
  pub stacks : All StackIsNear grid.stacks
  pub net_names : AreDistinct grid.nets
  pub few_nets : length grid.nets ≤ 2 ^ 30
  pub few_vias : length (vias_of (arrays_of grid.stacks)) ≤ 2 ^ 30
