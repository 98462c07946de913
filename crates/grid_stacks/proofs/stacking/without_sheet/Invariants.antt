use Rattle.std.proofs.Common.{ℕ, ◌<◌}
use Rattle.grid_pieces.specs.declared.piece.Piece.{Piece}
use Rattle.grid_stacks.specs.Crossing.{At}
use Rattle.grid_stacks.specs.Stacking.{HasSheet}
use Rattle.grid_stacks.proofs.stacking.without_sheet.Given as goal

abbrev pub invariant-loop-piece : goal.invariant-loop-piece
invariant-loop-piece l = (k : ℕ) (other : Piece) → k < l.piece-index → At l.pieces k other → HasSheet l.tech other
