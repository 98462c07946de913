-- What the tests find out of their pieces.
use Rattle.std.specs.Prelude.{◌≡◌, List, All, AllPairs}
use Rattle.lef_tech.specs.declared.tech.Tech.{Tech}
use Rattle.via_arrays.specs.Choice.{direction}
use Rattle.grid_pieces.specs.declared.piece.Piece.{Piece}
use Rattle.grid_pieces.specs.Limits.{PieceKeeps}
use Rattle.grid_stacks.specs.Stacking.{HasLayer, IsEven, LieApart}

-- The piece keeps what is asked of it.
pub record Fits (tech : Tech) (piece : Piece) : Type 0 where
  pub keeps : PieceKeeps piece
  pub even : IsEven piece
  pub layer : HasLayer tech piece
  pub along : piece.axis ≡ direction tech piece.layer

-- All do, and no two lie on one line.
pub record AreFitting (tech : Tech) (pieces : List Piece) : Type 0 where
  pub fit : All (Fits tech) pieces
  pub apart : AllPairs LieApart pieces
