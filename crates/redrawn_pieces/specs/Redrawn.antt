-- Pieces of metal that are drawn again.
use Rattle.std.specs.Prelude.{◌≡◌, List, All, Contains}
use Rattle.geom_rect.specs.declared.drawn.Drawn.{Drawn}
use Rattle.grid_pieces.specs.declared.piece.Piece.{Piece}
use Rattle.grid_pieces.specs.Piece.{Among}

-- A piece as a shape of its own.
abbrev pub shape_of : Piece → Drawn
shape_of piece = record {
  net = piece.net;
  layer = piece.layer;
  axis = piece.axis;
  centre = piece.centre;
  width = piece.width;
  from = piece.from;
  to = piece.to;
  shape = piece.shape;
}

-- The shapes are those of the pieces: each piece is one of them, and each of them is a piece.
pub record AreRedrawn (pieces : List Piece) (shapes : List Drawn) : Type 0 where
  pub each : All (λ (shape : Drawn). Among (λ (piece : Piece). shape ≡ shape_of piece) pieces) shapes
  pub every : All (λ (piece : Piece). Contains shapes (shape_of piece)) pieces
