-- The shapes and pieces along one axis.
use Rattle.std.specs.Prelude.{◌≡◌, ◌==◌, Bool, true, false, cond, not, List, [], All, AllPairs, Contains}
use Rattle.std.specs.Ordering.{is_lt}
use Rattle.geom_rect.specs.declared.drawn.Drawn.{Drawn}
use Rattle.grid_pieces.specs.declared.piece.Piece.{Piece}
use Rattle.grid_pieces.specs.Piece.{IsPiece, piece_order}
use Rattle.wire_pieces.specs.Pieces.{is_upright}

-- Whether two answers are one.
abbrev pub same : Bool → Bool → Bool
same a b = cond a b (not b)

abbrev pub goes_along : Bool → Drawn → Bool
goes_along upright shape = same (is_upright shape.axis) upright

-- The pieces of the shapes that go along one axis, all of them, each once and in order.
pub record ArePiecesAlong (shapes : List Drawn) (upright : Bool) (pieces : List Piece) : Type 0 where
  pub each : All (IsPiece shapes []) pieces
  pub along : All (λ (p : Piece). is_upright p.axis ≡ upright) pieces
  pub every : (piece : Piece) → is_upright piece.axis ≡ upright → IsPiece shapes [] piece → Contains pieces piece
  pub in_order : AllPairs (λ a b. is_lt (piece_order a b) ≡ true) pieces
