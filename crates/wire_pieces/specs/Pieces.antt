-- The pieces of wiring that is there already (LEF/DEF 5.8 Language Reference, SPECIALNETS, special wiring).
use Rattle.std.specs.Prelude.{◌≡◌, Bool, true, false, List, [], All, AllPairs, Contains}
use Rattle.std.specs.declared.cmp.Ordering.{Ordering}
use Rattle.std.specs.Ordering.{bool_cmp, ordering_then, is_lt}
use Rattle.geom_rect.specs.declared.direction.Axis.{Axis}
use Rattle.geom_rect.specs.declared.direction.Axis.TheVariants.{X, Y}
use Rattle.geom_rect.specs.declared.drawn.Drawn.{Drawn}
use Rattle.grid_pieces.specs.declared.piece.Piece.{Piece}
use Rattle.grid_pieces.specs.Piece.{IsPiece, piece_order}

-- Whether an axis goes from low to high.
abbrev pub is_upright : Axis → Bool
is_upright X = false
is_upright Y = true

-- Of two pieces that are alike in the order of a drawing the one along x comes first.
abbrev pub wire_order : Piece → Piece → Ordering
wire_order a b = ordering_then (piece_order a b) (bool_cmp (is_upright a.axis) (is_upright b.axis))

-- The list has the pieces of the shapes, which no blockage cuts, all of them, each once and in order.
pub record AreWirePieces (shapes : List Drawn) (pieces : List Piece) : Type 0 where
  pub each : All (IsPiece shapes []) pieces
  pub every : (piece : Piece) → IsPiece shapes [] piece → Contains pieces piece
  pub in_order : AllPairs (λ a b. is_lt (wire_order a b) ≡ true) pieces
