-- Shapes and blockages have one list of pieces.
use Rattle.std.proofs.Common.{◌≡◌, true, List}
use Rattle.std.specs.Ordering.{is_lt}
use Rattle.std.proofs.lemmas.List.Elements.{All-contains}
use Rattle.geom_rect.specs.declared.drawn.Drawn.{Drawn}
use Rattle.grid_pieces.specs.declared.piece.Piece.{Piece}
use Rattle.grid_pieces.specs.declared.piece.Block.{Block}
use Rattle.grid_pieces.specs.Piece.{IsPiece, ArePieces, piece_order}
use Rattle.one_drawing.specs.Laws.Listed.{same_list}
use Rattle.one_drawing.specs.Laws.Ordered.{pieces_one_way}

pub one_pieces : (shapes : List Drawn) (blocks : List Block) (a b : List Piece) → ArePieces shapes blocks a → ArePieces shapes blocks b → a ≡ b
one_pieces shapes blocks a b x y =
    same_list (λ (p q : Piece). is_lt (piece_order p q) ≡ true) pieces_one_way a b x.in_order y.in_order (λ piece has. y.every piece (All-contains (IsPiece shapes blocks) a piece x.each has))
    (λ piece has. x.every piece (All-contains (IsPiece shapes blocks) b piece y.each has))
