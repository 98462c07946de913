-- Wiring has one list of pieces.
use Rattle.std.proofs.Common.{◌≡◌, true, false, Ordering, List, [], subst, sym}
use Rattle.std.specs.declared.cmp.Ordering.TheVariants.{Less, Equal, Greater}
use Rattle.std.specs.Cmp.{IsTotalOrder, bool_cmp_total}
use Rattle.std.specs.Ordering.{ordering_reverse, is_lt}
use Rattle.std.proofs.lemmas.Bool.{false≢true}
use Rattle.std.proofs.lemmas.Cmp.{nat_cmp_total, int_cmp_total, on_total, then_total}
use Rattle.std.proofs.lemmas.List.Elements.{All-contains}
use Rattle.geom_rect.specs.declared.drawn.Drawn.{Drawn}
use Rattle.grid_pieces.specs.declared.piece.Piece.{Piece}
use Rattle.grid_pieces.specs.Piece.{IsPiece}
use Rattle.wire_pieces.specs.Pieces.{AreWirePieces, is_upright, wire_order}
use Rattle.one_drawing.specs.Laws.Listed.{same_list}

opposite : (o : Ordering) → is_lt (ordering_reverse o) ≡ true → is_lt o ≡ true → ⊥
opposite Less h k = false≢true h
opposite Equal h k = false≢true h
opposite Greater h k = false≢true k

-- An order never goes both ways.
pub one_way : {K : Type 0} (R : K → K → Ordering) → IsTotalOrder R → (a b : K) → is_lt (R a b) ≡ true → is_lt (R b a) ≡ true → ⊥
one_way R total a b there back = opposite (R b a) (subst (λ o. is_lt o ≡ true) (total.antisymm a b) there) back

wire_total : IsTotalOrder wire_order
wire_total =
    then_total
    (then_total
    (then_total (then_total (then_total (on_total (λ (a : Piece). a.net) nat_cmp_total) (on_total (λ (a : Piece). a.layer) nat_cmp_total)) (on_total (λ (a : Piece). a.centre) int_cmp_total))
    (on_total (λ (a : Piece). a.from) int_cmp_total)) (on_total (λ (a : Piece). a.width) int_cmp_total)) (on_total (λ (a : Piece). is_upright a.axis) bool_cmp_total)

pub one_wire_pieces : (shapes : List Drawn) (a b : List Piece) → AreWirePieces shapes a → AreWirePieces shapes b → a ≡ b
one_wire_pieces shapes a b x y =
    same_list (λ (p q : Piece). is_lt (wire_order p q) ≡ true) (one_way wire_order wire_total) a b x.in_order y.in_order
    (λ piece has. y.every piece (All-contains (IsPiece shapes []) a piece x.each has)) (λ piece has. x.every piece (All-contains (IsPiece shapes []) b piece y.each has))
