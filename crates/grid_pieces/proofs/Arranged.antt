-- The pieces of all lines, in order.
use Rattle.std.proofs.Common.{◌≡◌, true, false, Ordering, List, get_or, All, AllPairs, Contains, refl, sym, ap, ◌∙◌, arith}
use Rattle.std.specs.declared.cmp.Ordering.TheVariants.{Less, Equal, Greater}
use Rattle.std.specs.List.Sorted.{IsPermutation}
use Rattle.std.specs.Ordering.{nat_cmp, int_cmp, is_lt, is_gt}
use Rattle.std.proofs.lemmas.Bool.{false≢true}
use Rattle.std.proofs.lemmas.List.Sorted.{IsPermutation-sym, All-permutation, Contains-permutation}
use Rattle.geom_rect.specs.declared.drawn.Drawn.{Drawn}
use Rattle.grid_pieces.specs.declared.piece.Piece.{Piece}
use Rattle.grid_pieces.specs.declared.piece.Block.{Block}
use Rattle.grid_pieces.specs.Limits.{OneAxis}
use Rattle.grid_pieces.specs.Line.{piece_line}
use Rattle.grid_pieces.specs.Piece.{IsPiece, ArePieces, piece_order}
use Rattle.grid_pieces.specs.inside.Blockages.{BlockAlike}
use Rattle.grid_pieces.specs.inside.Cutting.{ArePiecesUpTo, AreApart}
use Rattle.grid_pieces.specs.Laws.Orders.{then_equal, nat_equal, int_equal}
use Rattle.list_laws.specs.Laws.Permuted.{apart_permuted}
use Rattle.grid_pieces.proofs.Lines.{piece_same, blocks_same}

less_from : (o : Ordering) → is_gt o ≡ false → (o ≡ Equal → ⊥) → is_lt o ≡ true
less_from Less _ _ = refl
less_from Equal _ ne = absurd (ne refl)
less_from Greater low _ = absurd (false≢true (sym low))

-- two pieces that are alike begin at one place of one line
alike : (shapes : List Drawn) (blocks : List Block) (p q : Piece) → OneAxis shapes → IsPiece shapes blocks p → IsPiece shapes blocks q → piece_order p q ≡ Equal
    → (piece_line p ≡ piece_line q) × (p.from ≡ q.from)
alike shapes blocks p q axes p_is q_is equal =
    let one = then_equal _ (int_cmp p.width q.width) equal in
    let two = then_equal _ (int_cmp p.from q.from) one.0 in
    let three = then_equal _ (int_cmp p.centre q.centre) two.0 in
    let four = then_equal (nat_cmp p.net q.net) (nat_cmp p.layer q.layer) three.0 in
    let net : p.net ≡ q.net = nat_equal p.net q.net four.0 in
    let layer : p.layer ≡ q.layer = nat_equal p.layer q.layer four.1 in
    let centre : p.centre ≡ q.centre = int_equal p.centre q.centre three.1 in
    let from : p.from ≡ q.from = int_equal p.from q.from two.1 in
    let width : p.width ≡ q.width = int_equal p.width q.width one.1 in
    let s = p_is.kind in
    let t = q_is.kind in
    let s_layer : s.0.layer ≡ p.layer = ap (λ l. l.layer) s.2.0 in
    let t_layer : t.0.layer ≡ q.layer = ap (λ l. l.layer) t.2.0 in
    let s_axis : s.0.axis ≡ p.axis = ap (λ l. l.axis) s.2.0 in
    let t_axis : t.0.axis ≡ q.axis = ap (λ l. l.axis) t.2.0 in
    let axis : p.axis ≡ q.axis = sym s_axis ∙ axes s.0 t.0 s.1 t.1 (s_layer ∙ layer ∙ sym t_layer) ∙ t_axis in
    (λ i. record { net = net i; layer = layer i; axis = axis i; centre = centre i; width = width i }, from)

pub arranged : (shapes grouped : List Drawn) (blocks : List Block) (all sorted : List Piece) → OneAxis shapes → IsPermutation shapes grouped → ArePiecesUpTo grouped blocks grouped all
    → IsPermutation all sorted → AllPairs (λ (a b : Piece). is_gt (piece_order a b) ≡ false) sorted → ArePieces shapes blocks sorted
arranged shapes grouped blocks all sorted axes moved are rearranged rising = record {
  each = each;
  every = λ p is. Contains-permutation all sorted p rearranged (every p is);
  in_order = in_order;
}
  where
    there : (s : Drawn) → Contains shapes s → Contains grouped s
    there s has = Contains-permutation shapes grouped s moved has

    back : (s : Drawn) → Contains grouped s → Contains shapes s
    back s has = Contains-permutation grouped shapes s (IsPermutation-sym shapes grouped moved) has

    each : All (IsPiece shapes blocks) sorted
    each k d within =
        piece_same grouped shapes blocks (get_or sorted k d) (λ s on has. back s has) (λ s on has. there s has) (All-permutation (IsPiece grouped blocks) all sorted rearranged are.each k d within)

    every : (p : Piece) → IsPiece shapes blocks p → Contains all p
    every p is = are.every p (piece_same shapes grouped blocks p (λ s on has. there s has) (λ s on has. back s has) is) (is.kind.0, there is.kind.0 is.kind.1, is.kind.2.0)

    apart : AllPairs AreApart sorted
    apart = apart_permuted AreApart (λ x y differ line from. differ (sym line) (sym from)) all sorted rearranged are.apart

    in_order : AllPairs (λ a b. is_lt (piece_order a b) ≡ true) sorted
    in_order i j d less within =
        less_from (piece_order (get_or sorted i d) (get_or sorted j d)) (rising i j d less within)
        (λ equal. let same = alike shapes blocks (get_or sorted i d) (get_or sorted j d) axes (each i d (omega arith)) (each j d within) equal in apart i j d less within same.0 same.1)

-- blockages count by the cells that they block
pub same_blocks : (shapes : List Drawn) (one other : List Block) (pieces : List Piece) → BlockAlike other one → ArePieces shapes other pieces → ArePieces shapes one pieces
same_blocks shapes one other pieces alike are = record {
  each = λ k d within. blocks_same shapes other one (get_or pieces k d) alike (are.each k d within);
  every = λ p is. are.every p (blocks_same shapes one other p (λ line t. ((alike line t).1, (alike line t).0)) is);
  in_order = are.in_order;
}
