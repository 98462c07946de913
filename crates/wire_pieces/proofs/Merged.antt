-- The pieces along both axes, in one order.
use Rattle.std.proofs.Common.{◌≡◌, ◌⊎◌, inl, inr, ℕ, ◌+◌, ◌-◌, ◌<◌, ◌≤◌, Bool, true, false, Ordering, List, [], ◌++◌, length, get_or, All, AllPairs, Contains, subst, refl, sym, ap, ◌∙◌, arith}
use Rattle.std.specs.declared.cmp.Ordering.TheVariants.{Less, Equal, Greater}
use Rattle.std.specs.List.Sorted.{IsPermutation}
use Rattle.std.specs.Ordering.{bool_cmp, ordering_then, is_lt, is_gt}
use Rattle.std.proofs.lemmas.Bool.{cases_lt, false≢true}
use Rattle.std.proofs.lemmas.List.{length-append, get_or_append_left, get_or-append_right}
use Rattle.std.proofs.lemmas.List.Elements.{All-append, All-contains, Contains-get_or, Contains-append_left, Contains-append_right}
use Rattle.std.proofs.lemmas.List.Sorted.{All-permutation, Contains-permutation}
use Rattle.geom_rect.specs.declared.drawn.Drawn.{Drawn}
use Rattle.grid_pieces.specs.declared.piece.Piece.{Piece}
use Rattle.grid_pieces.specs.Limits.{PieceKeeps}
use Rattle.grid_pieces.specs.Piece.{IsPiece, piece_order}
use Rattle.grid_pieces.specs.Laws.Orders.{then_equal}
use Rattle.list_laws.specs.Laws.Permuted.{apart_permuted}
use Rattle.wire_pieces.specs.Pieces.{is_upright, wire_order, AreWirePieces}
use Rattle.wire_pieces.specs.inside.Axes.{ArePiecesAlong}
use Rattle.wire_pieces.proofs.Orders.{bool_equal, less_from, lt_differs, flip_equal}

-- two pieces that the order tells apart
abbrev AreApart : Piece → Piece → Type 0
AreApart a b = wire_order a b ≡ Equal → ⊥

pairs_append : {X : Type 0} (R : X → X → Type 0) (xs ys : List X) → AllPairs R xs → AllPairs R ys → ((x y : X) → Contains xs x → Contains ys y → R x y) → AllPairs R (xs ++ ys)
pairs_append {X} R xs ys left right across i j d less within = by_place (cases_lt i (length xs)) (cases_lt j (length xs))
  where
    n : ℕ
    n = length xs

    long : length (xs ++ ys) ≡ n + length ys
    long = length-append xs ys

    by_place : ((i < n) ⊎ (n ≤ i)) → ((j < n) ⊎ (n ≤ j)) → R (get_or (xs ++ ys) i d) (get_or (xs ++ ys) j d)
    by_place (inl a) (inl b) = rw (get_or_append_left xs ys d i a, get_or_append_left xs ys d j b) (left i j d less b)
    by_place (inl a) (inr b) =
        let l : j - n < length ys = omega (arith, long) in
        rw (get_or_append_left xs ys d i a, get_or-append_right xs ys n j d refl b) (across (get_or xs i d) (get_or ys (j - n) d) (Contains-get_or xs i d a) (Contains-get_or ys (j - n) d l))
    by_place (inr a) (inl b) = absurd (omega arith)
    by_place (inr a) (inr b) = rw (get_or-append_right xs ys n i d refl a, get_or-append_right xs ys n j d refl b) (right (i - n) (j - n) d (omega arith) (omega (arith, long)))

apart_along : (shapes : List Drawn) (upright : Bool) (pieces : List Piece) → ArePiecesAlong shapes upright pieces → AllPairs AreApart pieces
apart_along shapes upright pieces are i j d less within equal =
    lt_differs (piece_order (get_or pieces i d) (get_or pieces j d)) (are.in_order i j d less within) (then_equal _ (bool_cmp (is_upright (get_or pieces i d).axis) (is_upright (get_or pieces j d).axis)) equal).0

pub merged : (shapes : List Drawn) (flat upright all sorted : List Piece) → ArePiecesAlong shapes false flat → ArePiecesAlong shapes true upright → all ≡ flat ++ upright → IsPermutation all sorted
    → AllPairs (λ (a b : Piece). is_gt (wire_order a b) ≡ false) sorted → AreWirePieces shapes sorted
merged shapes flat upright all sorted flats uprights is moved rising = record {
  each = All-permutation (IsPiece shapes []) all sorted moved (subst (All (IsPiece shapes [])) (sym is) (All-append (IsPiece shapes []) flat upright flats.each uprights.each));
  every = λ p piece. Contains-permutation all sorted p moved (subst (λ ps. Contains ps p) (sym is) (by_axis p piece (is_upright p.axis) refl));
  in_order = λ i j d less within. less_from (wire_order (get_or sorted i d) (get_or sorted j d)) (rising i j d less within) (apart i j d less within);
}
  where
    by_axis : (p : Piece) → IsPiece shapes [] p → (answer : Bool) → is_upright p.axis ≡ answer → Contains (flat ++ upright) p
    by_axis p piece false axis = Contains-append_left flat upright p (flats.every p axis piece)
    by_axis p piece true axis = Contains-append_right flat upright p (uprights.every p axis piece)

    across : (a b : Piece) → Contains flat a → Contains upright b → AreApart a b
    across a b has_a has_b equal =
        let axes = bool_equal (is_upright a.axis) (is_upright b.axis) (then_equal (piece_order a b) (bool_cmp (is_upright a.axis) (is_upright b.axis)) equal).1 in
        let low = All-contains (λ (p : Piece). is_upright p.axis ≡ false) flat a flats.along has_a in
        let high = All-contains (λ (p : Piece). is_upright p.axis ≡ true) upright b uprights.along has_b in
        false≢true (sym low ∙ axes ∙ high)

    apart : AllPairs AreApart sorted
    apart = apart_permuted AreApart (λ x y ne e. ne (flip_equal y x e)) all sorted moved
        (subst (AllPairs AreApart) (sym is) (pairs_append AreApart flat upright (apart_along shapes false flat flats) (apart_along shapes true upright uprights) across))

pub kept_merged : (flat upright all sorted : List Piece) → All PieceKeeps flat → All PieceKeeps upright → all ≡ flat ++ upright → IsPermutation all sorted → All PieceKeeps sorted
kept_merged flat upright all sorted flats uprights is moved = All-permutation PieceKeeps all sorted moved (subst (All PieceKeeps) (sym is) (All-append PieceKeeps flat upright flats uprights))
