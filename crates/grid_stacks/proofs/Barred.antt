-- The bars of pieces, and the layers between.
use Rattle.std.proofs.Common.{◌≡◌, ◌↔◌, ℕ, ◌+◌, ◌<◌, ◌≤◌, ◌⊎◌, inl, inr, ℤ, pos, ◌+ℤ◌, ◌-ℤ◌, ◌<ℤ◌, ◌≤ℤ◌, List, [], ◌∷◌, ◌++◌, All, AllPairs, Contains, length, get_or, take, subst, refl, sym, ap, ◌∙◌, arith}
use Rattle.std.proofs.lemmas.Bool.{cases_lt}
use Rattle.std.proofs.lemmas.Int.{ints}
use Rattle.std.proofs.lemmas.List.{get_or_default}
use Rattle.std.proofs.lemmas.List.Elements.{Contains-push_cases}
use Rattle.std.proofs.lemmas.List.Quantifiers.{all_pairs_push}
use Rattle.geom_rect.specs.declared.direction.Axis.{Axis}
use Rattle.geom_rect.specs.declared.rect.Rect.{Rect}
use Rattle.lef_tech.specs.declared.layer.LayerRef.{LayerRef}
use Rattle.lef_tech.specs.declared.layer.LayerRef.TheVariants.{Routing}
use Rattle.lef_tech.specs.declared.tech.Tech.{Tech}
use Rattle.grid_stacks.specs.declared.bar.Bar.{Bar}
use Rattle.grid_stacks.specs.declared.connect.Connect.{Connect}
use Rattle.grid_pieces.specs.declared.piece.Piece.{Piece}
use Rattle.grid_pieces.specs.declared.piece.Block.{Block}
use Rattle.geom_rect.specs.Drawn.{half}
use Rattle.grid_pieces.specs.Line.{piece_line}
use Rattle.grid_pieces.specs.Limits.{PieceKeeps}
use Rattle.grid_stacks.specs.Stacking.{IsEven, LieApart}
use Rattle.grid_stacks.specs.Crossing.{At, LiesBetween}
use Rattle.grid_stacks.specs.inside.Bar.{bar_of, IsOn, BarsApart, AreBarsOf, AreBarsTo}
use Rattle.grid_stacks.specs.inside.Standing.{IsFirstPlace, IsLastPlace, StandsWithin, IsInner}
use Rattle.grid_pieces.specs.Laws.Amongst.{Among-more}
use Rattle.grid_stacks.proofs.RunSteps.{at_same, at_get, at_contains, at_place, push_old, push_new, All-push}

-- bars of pieces that lie apart lie apart
bars_apart : (a b : Piece) → LieApart a b → IsEven a → IsEven b → a.axis ≡ b.axis → BarsApart (bar_of a) (bar_of b)
bars_apart a b apart even_a even_b axis net layer centre low high =
    let half_same : half a.width ≡ half b.width = omega (arith, ints) in
    let width : a.width ≡ b.width = even_a ∙ ap (λ (z : ℤ). z +ℤ z) half_same ∙ sym even_b in
    apart (λ i. record { net = net i; layer = layer i; axis = axis i; centre = centre i; width = width i })

bar_wide : (p : Piece) → PieceKeeps p → IsEven p → (bar_of p).low <ℤ (bar_of p).high
bar_wide p keeps even = let two : pos 2 ≤ℤ p.width = keeps.0.0 in omega (arith, ints)

pub bars_none : (connect : Connect) (axis : Axis) (pieces : List Piece) → AreBarsTo connect axis pieces 0 []
bars_none connect axis pieces = record {
  each = λ k d within. absurd (omega arith);
  every = λ k p before. absurd (omega arith);
  wide = λ k d within. absurd (omega arith);
  apart = λ i j d less within. absurd (omega arith);
}

pub bars_kept : (connect : Connect) (axis : Axis) (pieces : List Piece) (i : ℕ) (piece : Piece) (bars : List Bar) → At pieces i piece → AreBarsTo connect axis pieces i bars
    → (IsOn connect axis piece → ⊥) → AreBarsTo connect axis pieces (i + 1) bars
bars_kept connect axis pieces i piece bars at are not_on = record {
  each = λ k d within. let w = are.each k d within in (w.0, w.1, omega (arith, w.2), w.3, w.4, w.5);
  every = λ k p before at_k on. by_place k p before at_k on (cases_lt k i);
  wide = are.wide;
  apart = are.apart;
}
  where
    by_place : (k : ℕ) (p : Piece) → k < i + 1 → At pieces k p → IsOn connect axis p → (k < i) ⊎ (i ≤ k) → Contains bars (bar_of p)
    by_place k p before at_k on (inl earlier) = are.every k p earlier at_k on
    by_place k p before at_k on (inr here) =
        let is : k ≡ i = omega arith in
        absurd (not_on (subst (IsOn connect axis) (at_same pieces i p piece (subst (λ n. At pieces n p) is at_k) at) on))

pub bars_more : (connect : Connect) (axis : Axis) (pieces : List Piece) (i : ℕ) (piece : Piece) (bars : List Bar) → All PieceKeeps pieces → All IsEven pieces → AllPairs LieApart pieces → At pieces i piece
    → AreBarsTo connect axis pieces i bars → IsOn connect axis piece → AreBarsTo connect axis pieces (i + 1) (bars ++ bar_of piece ∷ [])
bars_more connect axis pieces i piece bars keep even apart at are on = record {
  each = All-push (Came (i + 1)) bars (bar_of piece) (λ k d within. later (get_or bars k d) (are.each k d within)) (i, piece, omega arith, at, on, refl);
  every = λ k p before at_k on_k. by_place k p before at_k on_k (cases_lt k i);
  wide = All-push (λ (bar : Bar). bar.low <ℤ bar.high) bars (bar_of piece) are.wide (bar_wide piece piece_keeps piece_even);
  apart = all_pairs_push BarsApart bars (bar_of piece) are.apart (λ k d within. aside (get_or bars k d) (are.each k d within));
}
  where
    Came : ℕ → Bar → Type 0
    Came n bar = (k : ℕ) × (p : Piece) × (k < n) × At pieces k p × IsOn connect axis p × (bar_of p ≡ bar)

    later : (bar : Bar) → Came i bar → Came (i + 1) bar
    later bar w = (w.0, w.1, omega (arith, w.2), w.3, w.4, w.5)

    piece_keeps : PieceKeeps piece
    piece_keeps = subst PieceKeeps at.1 (keep i piece at.0)

    piece_even : IsEven piece
    piece_even = subst IsEven at.1 (even i piece at.0)

    aside : (bar : Bar) → Came i bar → BarsApart bar (bar_of piece)
    aside bar w =
        let p = w.1 in
        let first : get_or pieces w.0 piece ≡ p = get_or_default pieces w.0 piece p w.3.0 ∙ w.3.1 in
        let apart_at : LieApart (get_or pieces w.0 piece) (get_or pieces i piece) = apart w.0 i piece w.2 at.0 in
        let are_apart : LieApart p piece = subst (λ (x : Piece). LieApart p x) at.1 (subst (λ (x : Piece). LieApart x (get_or pieces i piece)) first apart_at) in
        let p_even : IsEven p = subst IsEven w.3.1 (even w.0 p w.3.0) in
        subst (λ (b : Bar). BarsApart b (bar_of piece)) w.5 (bars_apart p piece are_apart p_even piece_even (w.4.0 ∙ sym on.0))

    by_place : (k : ℕ) (p : Piece) → k < i + 1 → At pieces k p → IsOn connect axis p → (k < i) ⊎ (i ≤ k) → Contains (bars ++ bar_of piece ∷ []) (bar_of p)
    by_place k p before at_k on_k (inl earlier) = push_old bars (bar_of piece) (bar_of p) (are.every k p earlier at_k on_k)
    by_place k p before at_k on_k (inr here) =
        let is : k ≡ i = omega arith in
        let same : p ≡ piece = at_same pieces i p piece (subst (λ n. At pieces n p) is at_k) at in
        subst (λ (x : Piece). Contains (bars ++ bar_of piece ∷ []) (bar_of x)) (sym same) (push_new bars (bar_of piece))

pub bars_all : (connect : Connect) (axis : Axis) (pieces : List Piece) (count : ℕ) (bars : List Bar) → length pieces ≤ count → AreBarsTo connect axis pieces count bars → AreBarsOf connect axis pieces bars
bars_all connect axis pieces count bars all are = record {
  each = λ k d within. let w = are.each k d within in (w.1, at_contains pieces w.0 w.1 w.3, (w.4, w.5));
  every = λ p has on. are.every has.0 p (omega (arith, has.1)) (at_place pieces p has) on;
  wide = are.wide;
  apart = are.apart;
}

-- between the first place of one layer and the last of another
pub between_is : (tech : Tech) (from to low high : ℕ) (layer : LayerRef) → IsFirstPlace tech.order (Routing from) low → IsLastPlace tech.order (Routing to) high
    → StandsWithin tech.order low high layer ↔ LiesBetween tech from to layer
between_is tech from to low high layer first last = (
  λ w. record {
    i = low;
    j = w.0;
    k = high;
    above = w.1;
    below = w.2;
    lowest = first.is (omega (arith, w.1, w.2, last.within));
    is = w.3;
    highest = last.is (omega (arith, w.1, w.2));
  },
  λ b. (b.j, above b (cases_lt b.i low), below b (cases_lt high b.k), b.is),
)
  where
    above : (b : LiesBetween tech from to layer) → (b.i < low) ⊎ (low ≤ b.i) → low < b.j
    above b (inl before) = absurd (first.none b.i before b.lowest)
    above b (inr not_before) = let h : b.i < b.j = b.above in omega arith

    below : (b : LiesBetween tech from to layer) → (high < b.k) ⊎ (b.k ≤ high) → b.j < high
    below b (inl behind) = absurd (last.none b.k behind b.highest)
    below b (inr not_behind) = let h : b.j < b.k = b.below in omega arith

pub inner_more : (tech : Tech) (connect : Connect) (blocks : List Block) (i : ℕ) (d : Block) (rects : List Rect) → i < length blocks → LiesBetween tech connect.from connect.to (get_or blocks i d).layer
    → ((r : Rect) → Contains rects r ↔ IsInner tech connect (take i blocks) r) → (r : Rect) → Contains (rects ++ (get_or blocks i d).plain ∷ []) r ↔ IsInner tech connect (take (i + 1) blocks) r
inner_more tech connect blocks i d rects within between are r = (
  λ has. (Among-more (λ (b : Block). LiesBetween tech connect.from connect.to b.layer × (b.plain ≡ r)) blocks i d within).1 (forth (Contains-push_cases rects (get_or blocks i d).plain r has)),
  λ w. back ((Among-more (λ (b : Block). LiesBetween tech connect.from connect.to b.layer × (b.plain ≡ r)) blocks i d within).0 w),
)
  where
    P : Block → Type 0
    P b = LiesBetween tech connect.from connect.to b.layer × (b.plain ≡ r)

    forth : Contains rects r ⊎ ((get_or blocks i d).plain ≡ r) → IsInner tech connect (take i blocks) r ⊎ P (get_or blocks i d)
    forth (inl has) = inl ((are r).0 has)
    forth (inr is) = inr (between, is)

    back : IsInner tech connect (take i blocks) r ⊎ P (get_or blocks i d) → Contains (rects ++ (get_or blocks i d).plain ∷ []) r
    back (inl w) = push_old rects (get_or blocks i d).plain r ((are r).1 w)
    back (inr p) = subst (Contains (rects ++ (get_or blocks i d).plain ∷ [])) p.1 (push_new rects (get_or blocks i d).plain)

pub inner_kept : (tech : Tech) (connect : Connect) (blocks : List Block) (i : ℕ) (d : Block) (rects : List Rect) → i < length blocks → (LiesBetween tech connect.from connect.to (get_or blocks i d).layer → ⊥)
    → ((r : Rect) → Contains rects r ↔ IsInner tech connect (take i blocks) r) → (r : Rect) → Contains rects r ↔ IsInner tech connect (take (i + 1) blocks) r
inner_kept tech connect blocks i d rects within not_between are r = (
  λ has. (Among-more (λ (b : Block). LiesBetween tech connect.from connect.to b.layer × (b.plain ≡ r)) blocks i d within).1 (inl ((are r).0 has)),
  λ w. back ((Among-more (λ (b : Block). LiesBetween tech connect.from connect.to b.layer × (b.plain ≡ r)) blocks i d within).0 w),
)
  where
    back : IsInner tech connect (take i blocks) r ⊎ (LiesBetween tech connect.from connect.to (get_or blocks i d).layer × ((get_or blocks i d).plain ≡ r)) → Contains rects r
    back (inl w) = (are r).1 w
    back (inr p) = absurd (not_between p.0)
