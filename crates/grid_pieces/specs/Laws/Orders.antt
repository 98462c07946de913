-- Orders by several numbers in turn.
use Rattle.std.proofs.Common.{◌≡◌, ℕ, ◌<◌, ◌≤◌, ℤ, ◌<ℤ◌, ◌≤ℤ◌, false, Ordering, List, length, get_or, subst, refl, sym, ap, ◌∙◌, arith}
use Rattle.std.specs.declared.cmp.Ordering.TheVariants.{Less, Equal, Greater}
use Rattle.std.specs.Cmp.{IsTotalOrder}
use Rattle.std.specs.Ordering.{nat_cmp, int_cmp, ordering_then, ordering_reverse, is_lt, is_gt, MatchOrdering}
use Rattle.std.specs.List.Sorted.{IsSortedBy}
use Rattle.std.proofs.lemmas.Bool.{false≢true}
use Rattle.std.proofs.lemmas.Int.{ints}
use Rattle.std.proofs.lemmas.Cmp.{by_ranked, ranked, int_ranked, nat_cmp_total, int_cmp_total, on_total, then_total}
use Rattle.std.proofs.lemmas.List.Sorted.{sorted_far, ranks_by}
use Rattle.grid_pieces.specs.declared.piece.Piece.{Piece}
use Rattle.grid_pieces.specs.Piece.{piece_order}

pub then_equal : (a b : Ordering) → ordering_then a b ≡ Equal → (a ≡ Equal) × (b ≡ Equal)
then_equal Less b e = absurd (cc)
then_equal Equal b e = (refl, e)
then_equal Greater b e = absurd (cc)

neither : (o : Ordering) → is_lt o ≡ false → is_lt (ordering_reverse o) ≡ false → o ≡ Equal
neither Less low high = absurd (false≢true (sym low))
neither Equal low high = refl
neither Greater low high = absurd (false≢true (sym high))

not_behind : (o : Ordering) → is_lt o ≡ false → is_gt (ordering_reverse o) ≡ false
not_behind Less low = absurd (false≢true (sym low))
not_behind Equal low = refl
not_behind Greater low = refl

pub nat_equal : (x y : ℕ) → nat_cmp x y ≡ Equal → x ≡ y
nat_equal x y e = subst (λ o. MatchOrdering o (x < y) (x ≡ y) (y < x)) e (ranked x y (nat_cmp x y) refl)

pub int_equal : (x y : ℤ) → int_cmp x y ≡ Equal → x ≡ y
int_equal x y e = subst (λ o. MatchOrdering o (x <ℤ y) (x ≡ y) (y <ℤ x)) e (int_ranked x y (int_cmp x y) refl)

-- where a list is sorted by an order, no element is greater than a later one
pub in_order : {X : Type 0} (R : X → X → Ordering) → IsTotalOrder R → (xs : List X) → IsSortedBy (λ x y. is_lt (R x y)) xs
    → (i j : ℕ) (d : X) → i ≤ j → j < length xs → is_gt (R (get_or xs i d) (get_or xs j d)) ≡ false
in_order {X} R total xs sorted i j d le within =
    let far : is_lt (R (get_or xs j d) (get_or xs i d)) ≡ false = sorted_far (λ x y. is_lt (R x y)) (ranks_by total (λ (x : X). x)) xs sorted i j d le within in
    subst (λ o. is_gt o ≡ false) (sym (total.antisymm (get_or xs i d) (get_or xs j d))) (not_behind (R (get_or xs j d) (get_or xs i d)) far)

-- an element between two that are alike is like them
pub alike_between : {X : Type 0} (R : X → X → Ordering) → IsTotalOrder R → (xs : List X) → IsSortedBy (λ x y. is_lt (R x y)) xs
    → (i j k : ℕ) (d : X) → i ≤ j → j ≤ k → k < length xs → R (get_or xs i d) (get_or xs k d) ≡ Equal → R (get_or xs i d) (get_or xs j d) ≡ Equal
alike_between {X} R total xs sorted i j k d ij jk within alike =
    let first : is_lt (R (get_or xs j d) (get_or xs i d)) ≡ false = sorted_far (λ x y. is_lt (R x y)) (ranks_by total (λ (x : X). x)) xs sorted i j d ij (omega arith) in
    let last : is_lt (R (get_or xs k d) (get_or xs j d)) ≡ false = sorted_far (λ x y. is_lt (R x y)) (ranks_by total (λ (x : X). x)) xs sorted j k d jk within in
    let same : R (get_or xs i d) (get_or xs j d) ≡ R (get_or xs k d) (get_or xs j d) = total.congr (get_or xs i d) (get_or xs k d) (get_or xs j d) alike in
    neither (R (get_or xs i d) (get_or xs j d)) (subst (λ o. is_lt o ≡ false) (sym same) last)
    (subst (λ o. is_lt o ≡ false) (total.antisymm (get_or xs j d) (get_or xs i d)) first)

pub le_from : (a b : ℤ) → is_gt (int_cmp a b) ≡ false → a ≤ℤ b
le_from a b h =
    by_ranked (a <ℤ b) (a ≡ b) (b <ℤ a) (int_cmp a b) (int_ranked a b (int_cmp a b) refl) (λ o p. omega (arith, ints)) (λ o p. omega (arith, ints))
    (λ o p. absurd (false≢true (sym h ∙ ap is_gt o)))

pub ge_from : (a b : ℤ) → is_lt (int_cmp a b) ≡ false → b ≤ℤ a
ge_from a b h =
    by_ranked (a <ℤ b) (a ≡ b) (b <ℤ a) (int_cmp a b) (int_ranked a b (int_cmp a b) refl) (λ o p. absurd (false≢true (sym h ∙ ap is_lt o))) (λ o p. omega (arith, ints))
    (λ o p. omega (arith, ints))

pub not_gt : (a b : ℤ) → a ≤ℤ b → is_gt (int_cmp a b) ≡ false
not_gt a b le =
    by_ranked (a <ℤ b) (a ≡ b) (b <ℤ a) (int_cmp a b) (int_ranked a b (int_cmp a b) refl) (λ o p. ap is_gt o) (λ o p. ap is_gt o) (λ o p. absurd (omega (arith, ints)))

-- Pieces are sorted in one way.
pub piece_total : IsTotalOrder piece_order
piece_total =
    then_total
    (then_total (then_total (then_total (on_total (λ (a : Piece). a.net) nat_cmp_total) (on_total (λ (a : Piece). a.layer) nat_cmp_total)) (on_total (λ (a : Piece). a.centre) int_cmp_total))
    (on_total (λ (a : Piece). a.from) int_cmp_total))
    (on_total (λ (a : Piece). a.width) int_cmp_total)
