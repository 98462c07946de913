-- How far the pieces of a line reach, and which points lie on them.
use Rattle.std.proofs.Common.{◌≡◌, ◌⊎◌, inl, inr, ◌↔◌, IsTrue, ℕ, ◌+◌, ◌-◌, ◌<◌, ◌≤◌, ℤ, pos, ◌≤ℤ◌, ◌<ℤ◌, Bool, true, false, not, Ordering, List, [], ◌∷◌, ◌++◌, length, get_or, All, AllPairs, Contains, subst, refl, sym, ap, ◌∙◌, arith}
use Rattle.std.specs.declared.cmp.Ordering.TheVariants.{Less, Equal, Greater}
use Rattle.std.specs.Int.{int_max}
use Rattle.std.specs.List.{AllWithin}
use Rattle.std.specs.List.Sorted.{IsPartitionedBy}
use Rattle.std.specs.Ordering.{nat_cmp, int_cmp, bool_cmp, ordering_then, ordering_reverse, is_lt, is_gt}
use Rattle.std.proofs.lemmas.Bool.{cases_lt, cases_eq, false≢true}
use Rattle.std.proofs.lemmas.Cmp.{nat_cmp_total, int_cmp_total, tied_itself}
use Rattle.std.specs.Cmp.{bool_cmp_total}
use Rattle.std.proofs.lemmas.Int.{ints, clamps, by_lt_z}
use Rattle.std.proofs.lemmas.List.{get_or_default, get_or_append_left, get_or_push, length-append}
use Rattle.std.proofs.lemmas.List.Elements.{Contains-get_or}
use Rattle.geom_rect.specs.declared.direction.Axis.{Axis}
use Rattle.geom_rect.specs.declared.direction.Axis.TheVariants.{X, Y}
use Rattle.grid_pieces.specs.declared.piece.Piece.{Piece}
use Rattle.grid_pieces.specs.Laws.Orders.{then_equal, nat_equal, int_equal, le_from, not_gt}
use Rattle.wire_pieces.specs.Pieces.{is_upright}
use Rattle.wire_pieces.specs.Centre.{along_of, across_of, IsOnCentre, IsHeld}
use Rattle.wire_pieces.specs.inside.Centre.{AreAlike, AreByLine, AreReaches, AreReachesTo, IsOnAxis, IsReach, line_order, reach_order, piece_of, point_of}
use Rattle.wire_pieces.proofs.Orders.{bool_equal, line_total, reach_total}

-- ---- lines in order

both_equal : (a b : Ordering) → a ≡ Equal → b ≡ Equal → ordering_then a b ≡ Equal
both_equal a b a_is b_is = ap (λ o. ordering_then o b) a_is ∙ b_is

then_gt : (a b : Ordering) → is_gt (ordering_then a b) ≡ false → (is_gt a ≡ false) × (a ≡ Equal → is_gt b ≡ false)
then_gt Less b h = (refl, λ e. absurd (cc))
then_gt Equal b h = (refl, λ e. h)
then_gt Greater b h = absurd (false≢true (sym h))

gt_then : (a b : Ordering) → a ≡ Equal → is_gt (ordering_then a b) ≡ is_gt b
gt_then a b is = ap (λ o. is_gt (ordering_then o b)) is

neither : (o : Ordering) → is_gt o ≡ false → is_gt (ordering_reverse o) ≡ false → o ≡ Equal
neither Less low high = absurd (false≢true (sym high))
neither Equal low high = refl
neither Greater low high = absurd (false≢true (sym low))

pub alike_from : (a b : Piece) → line_order a b ≡ Equal → AreAlike a b
alike_from a b equal =
    let three = then_equal _ (int_cmp a.centre b.centre) equal in
    let two = then_equal _ (bool_cmp (is_upright a.axis) (is_upright b.axis)) three.0 in
    let one = then_equal (nat_cmp a.net b.net) (nat_cmp a.layer b.layer) two.0 in
    record {
      net = nat_equal a.net b.net one.0;
      layer = nat_equal a.layer b.layer one.1;
      axis = bool_equal (is_upright a.axis) (is_upright b.axis) two.1;
      centre = int_equal a.centre b.centre three.1;
    }

pub equal_from : (a b : Piece) → AreAlike a b → line_order a b ≡ Equal
equal_from a b alike =
    both_equal (ordering_then (ordering_then (nat_cmp a.net b.net) (nat_cmp a.layer b.layer)) (bool_cmp (is_upright a.axis) (is_upright b.axis))) (int_cmp a.centre b.centre)
    (both_equal (ordering_then (nat_cmp a.net b.net) (nat_cmp a.layer b.layer)) (bool_cmp (is_upright a.axis) (is_upright b.axis))
    (both_equal (nat_cmp a.net b.net) (nat_cmp a.layer b.layer) (subst (λ n. nat_cmp a.net n ≡ Equal) alike.net (tied_itself nat_cmp_total a.net))
    (subst (λ n. nat_cmp a.layer n ≡ Equal) alike.layer (tied_itself nat_cmp_total a.layer)))
    (subst (λ n. bool_cmp (is_upright a.axis) n ≡ Equal) alike.axis (tied_itself bool_cmp_total (is_upright a.axis))))
    (subst (λ n. int_cmp a.centre n ≡ Equal) alike.centre (tied_itself int_cmp_total a.centre))

pub alike_itself : (a : Piece) → AreAlike a a
alike_itself a = record { net = refl; layer = refl; axis = refl; centre = refl }

pub alike_back : (a b : Piece) → AreAlike a b → AreAlike b a
alike_back a b is = record { net = sym is.net; layer = sym is.layer; axis = sym is.axis; centre = sym is.centre }

pub alike_along : (a b c : Piece) → AreAlike a b → AreAlike b c → AreAlike a c
alike_along a b c ab bc = record { net = ab.net ∙ bc.net; layer = ab.layer ∙ bc.layer; axis = ab.axis ∙ bc.axis; centre = ab.centre ∙ bc.centre }

line_le : (a b : Piece) → is_gt (reach_order a b) ≡ false → is_gt (line_order a b) ≡ false
line_le a b h = (then_gt (line_order a b) (int_cmp a.from b.from) h).0

from_le : (a b : Piece) → is_gt (reach_order a b) ≡ false → AreAlike a b → a.from ≤ℤ b.from
from_le a b h alike = le_from a.from b.from ((then_gt (line_order a b) (int_cmp a.from b.from) h).1 (equal_from a b alike))

-- what lies in order between two of one line is of that line
pub squeezed : (a b c : Piece) → is_gt (reach_order a b) ≡ false → is_gt (reach_order b c) ≡ false → AreAlike a c → AreAlike a b
squeezed a b c ab bc ac =
    let same : line_order a b ≡ line_order c b = line_total.congr a c b (equal_from a c ac) in
    let low : is_gt (ordering_reverse (line_order c b)) ≡ false = subst (λ o. is_gt o ≡ false) (line_total.antisymm b c) (line_le b c bc) in
    let flipped : is_gt (ordering_reverse (line_order a b)) ≡ false = subst (λ o. is_gt (ordering_reverse o) ≡ false) (sym same) low in
    alike_from a b (neither (line_order a b) (line_le a b ab) flipped)

pub le_of : (pieces : List Piece) → AreByLine pieces → (i j : ℕ) → i ≤ j → j < length pieces → is_gt (reach_order (piece_of pieces i) (piece_of pieces j)) ≡ false
le_of pieces by_line i j le within = by_place (cases_lt i j)
  where
    by_place : (i < j) ⊎ (j ≤ i) → is_gt (reach_order (piece_of pieces i) (piece_of pieces j)) ≡ false
    by_place (inl less) = by_line i j _ less within
    by_place (inr more) =
        let same : i ≡ j = omega arith in
        subst (λ k. is_gt (reach_order (piece_of pieces i) (piece_of pieces k)) ≡ false) same (ap is_gt (tied_itself reach_total (piece_of pieces i)))

-- ---- how far they reach

-- the first of a line
pub reach_first : (pieces : List Piece) (k : ℕ) → AreByLine pieces → k < length pieces → (0 < k → AreAlike (piece_of pieces (k - 1)) (piece_of pieces k) → ⊥) → IsReach pieces k (piece_of pieces k).to
reach_first pieces k by_line within alone = record {
  some = (k, omega arith, alike_itself (piece_of pieces k), refl);
  most = λ j upto alike. by_place j upto alike (cases_lt j k);
}
  where
    by_place : (j : ℕ) → j ≤ k → AreAlike (piece_of pieces j) (piece_of pieces k) → (j < k) ⊎ (k ≤ j) → (piece_of pieces j).to ≤ℤ (piece_of pieces k).to
    by_place j upto alike (inl before) =
        let last = piece_of pieces (k - 1) in
        let mid = squeezed (piece_of pieces j) last (piece_of pieces k) (le_of pieces by_line j (k - 1) (omega arith) (omega arith)) (le_of pieces by_line (k - 1) k (omega arith) within) alike in
        absurd (alone (omega arith) (alike_along last (piece_of pieces j) (piece_of pieces k) (alike_back (piece_of pieces j) last mid) alike))
    by_place j upto alike (inr same) =
        let is : j ≡ k = omega arith in
        let at : (piece_of pieces j).to ≡ (piece_of pieces k).to = ap (λ n. (piece_of pieces n).to) is in
        omega (arith, ints)

-- one more of a line
pub reach_more : (pieces : List Piece) (k : ℕ) (reach : ℤ) → 0 < k → AreAlike (piece_of pieces (k - 1)) (piece_of pieces k) → IsReach pieces (k - 1) reach → IsReach pieces k (int_max (piece_of pieces k).to reach)
reach_more pieces k reach positive alike before = record {
  some = by_end (cases_le reach (piece_of pieces k).to);
  most = λ j upto is. by_place j upto is (cases_lt j k);
}
  where
    cases_le : (a b : ℤ) → (a ≤ℤ b) ⊎ (b <ℤ a)
    cases_le a b = by_lt_z b a (λ less. inr less) (λ le. inl le)

    by_end : (reach ≤ℤ (piece_of pieces k).to) ⊎ ((piece_of pieces k).to <ℤ reach) → (j : ℕ) × (j ≤ k) × AreAlike (piece_of pieces j) (piece_of pieces k) × ((piece_of pieces j).to ≡ int_max (piece_of pieces k).to reach)
    by_end (inl low) = (k, omega arith, alike_itself (piece_of pieces k), omega (arith, ints, clamps))
    by_end (inr high) =
        let w = before.some in
        let is = w.3 in
        (w.0, omega (arith, w.1), alike_along (piece_of pieces w.0) (piece_of pieces (k - 1)) (piece_of pieces k) w.2 alike, is ∙ omega (arith, ints, clamps))

    by_place : (j : ℕ) → j ≤ k → AreAlike (piece_of pieces j) (piece_of pieces k) → (j < k) ⊎ (k ≤ j) → (piece_of pieces j).to ≤ℤ int_max (piece_of pieces k).to reach
    by_place j upto is (inl earlier) =
        let low = before.most j (omega arith) (alike_along (piece_of pieces j) (piece_of pieces k) (piece_of pieces (k - 1)) is (alike_back (piece_of pieces (k - 1)) (piece_of pieces k) alike)) in
        omega (arith, ints, clamps)
    by_place j upto is (inr same) =
        let here : j ≡ k = omega arith in
        let at : (piece_of pieces j).to ≡ (piece_of pieces k).to = ap (λ n. (piece_of pieces n).to) here in
        omega (arith, ints, clamps)

-- ---- which points lie on a line

-- what `first_behind` says
pub record IsBehind (pieces : List Piece) (point : Piece) (behind : ℕ) : Type 0 where
  pub within : behind ≤ length pieces
  pub before : AllWithin (λ (p : Piece). is_gt (reach_order p point) ≡ false) pieces 0 behind
  pub after : AllWithin (λ (p : Piece). is_gt (reach_order p point) ≡ true) pieces behind (length pieces)

-- where a piece holds the point, it stands before that place, and the last before it is of the same line
held_before : (pieces : List Piece) (point : Piece) (behind : ℕ) → IsBehind pieces point behind → (w : IsOnAxis pieces point) → w.1.0 < behind
held_before pieces point behind is w = by_place (cases_lt w.1.0 behind)
  where
    by_place : (w.1.0 < behind) ⊎ (behind ≤ w.1.0) → w.1.0 < behind
    by_place (inl before) = before
    by_place (inr past) =
        let after : is_gt (reach_order (get_or pieces w.1.0 w.0) point) ≡ true = is.after w.1.0 w.0 past w.1.1 in
        let here : is_gt (reach_order w.0 point) ≡ true = subst (λ p. is_gt (reach_order p point) ≡ true) w.1.2 after in
        let equal = equal_from w.0 point w.2.0 in
        let not_after : is_gt (reach_order w.0 point) ≡ false = gt_then (line_order w.0 point) (int_cmp w.0.from point.from) equal ∙ not_gt w.0.from point.from w.2.1 in
        absurd (false≢true (sym not_after ∙ here))

at_place : (pieces : List Piece) (k : ℕ) (p : Piece) → k < length pieces → get_or pieces k p ≡ p → piece_of pieces k ≡ p
at_place pieces k p within is = get_or_default pieces k _ p within ∙ is

pub none_held : (pieces : List Piece) (point : Piece) (behind : ℕ) → IsBehind pieces point behind → behind ≡ 0 → IsOnAxis pieces point → ⊥
none_held pieces point behind is none w = omega (arith, held_before pieces point behind is w)

pub held_by_reach : (pieces : List Piece) (reaches : List ℤ) (point : Piece) (behind : ℕ) → AreByLine pieces → AreReaches pieces reaches → IsBehind pieces point behind → 0 < behind
    → AreAlike (piece_of pieces (behind - 1)) point → point.from ≤ℤ get_or reaches (behind - 1) (pos 0) → IsOnAxis pieces point
held_by_reach pieces reaches point behind by_line are is some alike far =
    let last = behind - 1 in
    let reach = (are.each last (omega (arith, is.within))).some in
    let j = reach.0 in
    let in_j : j < length pieces = omega (arith, reach.1, is.within) in
    let p = piece_of pieces j in
    let on : AreAlike p point = alike_along p (piece_of pieces last) point reach.2 alike in
    let low = from_le p point (is.before j _ (omega arith) (omega (arith, reach.1))) on in
    let end = reach.3 in
    (p, Contains-get_or pieces j _ in_j, (on, low, omega (arith, ints)))

pub reach_by_held : (pieces : List Piece) (reaches : List ℤ) (point : Piece) (behind : ℕ) → AreByLine pieces → AreReaches pieces reaches → IsBehind pieces point behind → IsOnAxis pieces point
    → (0 < behind) × AreAlike (piece_of pieces (behind - 1)) point × (point.from ≤ℤ get_or reaches (behind - 1) (pos 0))
reach_by_held pieces reaches point behind by_line are is w =
    let last = behind - 1 in
    let before = held_before pieces point behind is w in
    let in_last : last < length pieces = omega (arith, before, is.within) in
    let at : piece_of pieces w.1.0 ≡ w.0 = at_place pieces w.1.0 w.0 w.1.1 w.1.2 in
    let here = piece_of pieces w.1.0 in
    let on : AreAlike here point = subst (λ (p : Piece). AreAlike p point) (sym at) w.2.0 in
    let mid : AreAlike here (piece_of pieces last) =
    squeezed here (piece_of pieces last) point (le_of pieces by_line w.1.0 last (omega (arith, before)) in_last) (is.before last _ (omega arith) (omega (arith, before))) on in
    let far = (are.each last in_last).most w.1.0 (omega (arith, before)) mid in
    let end : point.from ≤ℤ here.to = subst (λ (p : Piece). point.from ≤ℤ p.to) (sym at) w.2.2 in
    (omega (arith, before), alike_along (piece_of pieces last) here point (alike_back here (piece_of pieces last) mid) on, omega (arith, ints))

-- ---- a place lies on a centre line along x or along y

upright_x : (a : Axis) → is_upright a ≡ false → a ≡ X
upright_x X is = refl
upright_x Y is = absurd (false≢true (sym is))

upright_y : (a : Axis) → is_upright a ≡ true → a ≡ Y
upright_y X is = absurd (false≢true is)
upright_y Y is = refl

on_centre : (net layer : ℕ) (x y : ℤ) (axis : Axis) (p : Piece) → p.axis ≡ axis → AreAlike p (point_of net layer axis x y) → p.from ≤ℤ along_of axis x y → along_of axis x y ≤ℤ p.to → IsOnCentre net layer x y p
on_centre net layer x y axis p is alike low high = record {
  of_net = alike.net;
  on_layer = alike.layer;
  across = alike.centre ∙ ap (λ a. across_of a x y) (sym is);
  from = subst (λ a. p.from ≤ℤ along_of a x y) (sym is) low;
  to = subst (λ a. along_of a x y ≤ℤ p.to) (sym is) high;
}

on_axis : (net layer : ℕ) (x y : ℤ) (axis : Axis) (p : Piece) → p.axis ≡ axis → IsOnCentre net layer x y p → AreAlike p (point_of net layer axis x y) × (p.from ≤ℤ along_of axis x y) × (along_of axis x y ≤ℤ p.to)
on_axis net layer x y axis p is on = (
  record { net = on.of_net; layer = on.on_layer; axis = ap is_upright is; centre = on.across ∙ ap (λ a. across_of a x y) is },
  subst (λ a. p.from ≤ℤ along_of a x y) is on.from,
  subst (λ a. along_of a x y ≤ℤ p.to) is on.to,
)

pub held_x : (pieces : List Piece) (net layer : ℕ) (x y : ℤ) → IsOnAxis pieces (point_of net layer X x y) → IsHeld pieces net layer x y
held_x pieces net layer x y w = (w.0, w.1, on_centre net layer x y X w.0 (upright_x w.0.axis w.2.0.axis) w.2.0 w.2.1 w.2.2)

pub held_y : (pieces : List Piece) (net layer : ℕ) (x y : ℤ) → IsOnAxis pieces (point_of net layer Y x y) → IsHeld pieces net layer x y
held_y pieces net layer x y w = (w.0, w.1, on_centre net layer x y Y w.0 (upright_y w.0.axis w.2.0.axis) w.2.0 w.2.1 w.2.2)

pub axis_of_held : (pieces : List Piece) (net layer : ℕ) (x y : ℤ) → IsHeld pieces net layer x y → IsOnAxis pieces (point_of net layer X x y) ⊎ IsOnAxis pieces (point_of net layer Y x y)
axis_of_held pieces net layer x y w = by_axis w.0.axis refl
  where
    by_axis : (a : Axis) → w.0.axis ≡ a → IsOnAxis pieces (point_of net layer X x y) ⊎ IsOnAxis pieces (point_of net layer Y x y)
    by_axis X is = inl (w.0, w.1, on_axis net layer x y X w.0 is w.2)
    by_axis Y is = inr (w.0, w.1, on_axis net layer x y Y w.0 is w.2)

-- ---- steps

pub reaches_more : (pieces : List Piece) (reaches : List ℤ) (at : ℕ) (reach : ℤ) → AreReachesTo pieces reaches at → IsReach pieces at reach → AreReachesTo pieces (reaches ++ reach ∷ []) (at + 1)
reaches_more pieces reaches at reach known is = record {
  long = omega (arith, length-append reaches (reach ∷ []), known.long);
  each = λ k below. by_place k below (cases_lt k at);
}
  where
    by_place : (k : ℕ) → k < at + 1 → (k < at) ⊎ (at ≤ k) → IsReach pieces k (get_or (reaches ++ reach ∷ []) k (pos 0))
    by_place k below (inl before) = subst (IsReach pieces k) (sym (get_or_append_left reaches (reach ∷ []) (pos 0) k (omega (arith, known.long)))) (known.each k before)
    by_place k below (inr not_before) =
        let here : at ≡ k = omega arith in
        subst (λ n. IsReach pieces n (get_or (reaches ++ reach ∷ []) n (pos 0))) here (subst (IsReach pieces at) (sym (get_or_push reaches reach (pos 0) at known.long)) is)

pub reaches_all : (pieces : List Piece) (reaches : List ℤ) (at : ℕ) → AreReachesTo pieces reaches at → at ≡ length pieces → AreReaches pieces reaches
reaches_all pieces reaches at known all = record { as_many = known.long ∙ all; each = λ k within. known.each k (omega arith) }

-- of what comes before something, all that comes before it does
not_after_then : (x y z : Piece) → is_gt (reach_order x y) ≡ false → is_gt (reach_order y z) ≡ false → is_gt (reach_order x z) ≡ false
not_after_then x y z first second = by_orders (reach_order x y) refl (reach_order y z) refl
  where
    alike_right : reach_order x y ≡ Less → reach_order y z ≡ Equal → reach_order x z ≡ reach_order x y
    alike_right xy yz =
        let flipped : reach_order z x ≡ reach_order y x = sym (reach_total.congr y z x yz) in
        reach_total.antisymm x z ∙ ap ordering_reverse flipped ∙ sym (reach_total.antisymm x y)

    by_orders : (o : Ordering) → reach_order x y ≡ o → (p : Ordering) → reach_order y z ≡ p → is_gt (reach_order x z) ≡ false
    by_orders Less xy Less yz = ap is_gt (reach_total.trans x y z xy yz)
    by_orders Less xy Equal yz = ap is_gt (alike_right xy yz ∙ xy)
    by_orders Less xy Greater yz = absurd (false≢true (sym second ∙ ap is_gt yz))
    by_orders Equal xy p yz = ap is_gt (reach_total.congr x y z xy) ∙ second
    by_orders Greater xy p yz = absurd (false≢true (sym first ∙ ap is_gt xy))

pub not_true : (b : Bool) → not b ≡ true → b ≡ false
not_true true is = absurd (false≢true is)
not_true false is = refl

pub not_false : (b : Bool) → not b ≡ false → b ≡ true
not_false true is = refl
not_false false is = absurd (false≢true (sym is))

pub by_point : (pieces : List Piece) (point : Piece) → AreByLine pieces → IsPartitionedBy (λ (p : Piece). not (is_gt (reach_order p point))) pieces
by_point pieces point by_line i j d ordered within passes = by_place (cases_lt i j)
  where
    by_place : (i < j) ⊎ (j ≤ i) → not (is_gt (reach_order (get_or pieces i d) point)) ≡ true
    by_place (inl less) =
        let low = by_line i j d less within in
        ap not (not_after_then (get_or pieces i d) (get_or pieces j d) point low (not_true (is_gt (reach_order (get_or pieces j d) point)) passes))
    by_place (inr not_less) =
        let same : j ≡ i = omega arith in
        subst (λ n. not (is_gt (reach_order (get_or pieces n d) point)) ≡ true) same passes

-- where a place lies on no centre line along x, it lies on one along y
pub held_either : (pieces : List Piece) (net layer : ℕ) (x y : ℤ) (answer : Bool) → IsHeld pieces net layer x y → (IsOnAxis pieces (point_of net layer X x y) → ⊥) → (IsOnAxis pieces (point_of net layer Y x y) → IsTrue answer)
    → IsTrue answer
held_either pieces net layer x y answer held none other = by_axis (axis_of_held pieces net layer x y held)
  where
    by_axis : IsOnAxis pieces (point_of net layer X x y) ⊎ IsOnAxis pieces (point_of net layer Y x y) → IsTrue answer
    by_axis (inl along) = absurd (none along)
    by_axis (inr along) = other along
