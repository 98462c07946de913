-- The touch of the least places is the first.
use Rattle.std.proofs.Common.{◌≡◌, ℕ, ◌<◌, ◌≤◌, ◌↔◌, ◌⊎◌, inl, inr, true, false, Bool, IsTrue, Ordering, List, length, get_or, All, pos, subst, refl, sym, ap, ◌∙◌, arith}
use Rattle.std.specs.Bool.{MatchBool}
use Rattle.std.specs.Cmp.{IsTotalOrder}
use Rattle.std.specs.Ordering.{nat_cmp, int_cmp, bool_cmp, ordering_then, ordering_reverse, is_gt}
use Rattle.std.specs.declared.cmp.Ordering.TheVariants.{Less, Equal, Greater}
use Rattle.std.proofs.lemmas.Bool.{cases_lt, cases_eq, false≢true}
use Rattle.std.proofs.lemmas.Cmp.{by_ranked, ranked, tied_itself, nat_cmp_total, int_cmp_total, on_total, then_total}
use Rattle.std.proofs.lemmas.List.{get_or_default}
use Rattle.std.proofs.lemmas.List.Elements.{Contains-get_or}
use Rattle.geom_rect.specs.declared.rect.Rect.{Rect}
use Rattle.geom_rect.specs.Rect.{IsInOrder, SharePoint}
use Rattle.grid_pieces.specs.declared.metal.Metal.{Metal}
use Rattle.grid_pieces.specs.declared.touch.Touching.{Touching}
use Rattle.grid_pieces.specs.Touch.{rect_order, StandsAt, IsTouch, touch_order, IsFirstTouch}
use Rattle.grid_pieces.specs.inside.Sweep.{Touch, IsSwept, NoneBefore, IsFound, IsFirstPlace, AreInOrder, AreLeast, IsTwin, OneNet, OtherNet}
use Rattle.grid_pieces.specs.Laws.Orders.{then_equal, nat_equal, int_equal}
use Rattle.grid_pieces.specs.Laws.Orders.{le_from}

then_gt : (a b : Ordering) → is_gt (ordering_then a b) ≡ false → (is_gt a ≡ false) × (a ≡ Equal → is_gt b ≡ false)
then_gt Less b h = (refl, λ e. absurd (cc))
then_gt Equal b h = (refl, λ e. h)
then_gt Greater b h = absurd (false≢true (sym h))

gt_then : (a b : Ordering) → is_gt a ≡ false → (a ≡ Equal → is_gt b ≡ false) → is_gt (ordering_then a b) ≡ false
gt_then Less b h g = refl
gt_then Equal b h g = g refl
gt_then Greater b h g = absurd (false≢true (sym h))

both_ways : (o : Ordering) → is_gt o ≡ false → is_gt (ordering_reverse o) ≡ false → o ≡ Equal
both_ways Less a b = absurd (false≢true (sym b))
both_ways Equal a b = refl
both_ways Greater a b = absurd (false≢true (sym a))

regroup : (o p q r s : Ordering) → ordering_then (ordering_then (ordering_then (ordering_then o p) q) r) s ≡ ordering_then o (ordering_then (ordering_then (ordering_then p q) r) s)
regroup Less p q r s = refl
regroup Equal p q r s = refl
regroup Greater p q r s = refl

nat_le : (a b : ℕ) → is_gt (nat_cmp a b) ≡ false → a ≤ b
nat_le a b h =
    by_ranked (a < b) (a ≡ b) (b < a) (nat_cmp a b) (ranked a b (nat_cmp a b) refl) (λ o p. omega arith) (λ o p. omega arith) (λ o p. absurd (false≢true (sym h ∙ ap is_gt o)))

nat_same : (a b : ℕ) → a ≡ b → nat_cmp a b ≡ Equal
nat_same a b same = subst (λ n. nat_cmp a n ≡ Equal) same (tied_itself nat_cmp_total a)

rect_total : IsTotalOrder rect_order
rect_total =
    then_total (then_total (then_total (on_total (λ (r : Rect). r.x1) int_cmp_total) (on_total (λ (r : Rect). r.y1) int_cmp_total)) (on_total (λ (r : Rect). r.x2) int_cmp_total))
    (on_total (λ (r : Rect). r.y2) int_cmp_total)

rect_equal : (a b : Rect) → rect_order a b ≡ Equal → a ≡ b
rect_equal a b equal =
    let one = then_equal _ (int_cmp a.y2 b.y2) equal in
    let two = then_equal _ (int_cmp a.x2 b.x2) one.0 in
    let three = then_equal (int_cmp a.x1 b.x1) (int_cmp a.y1 b.y1) two.0 in
    let x1 = int_equal a.x1 b.x1 three.0 in
    let y1 = int_equal a.y1 b.y1 three.1 in
    let x2 = int_equal a.x2 b.x2 two.1 in
    let y2 = int_equal a.y2 b.y2 one.1 in
    λ i. record { x1 = x1 i; y1 = y1 i; x2 = x2 i; y2 = y2 i }

-- what the order of a list says of two places
parts : (all : List Metal) (i j : ℕ) (d : Metal) → AreInOrder all → i ≤ j → j < length all
    → is_gt (ordering_then (nat_cmp (get_or all i d).layer (get_or all j d).layer) (rect_order (get_or all i d).rect (get_or all j d).rect)) ≡ false
parts all i j d order le within =
    subst (λ o. is_gt o ≡ false)
    (regroup (nat_cmp (get_or all i d).layer (get_or all j d).layer) (int_cmp (get_or all i d).rect.x1 (get_or all j d).rect.x1) (int_cmp (get_or all i d).rect.y1 (get_or all j d).rect.y1)
    (int_cmp (get_or all i d).rect.x2 (get_or all j d).rect.x2) (int_cmp (get_or all i d).rect.y2 (get_or all j d).rect.y2))
    (order i j d le within)

rects : (all : List Metal) (i j : ℕ) (d : Metal) → AreInOrder all → i ≤ j → j < length all → (get_or all i d).layer ≡ (get_or all j d).layer
    → is_gt (rect_order (get_or all i d).rect (get_or all j d).rect) ≡ false
rects all i j d order le within layer = (then_gt _ _ (parts all i j d order le within)).1 (nat_same _ _ layer)

pub swept : (all : List Metal) → All (λ (m : Metal). IsInOrder m.rect) all → AreInOrder all → IsSwept all
swept all upright order = record {
  upright = upright;
  layers = λ i j d le within. nat_le _ _ (then_gt _ _ (parts all i j d order le within)).0;
  lefts = λ i j d le within layer. le_from _ _ ((then_gt _ _ ((then_gt _ _ ((then_gt _ _ (rects all i j d order le within layer)).0)).0)).0);
}

-- no two places touch
pub none_touch : (all : List Metal) → NoneBefore all (length all) (length all) → (t : Touching) → IsTouch all t → ⊥
none_touch all none t w = by_place (cases_lt w.i w.j) (cases_lt w.j w.i)
  where
    layer : w.one.layer ≡ w.other.layer
    layer = w.on_layer.0 ∙ sym w.on_layer.1

    at_i : get_or all w.i w.one ≡ w.one
    at_i = w.at_i.1

    at_j : get_or all w.j w.one ≡ w.other
    at_j = get_or_default all w.j w.one w.other w.at_j.0 ∙ w.at_j.1

    flip : SharePoint w.other.rect w.one.rect
    flip = (w.meet.0, w.meet.1, (w.meet.2.1, w.meet.2.0))

    by_place : (w.i < w.j) ⊎ (w.j ≤ w.i) → (w.j < w.i) ⊎ (w.i ≤ w.j) → ⊥
    by_place (inl before) _ =
        none w.i w.j w.one before w.at_j.0 w.at_i.0 (subst (λ m. Touch m (get_or all w.j w.one)) (sym at_i) (subst (λ m. Touch w.one m) (sym at_j) (layer, w.meet)))
    by_place (inr _) (inl behind) =
        none w.j w.i w.one behind w.at_i.0 w.at_j.0 (subst (λ m. Touch m (get_or all w.i w.one)) (sym at_j) (subst (λ m. Touch w.other m) (sym at_i) (sym layer, flip)))
    by_place (inr a) (inr b) = absurd (w.differ (omega arith))

-- ---- the touch of the least places
abbrev pub made : Metal → Metal → Bool → Touching
made one two same = record { layer = one.layer; first = one.rect; second = two.rect; same = same }

-- two places touch, with the rectangles of the least two
touch_of : (all : List Metal) (i j : ℕ) (m n one two : Metal) (same : Bool) → StandsAt all i m → StandsAt all j n → (i ≡ j → ⊥) → m.layer ≡ one.layer → n.layer ≡ one.layer → m.rect ≡ one.rect → n.rect ≡ two.rect
    → SharePoint one.rect two.rect → is_gt (rect_order one.rect two.rect) ≡ false → IsTrue same ↔ (m.net ≡ n.net) → IsTouch all (made one two same)
touch_of all i j m n one two same at_i at_j differ m_layer n_layer m_rect n_rect meet lesser nets = record {
  i = i;
  j = j;
  differ = differ;
  one = m;
  other = n;
  at_i = at_i;
  at_j = at_j;
  on_layer = (m_layer, n_layer);
  meet = subst (λ r. SharePoint r n.rect) (sym m_rect) (subst (λ r. SharePoint one.rect r) (sym n_rect) meet);
  first = sym m_rect;
  second = sym n_rect;
  lesser = lesser;
  same = nets;
}

stands : (all : List Metal) (i : ℕ) (d : Metal) → i < length all → StandsAt all i (get_or all i d)
stands all i d within = (within, get_or_default all i (get_or all i d) d within)

is_touch : (all : List Metal) (first second : ℕ) (d : Metal) (same : Bool) → AreInOrder all → AreLeast all first second
    → MatchBool same (OneNet all (get_or all first d) (get_or all second d).rect) (OtherNet all (get_or all first d) (get_or all second d).rect)
    → IsTouch all (made (get_or all first d) (get_or all second d) same)
is_touch all first second d true order least nets =
    let one = get_or all first d in
    let two = get_or all second d in
    let touch = least.touch d in
    let alike : two.net ≡ one.net = nets two (Contains-get_or all second d least.within) (sym touch.0, inr refl) in
    touch_of all first second one two one two true (stands all first d (omega (arith, least.behind, least.within))) (stands all second d least.within) (λ e. omega (arith, least.behind)) refl (sym touch.0) refl refl touch.1
    (rects all first second d order (omega (arith, least.behind)) least.within touch.0) (λ t. sym alike, λ e. refl)
is_touch all first second d false order least (m, (k, within, is), other) = by_rect other.0.1 (cases_eq (get_or all second d).net (get_or all first d).net)
  where
    twin : IsTwin m (get_or all first d) (get_or all second d).rect
    twin = other.0

    ne : m.net ≡ (get_or all first d).net → ⊥
    ne = other.1

    one : Metal
    one = get_or all first d

    two : Metal
    two = get_or all second d

    touch : Touch (get_or all first d) (get_or all second d)
    touch = least.touch d

    lesser : is_gt (rect_order (get_or all first d).rect (get_or all second d).rect) ≡ false
    lesser = rects all first second d order (omega (arith, least.behind)) least.within touch.0

    in_first : first < length all
    in_first = omega (arith, least.behind, least.within)

    no : {P : Type 0} → (P → ⊥) → IsTrue false ↔ P
    no not = (λ t. absurd (false≢true t), λ p. absurd (not p))

    at : (j : ℕ) → k ≡ j → j < length all → m ≡ get_or all j d
    at j same in_j = sym is ∙ get_or_default all k m d within ∙ ap (λ n. get_or all n d) same

    by_rect : (m.rect ≡ (get_or all first d).rect) ⊎ (m.rect ≡ (get_or all second d).rect) → ((get_or all second d).net ≡ (get_or all first d).net) ⊎ ((get_or all second d).net ≡ (get_or all first d).net → ⊥)
        → IsTouch all (made (get_or all first d) (get_or all second d) false)
    by_rect (inr rect) _ =
        touch_of all first k (get_or all first d) m (get_or all first d) (get_or all second d) false (stands all first d in_first) (within, is)
        (λ e. ne (ap (λ (x : Metal). x.net) (at first (sym e) in_first))) refl twin.0 refl rect touch.1 lesser (no (λ e. ne (sym e)))
    by_rect (inl rect) (inr differ) =
        touch_of all first second (get_or all first d) (get_or all second d) (get_or all first d) (get_or all second d) false (stands all first d in_first) (stands all second d least.within)
        (λ e. omega (arith, least.behind)) refl (sym touch.0) refl refl touch.1 lesser (no (λ e. differ (sym e)))
    by_rect (inl rect) (inl same) =
        touch_of all k second m (get_or all second d) (get_or all first d) (get_or all second d) false (within, is) (stands all second d least.within)
        (λ e. ne (ap (λ (x : Metal). x.net) (at second e least.within) ∙ same)) twin.0 (sym touch.0) rect refl touch.1 lesser (no (λ e. ne (e ∙ same)))

not_after : (t u : Bool) → (IsTrue t → IsTrue u) → is_gt (bool_cmp t u) ≡ false
not_after false false gives = refl
not_after false true gives = refl
not_after true false gives = absurd (false≢true (gives refl))
not_after true true gives = refl

one_if_true : (all : List Metal) (one : Metal) (second : Rect) (same : Bool) → MatchBool same (OneNet all one second) (OtherNet all one second) → IsTrue same → OneNet all one second
one_if_true all one second true nets t = nets
one_if_true all one second false nets t = absurd (false≢true t)

-- no touch at places in order comes before it
bound : (all : List Metal) (first second : ℕ) (d : Metal) (same : Bool) → AreInOrder all → AreLeast all first second
    → MatchBool same (OneNet all (get_or all first d) (get_or all second d).rect) (OtherNet all (get_or all first d) (get_or all second d).rect)
    → (u : Touching) (a b : ℕ) → a < b → b < length all → Touch (get_or all a d) (get_or all b d) → (get_or all a d).layer ≡ u.layer → (get_or all a d).rect ≡ u.first → (get_or all b d).rect ≡ u.second
    → ((get_or all a d).net ≡ (get_or all b d).net → IsTrue u.same) → is_gt (touch_order (made (get_or all first d) (get_or all second d) same) u) ≡ false
bound all first second d same order least nets u a b less within touch layer rect_a rect_b net =
    gt_then _ (bool_cmp same u.same) (gt_then (ordering_then (nat_cmp (get_or all first d).layer u.layer) (rect_order (get_or all first d).rect u.first)) (rect_order (get_or all second d).rect u.second) outer inner) last
  where
    from : (a < first) ⊎ (first ≤ a) → first ≤ a
    from (inl early) = absurd (least.none a b d less within early touch)
    from (inr late) = late

    not_before : first ≤ a
    not_before = from (cases_lt a first)

    outer : is_gt (ordering_then (nat_cmp (get_or all first d).layer u.layer) (rect_order (get_or all first d).rect u.first)) ≡ false
    outer =
        subst (λ n. is_gt (ordering_then (nat_cmp (get_or all first d).layer n) (rect_order (get_or all first d).rect u.first)) ≡ false) layer
        (subst (λ r. is_gt (ordering_then (nat_cmp (get_or all first d).layer (get_or all a d).layer) (rect_order (get_or all first d).rect r)) ≡ false) rect_a
        (parts all first a d order not_before (omega (arith, less, within))))

    -- both lie on the layer of the first touch, and the first of them has its first rectangle
    Same : Type 0
    Same = ((get_or all first d).layer ≡ (get_or all a d).layer) × ((get_or all first d).rect ≡ (get_or all a d).rect)

    same_first : ordering_then (nat_cmp (get_or all first d).layer u.layer) (rect_order (get_or all first d).rect u.first) ≡ Equal → Same
    same_first equal =
        let two = then_equal (nat_cmp (get_or all first d).layer u.layer) (rect_order (get_or all first d).rect u.first) equal in
        (nat_equal (get_or all first d).layer u.layer two.0 ∙ sym layer, rect_equal (get_or all first d).rect u.first two.1 ∙ sym rect_a)

    touches : Same → Touch (get_or all first d) (get_or all b d)
    touches is = (is.0 ∙ touch.0, subst (λ r. SharePoint r (get_or all b d).rect) (sym is.1) touch.1)

    upto : Same → (b < second) ⊎ (second ≤ b) → second ≤ b
    upto is (inl early) = absurd (least.between b d (omega (arith, not_before, less)) early (touches is))
    upto is (inr late) = late

    inner : ordering_then (nat_cmp (get_or all first d).layer u.layer) (rect_order (get_or all first d).rect u.first) ≡ Equal → is_gt (rect_order (get_or all second d).rect u.second) ≡ false
    inner equal =
        let is = same_first equal in
        subst (λ r. is_gt (rect_order (get_or all second d).rect r) ≡ false) rect_b
        (rects all second b d order (upto is (cases_lt b second)) within (sym (least.touch d).0 ∙ is.0 ∙ touch.0))

    last : ordering_then (ordering_then (nat_cmp (get_or all first d).layer u.layer) (rect_order (get_or all first d).rect u.first)) (rect_order (get_or all second d).rect u.second) ≡ Equal
        → is_gt (bool_cmp same u.same) ≡ false
    last equal =
        let two = then_equal (ordering_then (nat_cmp (get_or all first d).layer u.layer) (rect_order (get_or all first d).rect u.first)) (rect_order (get_or all second d).rect u.second) equal in
        let is = same_first two.0 in
        let rect : (get_or all b d).rect ≡ (get_or all second d).rect = rect_b ∙ sym (rect_equal (get_or all second d).rect u.second two.1) in
        not_after same u.same
        (λ t.
        let one = one_if_true all (get_or all first d) (get_or all second d).rect same nets t in
        net
        (one (get_or all a d) (Contains-get_or all a d (omega (arith, less, within))) (sym is.0, inl (sym is.1))
        ∙ sym (one (get_or all b d) (Contains-get_or all b d within) (sym touch.0 ∙ sym is.0, inr rect))))

pub first_touch : (all : List Metal) (first second : ℕ) (d : Metal) (same : Bool) → AreInOrder all → AreLeast all first second
    → MatchBool same (OneNet all (get_or all first d) (get_or all second d).rect) (OtherNet all (get_or all first d) (get_or all second d).rect)
    → IsFirstTouch all (made (get_or all first d) (get_or all second d) same)
first_touch all first second d same order least nets = record {
  is = is_touch all first second d same order least nets;
  first = λ u w. by_place u w (cases_lt w.i w.j) (cases_lt w.j w.i);
}
  where
    at_i : (u : Touching) (w : IsTouch all u) → get_or all w.i d ≡ w.one
    at_i u w = get_or_default all w.i d w.one w.at_i.0 ∙ w.at_i.1

    at_j : (u : Touching) (w : IsTouch all u) → get_or all w.j d ≡ w.other
    at_j u w = get_or_default all w.j d w.other w.at_j.0 ∙ w.at_j.1

    layer : (u : Touching) (w : IsTouch all u) → w.one.layer ≡ w.other.layer
    layer u w = w.on_layer.0 ∙ sym w.on_layer.1

    forward : (u : Touching) (w : IsTouch all u) → Touch (get_or all w.i d) (get_or all w.j d)
    forward u w = subst (λ m. Touch m (get_or all w.j d)) (sym (at_i u w)) (subst (λ m. Touch w.one m) (sym (at_j u w)) (layer u w, w.meet))

    backward : (u : Touching) (w : IsTouch all u) → Touch (get_or all w.j d) (get_or all w.i d)
    backward u w =
        subst (λ m. Touch m (get_or all w.i d)) (sym (at_j u w)) (subst (λ m. Touch w.other m) (sym (at_i u w)) (sym (layer u w), (w.meet.0, w.meet.1, (w.meet.2.1, w.meet.2.0))))

    -- places out of order have equal rectangles
    equal_rects : (u : Touching) (w : IsTouch all u) → w.j < w.i → u.first ≡ u.second
    equal_rects u w less =
        let falls : is_gt (rect_order (get_or all w.j d).rect (get_or all w.i d).rect) ≡ false = rects all w.j w.i d order (omega arith) w.at_i.0 (backward u w).0 in
        let back : is_gt (rect_order u.second u.first) ≡ false =
        subst (λ r. is_gt (rect_order r u.first) ≡ false) (ap (λ (m : Metal). m.rect) (at_j u w) ∙ sym w.second)
        (subst (λ r. is_gt (rect_order (get_or all w.j d).rect r) ≡ false) (ap (λ (m : Metal). m.rect) (at_i u w) ∙ sym w.first) falls) in
        rect_equal u.first u.second
        (both_ways (rect_order u.first u.second) w.lesser (subst (λ o. is_gt o ≡ false) (rect_total.antisymm u.second u.first) back))

    by_place : (u : Touching) (w : IsTouch all u) → (w.i < w.j) ⊎ (w.j ≤ w.i) → (w.j < w.i) ⊎ (w.i ≤ w.j) → is_gt (touch_order (made (get_or all first d) (get_or all second d) same) u) ≡ false
    by_place u w (inl before) _ =
        bound all first second d same order least nets u w.i w.j before w.at_j.0 (forward u w) (ap (λ (m : Metal). m.layer) (at_i u w) ∙ w.on_layer.0)
        (ap (λ (m : Metal). m.rect) (at_i u w) ∙ sym w.first) (ap (λ (m : Metal). m.rect) (at_j u w) ∙ sym w.second)
        (λ e. w.same.1 (sym (ap (λ (m : Metal). m.net) (at_i u w)) ∙ e ∙ ap (λ (m : Metal). m.net) (at_j u w)))
    by_place u w (inr _) (inl behind) =
        let equal = equal_rects u w behind in
        bound all first second d same order least nets u w.j w.i behind w.at_i.0 (backward u w) (ap (λ (m : Metal). m.layer) (at_j u w) ∙ w.on_layer.1)
        (ap (λ (m : Metal). m.rect) (at_j u w) ∙ sym w.second ∙ sym equal) (ap (λ (m : Metal). m.rect) (at_i u w) ∙ sym w.first ∙ equal)
        (λ e. w.same.1 (sym (ap (λ (m : Metal). m.net) (at_i u w)) ∙ sym e ∙ ap (λ (m : Metal). m.net) (at_j u w)))
    by_place u w (inr a) (inr b) = absurd (w.differ (omega arith))

-- what the two searches give
pub least_of : (all : List Metal) (first second : ℕ) → IsFirstPlace all first → (first ≡ length all → ⊥) → first < second → second ≤ length all
    → ((j : ℕ) (d : Metal) → first < j → j < second → Touch (get_or all first d) (get_or all j d) → ⊥) → ((d : Metal) → second < length all → Touch (get_or all first d) (get_or all second d)) → AreLeast all first second
least_of all first second is some behind within none touches = record {
  behind = behind;
  within = inside (cases_lt second (length all)) is.found;
  none = is.none;
  between = none;
  touch = λ d. touches d (inside (cases_lt second (length all)) is.found);
}
  where
    inside : (second < length all) ⊎ (length all ≤ second) → IsFound all first (length all) → second < length all
    inside (inl below) _ = below
    inside (inr past) (inl nowhere) = absurd (some nowhere)
    inside (inr past) (inr w) =
        let nothing : Metal = record { layer = 0; rect = record { x1 = pos 0; y1 = pos 0; x2 = pos 0; y2 = pos 0 }; net = 0 } in
        absurd (none w.0 nothing w.2 (omega (arith, w.3)) (w.4 nothing))
