-- The least of touches.
use Rattle.std.proofs.Common.{◌≡◌, ◌↔◌, ◌⊎◌, inl, inr, ℕ, ◌+◌, ◌<◌, ◌≤◌, Bool, true, false, IsTrue, Ordering, List, length, get_or, subst, sym, refl, ap, ◌∙◌, arith}
use Rattle.std.specs.Prelude.{if◌then◌else◌, Option, Some, None}
use Rattle.std.specs.Cmp.{IsTotalOrder}
use Rattle.std.specs.Ordering.{bool_cmp, ordering_reverse, is_gt}
use Rattle.std.specs.declared.cmp.Ordering.TheVariants.{Less, Equal, Greater}
use Rattle.std.proofs.lemmas.Bool.{false≢true, cases_lt}
use Rattle.std.proofs.lemmas.Cmp.{nat_cmp_total, int_cmp_total, on_total, then_total, alike_right, tied_itself}
use Rattle.std.proofs.lemmas.List.{get_or_default}
use Rattle.geom_rect.specs.declared.rect.Rect.{Rect}
use Rattle.geom_rect.specs.Rect.{SharePoint}
use Rattle.grid_pieces.specs.declared.metal.Metal.{Metal}
use Rattle.grid_pieces.specs.declared.touch.Touching.{Touching}
use Rattle.grid_pieces.specs.Touch.{rect_order, touch_order, StandsAt, IsTouch, Finds}
use Rattle.plain_drawing.specs.inside.Least.{IsLeast, IsTouchAt, IsTouchTo, TouchInOrder, lesser}

bool_total : IsTotalOrder bool_cmp
bool_total = record { antisymm = flip; trans = trans; congr = congr }
  where
    flip : (x y : Bool) → bool_cmp x y ≡ ordering_reverse (bool_cmp y x)
    flip false false = refl
    flip false true = refl
    flip true false = refl
    flip true true = refl

    trans : (x y z : Bool) → bool_cmp x y ≡ Less → bool_cmp y z ≡ Less → bool_cmp x z ≡ Less
    trans false false z first second = absurd (cc)
    trans false true z first second = by_last z second
      where
        by_last : (z : Bool) → bool_cmp true z ≡ Less → bool_cmp false z ≡ Less
        by_last false second = absurd (cc)
        by_last true second = refl
    trans true false z first second = absurd (cc)
    trans true true z first second = absurd (cc)

    congr : (x y z : Bool) → bool_cmp x y ≡ Equal → bool_cmp x z ≡ bool_cmp y z
    congr false false z same = refl
    congr false true z same = absurd (cc)
    congr true false z same = absurd (cc)
    congr true true z same = refl

rect_total : IsTotalOrder rect_order
rect_total =
    then_total (then_total (then_total (on_total (λ (r : Rect). r.x1) int_cmp_total) (on_total (λ (r : Rect). r.y1) int_cmp_total)) (on_total (λ (r : Rect). r.x2) int_cmp_total))
    (on_total (λ (r : Rect). r.y2) int_cmp_total)

pub touch_total : IsTotalOrder touch_order
touch_total =
    then_total (then_total (then_total (on_total (λ (t : Touching). t.layer) nat_cmp_total) (on_total (λ (t : Touching). t.first) rect_total)) (on_total (λ (t : Touching). t.second) rect_total))
    (on_total (λ (t : Touching). t.same) bool_total)

-- what does not come after what does not come after a third does not come after it
not_after_then : {K : Type 0} (R : K → K → Ordering) → IsTotalOrder R → (x y z : K) → is_gt (R x y) ≡ false → is_gt (R y z) ≡ false → is_gt (R x z) ≡ false
not_after_then {K} R total x y z first second = by_orders (R x y) refl (R y z) refl
  where
    by_orders : (o : Ordering) → R x y ≡ o → (p : Ordering) → R y z ≡ p → is_gt (R x z) ≡ false
    by_orders Less xy Less yz = ap is_gt (total.trans x y z xy yz)
    by_orders Less xy Equal yz = ap is_gt (sym (alike_right total y z x yz) ∙ xy)
    by_orders Less xy Greater yz = absurd (false≢true (sym second ∙ ap is_gt yz))
    by_orders Equal xy p yz = ap is_gt (total.congr x y z xy) ∙ second
    by_orders Greater xy p yz = absurd (false≢true (sym first ∙ ap is_gt xy))

-- of two the one that comes after does not come before
turned_back : {K : Type 0} (R : K → K → Ordering) → IsTotalOrder R → (x y : K) → is_gt (R x y) ≡ true → is_gt (R y x) ≡ false
turned_back {K} R total x y after = subst (λ o. is_gt o ≡ false) (sym (total.antisymm y x)) (by_order (R x y) after)
  where
    by_order : (o : Ordering) → is_gt o ≡ true → is_gt (ordering_reverse o) ≡ false
    by_order Less h = absurd (false≢true h)
    by_order Equal h = absurd (false≢true h)
    by_order Greater h = refl

-- the lesser of two least ones is the least of all
pub least_joined : (P Q U : Touching → Type 0) (a b : Option Touching) → IsLeast P a → IsLeast Q b → ((t : Touching) → U t → P t ⊎ Q t) → ((t : Touching) → P t → U t) → ((t : Touching) → Q t → U t) → IsLeast U (lesser a b)
least_joined P Q U None None a_none b_none split p_in q_in = λ t is. by_part t (split t is)
  where
    by_part : (t : Touching) → P t ⊎ Q t → ⊥
    by_part t (inl p) = a_none t p
    by_part t (inr q) = b_none t q
least_joined P Q U None (Some u) a_none b_is split p_in q_in = (q_in u b_is.0, λ v is. by_part v (split v is))
  where
    by_part : (v : Touching) → P v ⊎ Q v → is_gt (touch_order u v) ≡ false
    by_part v (inl p) = absurd (a_none v p)
    by_part v (inr q) = b_is.1 v q
least_joined P Q U (Some t) None a_is b_none split p_in q_in = (p_in t a_is.0, λ v is. by_part v (split v is))
  where
    by_part : (v : Touching) → P v ⊎ Q v → is_gt (touch_order t v) ≡ false
    by_part v (inl p) = a_is.1 v p
    by_part v (inr q) = absurd (b_none v q)
least_joined P Q U (Some t) (Some u) a_is b_is split p_in q_in = by_order (is_gt (touch_order t u)) refl
  where
    after : (v : Touching) → is_gt (touch_order t u) ≡ true → P v ⊎ Q v → is_gt (touch_order u v) ≡ false
    after v is (inl p) = not_after_then touch_order touch_total u t v (turned_back touch_order touch_total t u is) (a_is.1 v p)
    after v is (inr q) = b_is.1 v q

    before : (v : Touching) → is_gt (touch_order t u) ≡ false → P v ⊎ Q v → is_gt (touch_order t v) ≡ false
    before v is (inl p) = a_is.1 v p
    before v is (inr q) = not_after_then touch_order touch_total t u v is (b_is.1 v q)

    by_order : (o : Bool) → is_gt (touch_order t u) ≡ o → IsLeast U (if o then Some u else Some t)
    by_order true is = (q_in u b_is.0, λ v in_all. after v is (split v in_all))
    by_order false is = (p_in t a_is.0, λ v in_all. before v is (split v in_all))

pub least_same : (P Q : Touching → Type 0) (a : Option Touching) → ((t : Touching) → P t ↔ Q t) → IsLeast P a → IsLeast Q a
least_same P Q None same none = λ t is. none t ((same t).1 is)
least_same P Q (Some t) same is = ((same t).0 is.0, λ u u_is. is.1 u ((same u).1 u_is))

-- no pair comes before the first
pub none_before : (all : List Metal) → IsLeast (IsTouchTo all 0 0) None
none_before all t (w, inl less) = absurd (omega arith)
none_before all t (w, inr less) = absurd (omega (arith, less.1))

-- one more place beside the same one
pub one_more : (all : List Metal) (i j : ℕ) (a b : Option Touching) → IsLeast (IsTouchTo all i j) a → IsLeast (IsTouchAt all i j) b → IsLeast (IsTouchTo all i (j + 1)) (lesser a b)
one_more all i j a b a_is b_is = least_joined (IsTouchTo all i j) (IsTouchAt all i j) (IsTouchTo all i (j + 1)) a b a_is b_is split p_in q_in
  where
    at_i : (t : Touching) (w : IsTouch all t) → w.i ≡ i → (w.j < j) ⊎ (j ≤ w.j) → w.j < j + 1 → IsTouchTo all i j t ⊎ IsTouchAt all i j t
    at_i t w i_is (inl less) below = inl (w, inr (i_is, less))
    at_i t w i_is (inr high) below = inr (w, i_is, omega arith)

    split : (t : Touching) → IsTouchTo all i (j + 1) t → IsTouchTo all i j t ⊎ IsTouchAt all i j t
    split t (w, inl less) = inl (w, inl less)
    split t (w, inr both) = at_i t w both.0 (cases_lt w.j j) both.1

    p_in : (t : Touching) → IsTouchTo all i j t → IsTouchTo all i (j + 1) t
    p_in t (w, inl less) = (w, inl less)
    p_in t (w, inr both) = (w, inr (both.0, omega (arith, both.1)))

    q_in : (t : Touching) → IsTouchAt all i j t → IsTouchTo all i (j + 1) t
    q_in t (w, i_is, j_is) = (w, inr (i_is, omega (arith, j_is)))

-- all places beside one
pub one_done : (all : List Metal) (i j : ℕ) (a : Option Touching) → length all ≤ j → IsLeast (IsTouchTo all i j) a → IsLeast (IsTouchTo all (i + 1) 0) a
one_done all i j a past is = least_same (IsTouchTo all i j) (IsTouchTo all (i + 1) 0) a (λ t. (there t, back t)) is
  where
    there : (t : Touching) → IsTouchTo all i j t → IsTouchTo all (i + 1) 0 t
    there t (w, inl less) = (w, inl (omega arith))
    there t (w, inr both) = (w, inl (omega (arith, both.0)))

    by_place : (t : Touching) (w : IsTouch all t) → (w.i < i) ⊎ (i ≤ w.i) → w.i < i + 1 → IsTouchTo all i j t
    by_place t w (inl less) below = (w, inl less)
    by_place t w (inr high) below = (w, inr (omega arith, omega (arith, w.at_j.0)))

    back : (t : Touching) → IsTouchTo all (i + 1) 0 t → IsTouchTo all i j t
    back t (w, inl less) = by_place t w (cases_lt w.i i) less
    back t (w, inr both) = absurd (omega (arith, both.1))

-- all pairs
pub finds : (all : List Metal) (n : ℕ) (a : Option Touching) → length all ≤ n → IsLeast (IsTouchTo all n 0) a → Finds all a
finds all n None past none = λ t w. none t (w, inl (omega (arith, w.at_i.0)))
finds all n (Some t) past is = record { is = is.0.0; first = λ u w. is.1 u (w, inl (omega (arith, w.at_i.0))) }

-- what stands at a place
at : (all : List Metal) (k i : ℕ) (m d : Metal) → StandsAt all k m → k ≡ i → m ≡ get_or all i d
at all k i m d stands same = sym stands.1 ∙ get_or_default all k m d stands.0 ∙ ap (λ n. get_or all n d) same

-- two places without a touch
pub no_touch : (all : List Metal) (i j : ℕ) (d : Metal) → i < length all → j < length all → (TouchInOrder (get_or all i d) (get_or all j d) → i ≡ j) → IsLeast (IsTouchAt all i j) None
no_touch all i j d in_i in_j none t (w, i_is, j_is) =
    let one = get_or all i d in
    let other = get_or all j d in
    let a : w.one ≡ one = at all w.i i w.one d w.at_i i_is in
    let b : w.other ≡ other = at all w.j j w.other d w.at_j j_is in
    let first : t.first ≡ one.rect = w.first ∙ ap (λ (m : Metal). m.rect) a in
    let second : t.second ≡ other.rect = w.second ∙ ap (λ (m : Metal). m.rect) b in
    let layer : one.layer ≡ other.layer = sym (ap (λ (m : Metal). m.layer) a) ∙ w.on_layer.0 ∙ sym w.on_layer.1 ∙ ap (λ (m : Metal). m.layer) b in
    let meet : SharePoint one.rect other.rect = subst (λ (m : Metal). SharePoint m.rect other.rect) a (subst (λ (m : Metal). SharePoint w.one.rect m.rect) b w.meet) in
    let lesser : is_gt (rect_order one.rect other.rect) ≡ false =
    subst (λ r. is_gt (rect_order r other.rect) ≡ false) first (subst (λ r. is_gt (rect_order t.first r) ≡ false) second w.lesser) in
    w.differ (i_is ∙ none (layer, meet, lesser) ∙ sym j_is)

one_answer : (a b : Bool) → (IsTrue a → IsTrue b) → (IsTrue b → IsTrue a) → a ≡ b
one_answer true b there back = sym (there refl)
one_answer false true there back = back refl
one_answer false false there back = refl

-- two places with one
pub the_touch : (all : List Metal) (i j : ℕ) (d : Metal) (t : Touching) → i < length all → j < length all → (i ≡ j → ⊥) → TouchInOrder (get_or all i d) (get_or all j d) → t.layer ≡ (get_or all i d).layer
    → t.first ≡ (get_or all i d).rect → t.second ≡ (get_or all j d).rect → IsTrue t.same ↔ ((get_or all i d).net ≡ (get_or all j d).net) → IsLeast (IsTouchAt all i j) (Some t)
the_touch all i j d t in_i in_j differ touch layer_is first_is second_is nets = ((is_touch, refl, refl), least)
  where
    is_touch : IsTouch all t
    is_touch = record {
      i = i;
      j = j;
      differ = differ;
      one = get_or all i d;
      other = get_or all j d;
      at_i = (in_i, get_or_default all i (get_or all i d) d in_i);
      at_j = (in_j, get_or_default all j (get_or all j d) d in_j);
      on_layer = (sym layer_is, sym touch.0 ∙ sym layer_is);
      meet = touch.1;
      first = first_is;
      second = second_is;
      lesser = subst (λ r. is_gt (rect_order r t.second) ≡ false) (sym first_is) (subst (λ r. is_gt (rect_order (get_or all i d).rect r) ≡ false) (sym second_is) touch.2);
      same = nets;
    }

    least : (u : Touching) → IsTouchAt all i j u → is_gt (touch_order t u) ≡ false
    least u (w, i_is, j_is) =
        let a : w.one ≡ get_or all i d = at all w.i i w.one d w.at_i i_is in
        let b : w.other ≡ get_or all j d = at all w.j j w.other d w.at_j j_is in
        let on : t.layer ≡ u.layer = layer_is ∙ sym (ap (λ (m : Metal). m.layer) a) ∙ w.on_layer.0 in
        let first : t.first ≡ u.first = first_is ∙ sym (w.first ∙ ap (λ (m : Metal). m.rect) a) in
        let second : t.second ≡ u.second = second_is ∙ sym (w.second ∙ ap (λ (m : Metal). m.rect) b) in
        let net_a = ap (λ (m : Metal). m.net) a in
        let net_b = ap (λ (m : Metal). m.net) b in
        let alike : t.same ≡ u.same = one_answer t.same u.same (λ yes. w.same.1 (net_a ∙ nets.0 yes ∙ sym net_b)) (λ yes. nets.1 (sym net_a ∙ w.same.0 yes ∙ net_b)) in
        let is : t ≡ u = λ k. record { layer = on k; first = first k; second = second k; same = alike k } in
        subst (λ v. is_gt (touch_order t v) ≡ false) is (ap is_gt (tied_itself touch_total t))
