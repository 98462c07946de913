-- The sweep: open metal is taken out and put in.
use Rattle.std.proofs.Common.{◌≡◌, ℕ, ◌+◌, ◌<◌, ◌≤◌, ◌⊎◌, inl, inr, ℤ, ◌<ℤ◌, ◌≤ℤ◌, false, Ordering, Option, Some, None, List, length, get_or, min, pos, subst, refl, sym, ap, ◌∙◌, arith, rules}
use Rattle.std.specs.BTreeMap.{BTreeMap, get}
use Rattle.std.specs.Int.{int_max}
use Rattle.std.specs.Option.{IsSome}
use Rattle.std.specs.Ordering.{int_cmp, is_eq}
use Rattle.std.proofs.lemmas.List.{get_or_default}
use Rattle.std.specs.declared.cmp.Ordering.TheVariants.{Less, Equal, Greater}
use Rattle.std.proofs.lemmas.Bool.{cases_lt}
use Rattle.std.proofs.lemmas.Int.{ints, clamps, by_lt_z}
use Rattle.geom_rect.specs.declared.rect.Rect.{Rect}
use Rattle.geom_rect.specs.Rect.{IsInOrder, SharePoint}
use Rattle.grid_pieces.specs.declared.metal.Metal.{Metal}
use Rattle.grid_pieces.specs.inside.Sweep.{Touch, Beside, IsSwept, Has, AreOpen, AreKept, IsFound, NoneBefore, IsSweptTo, NoneBeside, IsBeside, IsLastUpTo}
use Rattle.grid_pieces.specs.Laws.Orders.{int_equal}

pub cases_z : (a b : ℤ) → (a ≡ b) ⊎ (a ≡ b → ⊥)
cases_z a b =
    by_lt_z a b (λ less. inr (λ same. omega (arith, ints))) (λ not_less. by_lt_z b a (λ less. inr (λ same. omega (arith, ints))) (λ not_more. inl (omega (arith, ints))))

-- an edge has one place
same_place : (lying : BTreeMap ℤ ℕ) (edge : ℤ) (i j : ℕ) → Has lying edge i → Has lying edge j → i ≡ j
same_place lying edge i j has_i has_j = let e = sym has_i ∙ has_j in cc

-- two rectangles in order share a point exactly where neither lies beyond the other
pub meet_from : (a b : Rect) → IsInOrder a → IsInOrder b → a.x1 ≤ℤ b.x2 → b.x1 ≤ℤ a.x2 → a.y1 ≤ℤ b.y2 → b.y1 ≤ℤ a.y2 → SharePoint a b
meet_from a b in_a in_b left right low high =
    let ax = in_a.0 in let ay = in_a.1 in let bx = in_b.0 in let by_ = in_b.1 in (
      int_max a.x1 b.x1,
      int_max a.y1 b.y1,
      (
        ((omega (arith, ints, clamps), omega (arith, ints, clamps)), (omega (arith, ints, clamps), omega (arith, ints, clamps))),
        ((omega (arith, ints, clamps), omega (arith, ints, clamps)), (omega (arith, ints, clamps), omega (arith, ints, clamps))),
      ),
    )

pub meet_gives : (a b : Rect) → SharePoint a b → (a.x1 ≤ℤ b.x2) × (b.x1 ≤ℤ a.x2) × (a.y1 ≤ℤ b.y2) × (b.y1 ≤ℤ a.y2)
meet_gives a b w =
    let in_a = w.2.0 in let in_b = w.2.1 in
    let ax = in_a.0 in let ay = in_a.1 in let bx = in_b.0 in let by_ = in_b.1 in
    (omega (arith, ints), omega (arith, ints), omega (arith, ints), omega (arith, ints))

-- metal that lies beside the next and does not touch it touches none from there on
pub passed : (all : List Metal) (place at j : ℕ) (d : Metal) → IsSwept all → place < at → at ≤ j → j < length all → Beside (get_or all place d) (get_or all at d)
    → (Touch (get_or all place d) (get_or all at d) → ⊥) → Touch (get_or all place d) (get_or all j d) → ⊥
passed all place at j d swept before upto within beside not_now later =
    let a = get_or all place d in
    let b = get_or all at d in
    let e = get_or all j d in
    let low : a.layer ≤ b.layer = swept.layers place at d (omega arith) (omega arith) in
    let high : b.layer ≤ e.layer = swept.layers at j d upto within in
    let here : a.layer ≡ e.layer = later.0 in
    let layer : a.layer ≡ b.layer = omega arith in
    let next : b.layer ≡ e.layer = omega arith in
    let left : a.rect.x1 ≤ℤ b.rect.x1 = swept.lefts place at d (omega arith) (omega arith) layer in
    let right : b.rect.x1 ≤ℤ e.rect.x1 = swept.lefts at j d upto within next in
    let meets = meet_gives a.rect e.rect later.1 in
    let reach : e.rect.x1 ≤ℤ a.rect.x2 = meets.1 in
    let in_a = swept.upright place d (omega arith) in
    let in_b = swept.upright at d (omega arith) in
    let wide : b.rect.x1 ≤ℤ b.rect.x2 = in_b.0 in
    not_now (layer, meet_from a.rect b.rect in_a in_b (omega (arith, ints)) (omega (arith, ints)) beside.0 beside.1)

-- one edge is taken out
pub record IsRemoved (old new : BTreeMap ℤ ℕ) (edge : ℤ) : Type 0 where
  pub gone : get int_cmp new edge ≡ None
  pub others : (q : ℤ) → (q ≡ edge → ⊥) → get int_cmp new q ≡ get int_cmp old q

pub not_at : (edge q : ℤ) → (q ≡ edge → ⊥) → is_eq (int_cmp edge q) ≡ false
not_at edge q differ = by_order (int_cmp edge q) refl
  where
    by_order : (o : Ordering) → int_cmp edge q ≡ o → is_eq o ≡ false
    by_order Less _ = refl
    by_order Equal same = absurd (differ (sym (int_equal edge q same)))
    by_order Greater _ = refl

was : (old new : BTreeMap ℤ ℕ) (edge q : ℤ) (i : ℕ) → IsRemoved old new edge → Has new q i → Has old q i
was old new edge q i removed has = by_edge (cases_z q edge)
  where
    by_edge : (q ≡ edge) ⊎ (q ≡ edge → ⊥) → Has old q i
    by_edge (inl same) = let gone : None ≡ Some i = sym removed.gone ∙ subst (λ (z : ℤ). get int_cmp new z ≡ Some i) same has in absurd (cc)
    by_edge (inr differ) = sym (removed.others q differ) ∙ has

are_removed : (all : List Metal) (old new : BTreeMap ℤ ℕ) (edge : ℤ) (at : ℕ) → AreOpen all old at → IsRemoved old new edge → AreOpen all new at
are_removed all old new edge at are removed = record {
  places = λ q i has. are.places q i (was old new edge q i removed has);
  edges = λ q i d has. are.edges q i d (was old new edge q i removed has);
  apart = λ q n i j d has other less. are.apart q n i j d (was old new edge q i removed has) (was old new edge n j removed other) less;
}

-- what is kept while one that lies beside the next is taken out, where it is no more asked for or touches none from here on
kept_removed : (all : List Metal) (old new : BTreeMap ℤ ℕ) (edge : ℤ) (place first less at : ℕ) → AreKept all old first at → IsRemoved old new edge → Has old edge place → less ≤ first
    → ((place < less → ⊥) ⊎ ((j : ℕ) (d : Metal) → at ≤ j → j < length all → Touch (get_or all place d) (get_or all j d) → ⊥)) → AreKept all new less at
kept_removed all old new edge place first less at kept removed has fewer gone i d before below = by_kept (kept i d before (omega arith))
  where
    Ends : Type 0
    Ends = (j : ℕ) → at ≤ j → j < length all → Touch (get_or all i d) (get_or all j d) → ⊥

    by_gone : i ≡ place → (place < less → ⊥) ⊎ ((j : ℕ) (d : Metal) → at ≤ j → j < length all → Touch (get_or all place d) (get_or all j d) → ⊥) → Ends
    by_gone is (inl not_asked) = absurd (not_asked (omega arith))
    by_gone is (inr ends) = λ j upto within touch. ends j d upto within (subst (λ n. Touch (get_or all n d) (get_or all j d)) is touch)

    by_edge : Has old (get_or all i d).rect.y1 i → ((get_or all i d).rect.y1 ≡ edge) ⊎ ((get_or all i d).rect.y1 ≡ edge → ⊥) → Has new (get_or all i d).rect.y1 i ⊎ Ends
    by_edge lies (inl same) = inr (by_gone (same_place old edge i place (subst (λ (z : ℤ). get int_cmp old z ≡ Some i) same lies) has) gone)
    by_edge lies (inr differ) = inl (removed.others (get_or all i d).rect.y1 differ ∙ lies)

    by_kept : Has old (get_or all i d).rect.y1 i ⊎ Ends → Has new (get_or all i d).rect.y1 i ⊎ Ends
    by_kept (inl lies) = by_edge lies (cases_z (get_or all i d).rect.y1 edge)
    by_kept (inr ends) = inr ends

-- one that touches is taken out
pub taken : (all : List Metal) (old new : BTreeMap ℤ ℕ) (edge : ℤ) (place first less at : ℕ) → IsSweptTo all old first at → IsRemoved old new edge → IsBeside all old at edge place → at < length all
    → less ≡ min first place → ((d : Metal) → Touch (get_or all place d) (get_or all at d)) → IsSweptTo all new less at
taken all old new edge place first less at state removed beside within is touches = record {
  are = are_removed all old new edge at state.are removed;
  kept = kept_removed all old new edge place first less at state.kept removed beside.is (omega arith) (inl (λ below. omega arith));
  none = λ i j d before upto below. state.none i j d before upto (omega arith);
  found = by_least (cases_lt place first);
}
  where
    before_at : place < at
    before_at = state.are.places edge place beside.is

    kept_found : first ≤ place → IsFound all first at → IsFound all first at
    kept_found le found = found

    by_least : (place < first) ⊎ (first ≤ place) → IsFound all less at
    by_least (inl below) =
        let same : less ≡ place = omega arith in
        subst (λ n. IsFound all n at) (sym same) (inr (at, before_at, before_at, within, touches))
    by_least (inr not_below) =
        let same : less ≡ first = omega arith in
        subst (λ n. IsFound all n at) (sym same) state.found

-- one that does not touch is taken out
pub dropped : (all : List Metal) (old new : BTreeMap ℤ ℕ) (edge : ℤ) (place first at : ℕ) → IsSwept all → IsSweptTo all old first at → IsRemoved old new edge → IsBeside all old at edge place → at < length all
    → ((d : Metal) → Touch (get_or all place d) (get_or all at d) → ⊥) → IsSweptTo all new first at
dropped all old new edge place first at swept state removed beside within apart = record {
  are = are_removed all old new edge at state.are removed;
  kept = kept_removed all old new edge place first first at state.kept removed beside.is (omega arith)
      (inr (λ j d upto in_list. passed all place at j d swept (state.are.places edge place beside.is) upto in_list (beside.beside d) (apart d)));
  none = state.none;
  found = state.found;
}

-- what is known behind the metal at `at`, apart from the open metal
none_more : (all : List Metal) (lying : BTreeMap ℤ ℕ) (first at : ℕ) → IsSweptTo all lying first at → NoneBeside all lying at → at < length all → NoneBefore all first (at + 1)
none_more all lying first at state clear within i j d before upto below touch = by_place (cases_lt j at)
  where
    by_kept : j ≡ at → Has lying (get_or all i d).rect.y1 i ⊎ ((k : ℕ) → at ≤ k → k < length all → Touch (get_or all i d) (get_or all k d) → ⊥) → ⊥
    by_kept is (inl lies) =
        let meets = meet_gives (get_or all i d).rect (get_or all j d).rect touch.1 in
        clear (get_or all i d).rect.y1 i d lies (subst (λ n. Beside (get_or all i d) (get_or all n d)) is (meets.2, meets.3))
    by_kept is (inr ends) = ends j (omega arith) (omega arith) touch

    by_place : (j < at) ⊎ (at ≤ j) → ⊥
    by_place (inl earlier) = state.none i j d before earlier below touch
    by_place (inr not_earlier) = by_kept (omega arith) (state.kept i d (omega arith) below)

found_more : (all : List Metal) (first at : ℕ) → IsFound all first at → IsFound all first (at + 1)
found_more all first at (inl none) = inl none
found_more all first at (inr w) = inr (w.0, omega (arith, w.1), w.2, w.3, w.4)

-- with a touch found, nothing is put in
pub seen : (all : List Metal) (lying : BTreeMap ℤ ℕ) (first at : ℕ) → IsSweptTo all lying first at → NoneBeside all lying at → at < length all → (first ≡ length all → ⊥) → IsSweptTo all lying first (at + 1)
seen all lying first at state clear within some = record {
  are = record {
    places = λ q i has. omega (arith, state.are.places q i has);
    edges = state.are.edges;
    apart = state.are.apart;
  };
  kept = λ i d before below. later i d (state.kept i d (early i before below state.found) below);
  none = none_more all lying first at state clear within;
  found = found_more all first at state.found;
}
  where
    early : (i : ℕ) → i < at + 1 → i < first → IsFound all first at → i < at
    early i before below (inl none) = absurd (some none)
    early i before below (inr w) = omega (arith, w.1)

    later : (i : ℕ) (d : Metal) → Has lying (get_or all i d).rect.y1 i ⊎ ((k : ℕ) → at ≤ k → k < length all → Touch (get_or all i d) (get_or all k d) → ⊥)
        → Has lying (get_or all i d).rect.y1 i ⊎ ((k : ℕ) → at + 1 ≤ k → k < length all → Touch (get_or all i d) (get_or all k d) → ⊥)
    later i d (inl lies) = inl lies
    later i d (inr ends) = inr (λ k upto. ends k (omega arith))

-- one edge is put in
pub record IsPutIn (old new : BTreeMap ℤ ℕ) (edge : ℤ) (place : ℕ) : Type 0 where
  pub there : Has new edge place
  pub others : (q : ℤ) → (q ≡ edge → ⊥) → get int_cmp new q ≡ get int_cmp old q

-- without a touch, the metal itself is put in
pub put_in : (all : List Metal) (old new : BTreeMap ℤ ℕ) (first at : ℕ) → IsSwept all → IsSweptTo all old first at → NoneBeside all old at → at < length all
    → ((d : Metal) → IsPutIn old new (get_or all at d).rect.y1 at) → IsSweptTo all new first (at + 1)
put_in all old new first at swept state clear within puts = record {
  are = record {
    places = λ q i has. places q i has;
    edges = edges;
    apart = apart;
  };
  kept = kept;
  none = none_more all old first at state clear within;
  found = found_more all first at state.found;
}
  where
    -- an edge of the new open metal is that of the one put in, or an old one
    split : (d : Metal) (q : ℤ) (i : ℕ) → Has new q i → ((q ≡ (get_or all at d).rect.y1) × (i ≡ at)) ⊎ Has old q i
    split d q i has = by_edge (cases_z q (get_or all at d).rect.y1)
      where
        by_edge : (q ≡ (get_or all at d).rect.y1) ⊎ (q ≡ (get_or all at d).rect.y1 → ⊥) → ((q ≡ (get_or all at d).rect.y1) × (i ≡ at)) ⊎ Has old q i
        by_edge (inl same) = inl (same, same_place new (get_or all at d).rect.y1 i at (subst (λ (z : ℤ). get int_cmp new z ≡ Some i) same has) (puts d).there)
        by_edge (inr differ) = inr (sym ((puts d).others q differ) ∙ has)

    nothing : Metal
    nothing = get_or all at (record { layer = 0; rect = record { x1 = pos 0; y1 = pos 0; x2 = pos 0; y2 = pos 0 }; net = 0 })

    places : (q : ℤ) (i : ℕ) → Has new q i → i < at + 1
    places q i has = by_split (split nothing q i has)
      where
        by_split : ((q ≡ (get_or all at nothing).rect.y1) × (i ≡ at)) ⊎ Has old q i → i < at + 1
        by_split (inl w) = omega (arith, w.1)
        by_split (inr lies) = omega (arith, state.are.places q i lies)

    edges : (q : ℤ) (i : ℕ) (d : Metal) → Has new q i → (get_or all i d).rect.y1 ≡ q
    edges q i d has = by_split (split d q i has)
      where
        by_split : ((q ≡ (get_or all at d).rect.y1) × (i ≡ at)) ⊎ Has old q i → (get_or all i d).rect.y1 ≡ q
        by_split (inl w) = ap (λ n. (get_or all n d).rect.y1) w.1 ∙ sym w.0
        by_split (inr lies) = state.are.edges q i d lies

    -- old open metal lies below or above the one put in
    aside : (q : ℤ) (i : ℕ) (d : Metal) → Has old q i → ((get_or all i d).rect.y2 <ℤ (get_or all at d).rect.y1) ⊎ ((get_or all at d).rect.y2 <ℤ q)
    aside q i d lies =
        let edge : (get_or all i d).rect.y1 ≡ q = state.are.edges q i d lies in
        by_lt_z (get_or all i d).rect.y2 (get_or all at d).rect.y1 (λ below. inl below)
        (λ not_below. by_lt_z (get_or all at d).rect.y2 q (λ above. inr above)
        (λ not_above. absurd (clear q i d lies (omega (arith, ints), omega (arith, ints)))))

    apart : (q n : ℤ) (i j : ℕ) (d : Metal) → Has new q i → Has new n j → q <ℤ n → (get_or all i d).rect.y2 <ℤ n
    apart q n i j d has other less = by_split (split d q i has) (split d n j other)
      where
        high : (get_or all at d).rect.y1 ≤ℤ (get_or all at d).rect.y2
        high = (swept.upright at d within).1

        by_split : ((q ≡ (get_or all at d).rect.y1) × (i ≡ at)) ⊎ Has old q i → ((n ≡ (get_or all at d).rect.y1) × (j ≡ at)) ⊎ Has old n j → (get_or all i d).rect.y2 <ℤ n
        by_split (inl v) (inl w) = let a = v.0 in let b = w.0 in absurd (omega (arith, ints))
        by_split (inl v) (inr w) =
            let here : (get_or all at d).rect.y2 <ℤ n = above (aside n j d w) in
            subst (λ k. (get_or all k d).rect.y2 <ℤ n) (sym v.1) here
          where
            above : ((get_or all j d).rect.y2 <ℤ (get_or all at d).rect.y1) ⊎ ((get_or all at d).rect.y2 <ℤ n) → (get_or all at d).rect.y2 <ℤ n
            above (inl low) =
                let edge : (get_or all j d).rect.y1 ≡ n = state.are.edges n j d w in
                let tall : (get_or all j d).rect.y1 ≤ℤ (get_or all j d).rect.y2 = (swept.upright j d (omega (arith, state.are.places n j w))).1 in
                let at_edge = v.0 in
                absurd (omega (arith, ints))
            above (inr far) = far
        by_split (inr v) (inl w) = below (aside q i d v)
          where
            below : ((get_or all i d).rect.y2 <ℤ (get_or all at d).rect.y1) ⊎ ((get_or all at d).rect.y2 <ℤ q) → (get_or all i d).rect.y2 <ℤ n
            below (inl low) = let at_edge = w.0 in omega (arith, ints)
            below (inr far) = let at_edge = w.0 in let tall = high in absurd (omega (arith, ints))
        by_split (inr v) (inr w) = state.are.apart q n i j d v w less

    kept : AreKept all new first (at + 1)
    kept i d before below = by_place (cases_lt i at)
      where
        Ends : Type 0
        Ends = (k : ℕ) → at + 1 ≤ k → k < length all → Touch (get_or all i d) (get_or all k d) → ⊥

        by_edge : Has old (get_or all i d).rect.y1 i → ((get_or all i d).rect.y1 ≡ (get_or all at d).rect.y1) ⊎ ((get_or all i d).rect.y1 ≡ (get_or all at d).rect.y1 → ⊥) → Has new (get_or all i d).rect.y1 i
        by_edge lies (inl same) =
            let tall : (get_or all i d).rect.y1 ≤ℤ (get_or all i d).rect.y2 = (swept.upright i d (omega (arith, state.are.places (get_or all i d).rect.y1 i lies))).1 in
            let high : (get_or all at d).rect.y1 ≤ℤ (get_or all at d).rect.y2 = (swept.upright at d within).1 in
            absurd (clear (get_or all i d).rect.y1 i d lies (omega (arith, ints), omega (arith, ints)))
        by_edge lies (inr differ) = (puts d).others (get_or all i d).rect.y1 differ ∙ lies

        by_kept : Has old (get_or all i d).rect.y1 i ⊎ ((k : ℕ) → at ≤ k → k < length all → Touch (get_or all i d) (get_or all k d) → ⊥) → Has new (get_or all i d).rect.y1 i ⊎ Ends
        by_kept (inl lies) = inl (by_edge lies (cases_z (get_or all i d).rect.y1 (get_or all at d).rect.y1))
        by_kept (inr ends) = inr (λ k upto. ends k (omega arith))

        by_place : (i < at) ⊎ (at ≤ i) → Has new (get_or all i d).rect.y1 i ⊎ Ends
        by_place (inl earlier) = by_kept (state.kept i d earlier below)
        by_place (inr not_earlier) =
            let same : at ≡ i = omega arith in
            inl (subst (λ n. Has new (get_or all n d).rect.y1 n) same (puts d).there)

pub is_there : (o : Option ℕ) (place : ℕ) → o ≡ Some place → IsSome o
is_there o place is = subst IsSome (sym is) (search rules)

pub touch_any : (all : List Metal) (i j : ℕ) (d e : Metal) → i < length all → j < length all → Touch (get_or all i d) (get_or all j d) → Touch (get_or all i e) (get_or all j e)
touch_any all i j d e in_i in_j touch =
    subst (λ m. Touch m (get_or all j e)) (get_or_default all i d e in_i) (subst (λ m. Touch (get_or all i d) m) (get_or_default all j d e in_j) touch)

-- where the last that begins by its upper edge ends below it, no open metal lies beside it
pub none_beside : (all : List Metal) (lying : BTreeMap ℤ ℕ) (at : ℕ) (edge : ℤ) (place : ℕ) (d : Metal) → IsSwept all → AreOpen all lying at → at < length all
    → IsLastUpTo lying (get_or all at d).rect.y2 (edge, place) → (get_or all place d).rect.y2 <ℤ (get_or all at d).rect.y1 → NoneBeside all lying at
none_beside all lying at edge place d swept are within last below e p f has beside = by_edge (cases_z e edge)
  where
    in_p : p < length all
    in_p = omega (arith, are.places e p has)

    at_f : get_or all at f ≡ get_or all at d
    at_f = get_or_default all at f d within

    begins : (get_or all p f).rect.y1 ≡ e
    begins = are.edges e p f has

    under : (get_or all p f).rect.y1 ≤ℤ (get_or all at d).rect.y2
    under = subst (λ (m : Metal). (get_or all p f).rect.y1 ≤ℤ m.rect.y2) at_f beside.0

    over : (get_or all at d).rect.y1 ≤ℤ (get_or all p f).rect.y2
    over = subst (λ (m : Metal). m.rect.y1 ≤ℤ (get_or all p f).rect.y2) at_f beside.1

    by_edge : (e ≡ edge) ⊎ (e ≡ edge → ⊥) → ⊥
    by_edge (inl same) =
        let one : p ≡ place = same_place lying edge p place (subst (λ (z : ℤ). get int_cmp lying z ≡ Some p) same has) last.is in
        let there : get_or all p f ≡ get_or all place d = get_or_default all p f d in_p ∙ ap (λ n. get_or all n d) one in
        let high : (get_or all at d).rect.y1 ≤ℤ (get_or all place d).rect.y2 = subst (λ (m : Metal). (get_or all at d).rect.y1 ≤ℤ m.rect.y2) there over in
        omega (arith, ints)
    by_edge (inr differ) =
        let by_ = last.none_later e p has (omega (arith, ints, begins, under)) in
        let apart : (get_or all p d).rect.y2 <ℤ edge = are.apart e edge p place d has last.is (strict e edge by_ differ) in
        let there : get_or all p f ≡ get_or all p d = get_or_default all p f d in_p in
        let high : (get_or all at d).rect.y1 ≤ℤ (get_or all p d).rect.y2 = subst (λ (m : Metal). (get_or all at d).rect.y1 ≤ℤ m.rect.y2) there over in
        let at_edge : (get_or all place d).rect.y1 ≡ edge = are.edges edge place d last.is in
        let tall : (get_or all place d).rect.y1 ≤ℤ (get_or all place d).rect.y2 = (swept.upright place d (omega (arith, are.places edge place last.is))).1 in
        omega (arith, ints)
      where
        strict : (a b : ℤ) → a ≤ℤ b → (a ≡ b → ⊥) → a <ℤ b
        strict a b le ne = by_lt_z a b (λ less. less) (λ ge. absurd (ne (omega (arith, ints))))

-- else it does
pub it_beside : (all : List Metal) (lying : BTreeMap ℤ ℕ) (at : ℕ) (edge : ℤ) (place : ℕ) (d : Metal) → AreOpen all lying at → at < length all
    → IsLastUpTo lying (get_or all at d).rect.y2 (edge, place) → (get_or all at d).rect.y1 ≤ℤ (get_or all place d).rect.y2 → IsBeside all lying at edge place
it_beside all lying at edge place d are within last over = record {
  is = last.is;
  beside = λ f.
      let begins : (get_or all place d).rect.y1 ≡ edge = are.edges edge place d last.is in
      let by_ = last.by_edge in
      let under : (get_or all place d).rect.y1 ≤ℤ (get_or all at d).rect.y2 = omega (arith, ints) in
      subst (λ m. Beside m (get_or all at f)) (get_or_default all place d f (omega (arith, are.places edge place last.is)))
      (subst (λ m. Beside (get_or all place d) m) (get_or_default all at d f within) (under, over));
}

pub none_after : (all : List Metal) (lying : BTreeMap ℤ ℕ) (at : ℕ) (d : Metal) → AreOpen all lying at → at < length all
    → ((other : ℤ) (place : ℕ) → Has lying other place → (get_or all at d).rect.y2 <ℤ other) → NoneBeside all lying at
none_after all lying at d are within later e p f has beside =
    let far = later e p has in
    let begins = are.edges e p f has in
    let under : (get_or all p f).rect.y1 ≤ℤ (get_or all at d).rect.y2 = subst (λ (m : Metal). (get_or all p f).rect.y1 ≤ℤ m.rect.y2) (get_or_default all at f d within) beside.0 in
    omega (arith, ints)
