-- The search of levels: what a node that is put changes, how the front goes on, and what is told when the queue is done.
use Rattle.std.proofs.Common.{◌≡◌, ◌≢◌, ◌∙◌, ◌⊎◌, inl, inr, ℕ, zero, suc, ◌+◌, ◌<◌, ◌≤◌, refl, sym, ap, subst, arith, List, [], ◌∷◌, length, get_or, set, Option, Some, None, Bool, true, false, is_some, cond, ◌||◌, eqb, eqb-true, eq-eqb, All}
use Rattle.std.proofs.lemmas.Bool.{cases_eq, cases_lt}
use Rattle.std.proofs.lemmas.Option.{none-some}
use Rattle.std.proofs.lemmas.List.{get_or-set_same, get_or-set_other, length-set, get_or_default, get_or_past}
use Rattle.std.proofs.lemmas.List.Sums.{sum_by-set}
use Rattle.grid_net.specs.declared.part.Resistor.{Resistor}
use Rattle.grid_net.specs.Network.{Network, stands_at, other_end, places_from, places_at}
use Rattle.grid_net.specs.Laws.Flows.{each_place}
use Rattle.grid_net.specs.Level.{AreJoined, IsWithin, LevelIs}
use Rattle.grid_net.specs.inside.Level.{told, queued, one_if_none, unmet, IsPut, IsSearch, IsGrown, IsFront, HasPads}
use Rattle.grid_net.specs.Level.{IsSupplied}

some_same : (x y : ℕ) → ◌≡◌ {A = Option ℕ} (Some x) (Some y) → x ≡ y
some_same x y e = cc

-- What is told of is in the list.
pub told_in : (levels : List (Option ℕ)) (i m : ℕ) → told levels i ≡ Some m → i < length levels
told_in levels i m h = elim (cases_lt i (length levels)) [
  | inl in_list ↦ in_list
  | inr beyond ↦ absurd (none-some m (sym (get_or_past levels i None beyond) ∙ h))
]

carried : (P : List (Option ℕ) → List ℕ → ℕ → Type 0) (a x : List (Option ℕ)) (b y : List ℕ) (c z : ℕ) → x ≡ a → y ≡ b → z ≡ c → P a b c → P x y z
carried P a x b y c z e f g h = subst (λ (v : List (Option ℕ)). P v y z) (sym e) (subst (λ (v : List ℕ). P a v z) (sym f) (subst (λ (v : ℕ). P a b v) (sym g) h))

-- ---- a node is put
module _ (net : Network) (node level : ℕ) (old : List (Option ℕ)) (q : List ℕ) (tail : ℕ) (s : IsSearch net old q tail) (node_in : node < net.nodes) (none : told old node ≡ None) where
  abbrev new : List (Option ℕ)
  new = set old node (Some level)

  abbrev qnew : List ℕ
  qnew = set q tail node

  here : node < length old
  here = omega (arith, node_in, s.size)

  one_less : unmet new + 1 ≡ unmet old
  one_less =
      let a = sum_by-set one_if_none old node (Some level) None here in
      let b = ap one_if_none none in
      omega (arith, a, b)

  tail_in : tail < length q
  tail_in = omega (arith, one_less, s.count, s.room)

  at_node : told new node ≡ Some level
  at_node = get_or-set_same old node (Some level) None here

  at_other : (i : ℕ) → i ≢ node → told new i ≡ told old i
  at_other i ne = get_or-set_other old node i (Some level) None ne

  q_at : queued qnew tail ≡ node
  q_at = get_or-set_same q tail node 0 tail_in

  q_before : (k : ℕ) → k < tail → queued qnew k ≡ queued q k
  q_before k l = get_or-set_other q tail k node 0 (λ e. omega (arith, e, l))

  last_told : (k : ℕ) → k ≡ tail → told new (queued qnew k) ≡ Some level
  last_told k e = ap (λ (j : ℕ). told new (queued qnew j)) e ∙ ap (told new) q_at ∙ at_node

  pub fresh_kept : (i m : ℕ) → told old i ≡ Some m → told new i ≡ Some m
  fresh_kept i m h = at_other i (λ e. none-some m (sym none ∙ ap (told old) (sym e) ∙ h)) ∙ h

  fresh_only : (i m : ℕ) → told new i ≡ Some m → (told old i ≡ Some m) ⊎ ((i ≡ node) × (m ≡ level))
  fresh_only i m h = elim (cases_eq i node) [
    | inl e ↦ inr (e, some_same m level (sym h ∙ ap (told new) e ∙ at_node))
    | inr ne ↦ inl (sym (at_other i ne) ∙ h)
  ]

  pub fresh_search : IsWithin net level node → IsSearch net new qnew (suc tail)
  fresh_search near = record {
    size = length-set old node (Some level) ∙ s.size;
    room = length-set q tail node ∙ s.room;
    count = omega (arith, one_less, s.count);
    within = λ i m h. elim (fresh_only i m h) [
      | inl w ↦ s.within i m w
      | inr e ↦ subst (λ (j : ℕ). IsWithin net m j) (sym e.0) (subst (λ (k : ℕ). IsWithin net k node) (sym e.1) near)
    ];
    stands = λ i m h. elim (fresh_only i m h) [
      | inl w ↦ (let t = s.stands i m w in (t.0, omega (arith, t.1), q_before t.0 t.1 ∙ t.2))
      | inr e ↦ (tail, omega arith, q_at ∙ sym e.0)
    ];
    has = λ k l. elim (cases_lt k tail) [
      | inl before ↦ (let t = s.has k before in (t.0, ap (told new) (q_before k before) ∙ fresh_kept (queued q k) t.0 t.1))
      | inr after ↦ (level, last_told k (omega (arith, l, after)))
    ];
  }

  pub fresh_grown : (first : List (Option ℕ)) (qfirst : List ℕ) (start : ℕ) → IsGrown level first old qfirst q start tail → IsGrown level first new qfirst qnew start (suc tail)
  fresh_grown first qfirst start g = record {
    order = omega (arith, g.order);
    kept = λ i m h. fresh_kept i m (g.kept i m h);
    only = λ i m h. elim (fresh_only i m h) [
      | inl w ↦ g.only i m w
      | inr e ↦ inr e.1
    ];
    queue_kept = λ k l. q_before k (omega (arith, g.order, l)) ∙ g.queue_kept k l;
    fresh = λ k a b. elim (cases_lt k tail) [
      | inl before ↦ (ap (told new) (q_before k before) ∙ fresh_kept (queued q k) level (g.fresh k a before))
      | inr after ↦ last_told k (omega (arith, b, after))
    ];
  }

module _ (net : Network) (node level : ℕ) (old new : List (Option ℕ)) (q qnew : List ℕ) (tail end : ℕ) (s : IsSearch net old q tail) (node_in : node < net.nodes) (put : IsPut node level old new q qnew tail end) where
  pub put_search : IsWithin net level node → IsSearch net new qnew end
  put_search near = elim put [
    | inl same ↦ carried (λ x y z. IsSearch net x y z) old new q qnew tail end same.2 same.3 same.4 s
    | inr fresh ↦ carried (λ x y z. IsSearch net x y z) (set old node (Some level)) new (set q tail node) qnew (suc tail) end fresh.1 fresh.2 fresh.3 (fresh_search net node level old q tail s node_in fresh.0 near)
  ]

  pub put_grown : (first : List (Option ℕ)) (qfirst : List ℕ) (start : ℕ) → IsGrown level first old qfirst q start tail → IsGrown level first new qfirst qnew start end
  put_grown first qfirst start g = elim put [
    | inl same ↦ carried (λ x y z. IsGrown level first x qfirst y start z) old new q qnew tail end same.2 same.3 same.4 g
    | inr fresh ↦ carried (λ x y z. IsGrown level first x qfirst y start z) (set old node (Some level)) new (set q tail node) qnew (suc tail) end fresh.1 fresh.2 fresh.3 (fresh_grown net node level old q tail s node_in fresh.0 first qfirst start g)
  ]

  pub put_kept : (i m : ℕ) → told old i ≡ Some m → told new i ≡ Some m
  put_kept i m h = elim put [
    | inl same ↦ (ap (λ (x : List (Option ℕ)). told x i) same.2 ∙ h)
    | inr fresh ↦ (ap (λ (x : List (Option ℕ)). told x i) fresh.1 ∙ fresh_kept net node level old q tail s node_in fresh.0 i m h)
  ]

  pub put_met : (m : ℕ) × (told new node ≡ Some m)
  put_met = elim put [
    | inl same ↦ (same.0, ap (λ (x : List (Option ℕ)). told x node) same.2 ∙ same.1)
    | inr fresh ↦ (level, ap (λ (x : List (Option ℕ)). told x node) fresh.1 ∙ at_node net node level old q tail s node_in fresh.0)
  ]

-- ---- the resistors around a node
-- A resistor at a place around a node stands there.
pub stands_around : (rs : List Resistor) (i : ℕ) (d : Resistor) → All (λ p. stands_at i (get_or rs p d) ≡ true) (places_at rs i)
stands_around rs i d =
    let P : ℕ → Type 0 = λ p. stands_at i (get_or rs p d) ≡ true in
    each_place P 0 rs i d (λ m l e. let m' : ◌≡◌ {A = ℕ} (0 + m) m = omega arith in subst P (sym m') e)

-- The place of a resistor at a node is one of those around it.
place_from : (k : ℕ) (rs : List Resistor) (i : ℕ) (d : Resistor) (m : ℕ) → m < length rs → stands_at i (get_or rs m d) ≡ true → (t : ℕ) × (t < length (places_from k rs i)) × (get_or (places_from k rs i) t 0 ≡ k + m)
place_from k [] i d m l e = absurd (omega arith)
place_from k (r ∷ rs) i d zero l e = by_test (stands_at i r) e
  where
    by_test : (b : Bool) → b ≡ true → (t : ℕ) × (t < length (cond b (k ∷ places_from (suc k) rs i) (places_from (suc k) rs i))) × (get_or (cond b (k ∷ places_from (suc k) rs i) (places_from (suc k) rs i)) t 0 ≡ k + 0)
    by_test true f = (0, omega arith, omega arith)
    by_test false f = cc
place_from k (r ∷ rs) i d (suc m) l e = by_test (stands_at i r) (place_from (suc k) rs i d m (omega arith) e)
  where
    by_test : (b : Bool) → (t : ℕ) × (t < length (places_from (suc k) rs i)) × (get_or (places_from (suc k) rs i) t 0 ≡ suc k + m) → (t : ℕ) × (t < length (cond b (k ∷ places_from (suc k) rs i) (places_from (suc k) rs i))) × (get_or (cond b (k ∷ places_from (suc k) rs i) (places_from (suc k) rs i)) t 0 ≡ k + suc m)
    by_test true t = (suc t.0, omega (arith, t.1), omega (arith, t.2))
    by_test false t = (t.0, t.1, omega (arith, t.2))

pub place_around : (rs : List Resistor) (i : ℕ) (d : Resistor) (m : ℕ) → m < length rs → stands_at i (get_or rs m d) ≡ true → (t : ℕ) × (t < length (places_at rs i)) × (get_or (places_at rs i) t 0 ≡ m)
place_around rs i d m l e = let t = place_from 0 rs i d m l e in (t.0, t.1, omega (arith, t.2))

abbrev AreEnds : Resistor → ℕ → ℕ → Type 0
AreEnds r i j = ((r.a ≡ i) × (r.b ≡ j)) ⊎ ((r.a ≡ j) × (r.b ≡ i))

ends_at : (r : Resistor) (node : ℕ) → stands_at node r ≡ true → AreEnds r (other_end r node) node
ends_at r node e = by_tests (eqb r.a node) (eqb r.b node) refl refl e
  where
    by_tests : (s t : Bool) → eqb r.a node ≡ s → eqb r.b node ≡ t → (s || t) ≡ true → AreEnds r (cond s r.b r.a) node
    by_tests true t f g h = inr (eqb-true r.a node f, refl)
    by_tests false true f g h = inl (refl, eqb-true r.b node g)
    by_tests false false f g h = cc

pub joined_around : (net : Network) (p node : ℕ) (d : Resistor) → p < length net.resistors → stands_at node (get_or net.resistors p d) ≡ true → AreJoined net (other_end (get_or net.resistors p d) node) node
joined_around net p node d l e =
    let r = get_or net.resistors p d in
    record {
      place = p;
      in_list = l;
      ends = λ d'. subst (λ (x : Resistor). AreEnds x (other_end r node) node) (get_or_default net.resistors p d d' l) (ends_at r node e);
    }

some_true : (s t : Bool) → (s ≡ true) ⊎ (t ≡ true) → (s || t) ≡ true
some_true true t h = refl
some_true false true h = refl
some_true false false (inl e) = e
some_true false false (inr e) = e

ends_stand : (r : Resistor) (i node : ℕ) → AreEnds r i node → stands_at node r ≡ true
ends_stand r i node (inl e) = some_true (eqb r.a node) (eqb r.b node) (inr (eq-eqb r.b node e.1))
ends_stand r i node (inr e) = some_true (eqb r.a node) (eqb r.b node) (inl (eq-eqb r.a node e.0))

ends_other : (r : Resistor) (i node : ℕ) → AreEnds r i node → other_end r node ≡ i
ends_other r i node (inr e) = ap (λ b. cond b r.b r.a) (eq-eqb r.a node e.0) ∙ e.1
ends_other r i node (inl e) = by_test (eqb r.a node) refl
  where
    by_test : (b : Bool) → eqb r.a node ≡ b → cond b r.b r.a ≡ i
    by_test true f = e.1 ∙ sym (eqb-true r.a node f) ∙ e.0
    by_test false f = e.0

-- Whatever shares a resistor with a node is the other end at one of the places around it.
pub joined_place : (net : Network) (i node : ℕ) (d : Resistor) → AreJoined net i node → (t : ℕ) × (t < length (places_at net.resistors node)) × (other_end (get_or net.resistors (get_or (places_at net.resistors node) t 0) d) node ≡ i)
joined_place net i node d j =
    let r = get_or net.resistors j.place d in
    let t = place_around net.resistors node d j.place j.in_list (ends_stand r i node (j.ends d)) in
    (t.0, t.1, ap (λ (p : ℕ). other_end (get_or net.resistors p d) node) t.2 ∙ ends_other r i node (j.ends d))

-- What was put from an empty queue has the level of the growth.
pub grown_level : (net : Network) (level : ℕ) (first new : List (Option ℕ)) (qfirst qnew : List ℕ) (end : ℕ) → IsSearch net first qfirst 0 → IsGrown level first new qfirst qnew 0 end → (i m : ℕ) → told new i ≡ Some m → told new i ≡ Some level
grown_level net level first new qfirst qnew end s g i m h = elim (g.only i m h) [
  | inl w ↦ (let t = s.stands i m w in absurd (omega (arith, t.1)))
  | inr e ↦ (h ∙ ap Some e)
]

-- ---- the front
pub front_turns : (net : Network) (levels : List (Option ℕ)) (q : List ℕ) (head end tail level : ℕ) → IsFront net levels q head end tail level → head ≡ end → IsFront net levels q head tail tail (suc level)
front_turns net levels q head end tail level f e = record {
  head_order = omega (arith, f.end_order, e);
  end_order = omega arith;
  here = λ k a b. f.next k (omega (arith, a, e)) b;
  next = λ k a b. absurd (omega (arith, a, b));
  most = λ i m h. omega (arith, f.most i m h);
  done = f.done;
}

-- The front before a visit, which turns where the head has come to its end.
pub front_before : (net : Network) (levels : List (Option ℕ)) (q : List ℕ) (head end tail level end_now level_now : ℕ) → IsFront net levels q head end tail level → head < tail → level ≤ head
    → ((head ≡ end) × (level_now ≡ level + 1) × (end_now ≡ tail)) ⊎ ((head < end) × (level_now ≡ level) × (end_now ≡ end))
    → IsFront net levels q head end_now tail level_now × (head < end_now) × (level_now ≤ head + 1)
front_before net levels q head end tail level end_now level_now f l low (inl t) =
    let to_level : level_now ≡ suc level = omega (arith, t.1) in
    let a = front_turns net levels q head end tail level f t.0 in
    (subst (λ (e : ℕ). IsFront net levels q head e tail level_now) (sym t.2) (subst (λ (m : ℕ). IsFront net levels q head tail tail m) (sym to_level) a), omega (arith, t.2, l), omega (arith, t.1, low))
front_before net levels q head end tail level end_now level_now f l low (inr t) =
    (subst (λ (e : ℕ). IsFront net levels q head e tail level_now) (sym t.2) (subst (λ (m : ℕ). IsFront net levels q head end tail m) (sym t.1) f), omega (arith, t.0, t.2), omega (arith, t.1, low))

pub front_starts : (net : Network) (levels first : List (Option ℕ)) (q qfirst : List ℕ) (tail : ℕ) → IsSearch net first qfirst 0 → IsGrown 0 first levels qfirst q 0 tail → IsFront net levels q 0 tail tail 0
front_starts net levels first q qfirst tail s g = record {
  head_order = omega arith;
  end_order = omega arith;
  here = λ k a b. g.fresh k a b;
  next = λ k a b. absurd (omega (arith, a, b));
  most = λ i m h. let e = some_same m 0 (sym h ∙ grown_level net 0 first levels qfirst q tail s g i m h) in omega (arith, e);
  done = λ k l. absurd (omega (arith, l));
}

module _ (net : Network) (old new : List (Option ℕ)) (q qnew : List ℕ) (head end tail tail_new level : ℕ) (f : IsFront net old q head end tail level) (l : head < end) (s : IsSearch net old q tail) (g : IsGrown (suc level) old new q qnew tail tail_new) (met : (i : ℕ) → AreJoined net i (queued q head) → (m : ℕ) × (told new i ≡ Some m)) where
  still_most : (i m : ℕ) → told new i ≡ Some m → m ≤ suc level
  still_most i m h = elim (g.only i m h) [
    | inl w ↦ f.most i m w
    | inr e ↦ omega (arith, e)
  ]

  done_still : (k : ℕ) → k < suc head → (m : ℕ) → told new (queued qnew k) ≡ Some m → (i : ℕ) → AreJoined net i (queued qnew k) → (n : ℕ) × (told new i ≡ Some n) × (n ≤ suc m)
  done_still k b m h i j = elim (cases_lt k head) [
    | inl before ↦ (
        let k_in : k < tail = omega (arith, before, l, f.end_order) in
        let e = g.queue_kept k k_in in
        let t = s.has k k_in in
        let same = some_same t.0 m (sym (g.kept (queued q k) t.0 t.1) ∙ ap (told new) (sym e) ∙ h) in
        let d = f.done k before t.0 t.1 i (subst (λ (n : ℕ). AreJoined net i n) e j) in
        (d.0, g.kept i d.0 d.1, omega (arith, d.2, same)))
    | inr after ↦ (
        let at : k ≡ head = omega (arith, b, after) in
        let e = ap (queued qnew) at ∙ g.queue_kept head (omega (arith, l, f.end_order)) in
        let is = g.kept (queued q head) level (f.here head (omega arith) l) in
        let same = some_same m level (sym h ∙ ap (told new) e ∙ is) in
        let t = met i (subst (λ (n : ℕ). AreJoined net i n) e j) in
        (t.0, t.1, omega (arith, still_most i t.0 t.1, same)))
  ]

  pub front_goes_on : IsFront net new qnew (suc head) end tail_new level
  front_goes_on = record {
    head_order = omega (arith, l);
    end_order = omega (arith, f.end_order, g.order);
    here = λ k a b. ap (told new) (g.queue_kept k (omega (arith, b, f.end_order))) ∙ g.kept (queued q k) level (f.here k (omega (arith, a)) b);
    next = λ k a b. elim (cases_lt k tail) [
      | inl before ↦ (ap (told new) (g.queue_kept k before) ∙ g.kept (queued q k) (suc level) (f.next k a before))
      | inr after ↦ g.fresh k after b
    ];
    most = still_most;
    done = done_still;
  }

-- What shares a resistor with the node at the head lies within one more.
pub near_head : (net : Network) (levels : List (Option ℕ)) (q : List ℕ) (head end tail level : ℕ) → IsFront net levels q head end tail level → head < end → IsSearch net levels q tail → (i : ℕ) → AreJoined net i (queued q head) → IsWithin net (suc level) i
near_head net levels q head end tail level f l s i j =
    let is = f.here head (omega arith) l in
    inr (queued q head, omega (arith, told_in levels (queued q head) level is, s.size), j, s.within (queued q head) level is)

-- ---- the queue is done
module _ (net : Network) (levels : List (Option ℕ)) (q : List ℕ) (head end tail level : ℕ) (s : IsSearch net levels q tail) (pads : HasPads net levels) (f : IsFront net levels q head end tail level) (done : tail ≤ head) where
  closed : (j m i : ℕ) → told levels j ≡ Some m → AreJoined net i j → (n : ℕ) × (told levels i ≡ Some n) × (n ≤ suc m)
  closed j m i h joined =
      let t = s.stands j m h in
      f.done t.0 (omega (arith, t.1, done)) m (ap (told levels) t.2 ∙ h) i (subst (λ (n : ℕ). AreJoined net i n) (sym t.2) joined)

  reached : (k i : ℕ) → IsWithin net k i → (m : ℕ) × (told levels i ≡ Some m) × (m ≤ k)
  reached zero i w = (0, pads i w.0 w.1, omega arith)
  reached (suc k) i (inl w) = let t = reached k i w in (t.0, t.1, omega (arith, t.2))
  reached (suc k) i (inr w) =
      let t = reached k w.0 w.3 in
      let c = closed w.0 t.0 i t.1 w.2 in
      (c.0, c.1, omega (arith, c.2, t.2))

  level_of : (i : ℕ) (o : Option ℕ) → told levels i ≡ o → LevelIs net i o
  level_of i (Some k) e = record {
    within = s.within i k e;
    not_nearer = λ m l w. let t = reached m i w in let same = some_same t.0 k (sym t.1 ∙ e) in omega (arith, same, t.2, l);
  }
  level_of i None e = λ k w. let t = reached k i w in none-some t.0 (sym e ∙ t.1)

  pub levels_told : (i : ℕ) → LevelIs net i (told levels i)
  levels_told i = level_of i (told levels i) refl

-- ---- supply
pub supplied_by : (net : Network) (i : ℕ) (o : Option ℕ) → LevelIs net i o → is_some o ≡ true → IsSupplied net i
supplied_by net i (Some k) h e = (k, h.within)
supplied_by net i None h e = cc

pub unsupplied_by : (net : Network) (i : ℕ) (o : Option ℕ) → LevelIs net i o → is_some o ≡ false → IsSupplied net i → ⊥
unsupplied_by net i (Some k) h e s = cc
unsupplied_by net i None h e s = h s.0 s.1
