-- A certificate holds only where each node is supplied. Of nodes that no resistor joins to the others and of which none is a pad,
-- the high list would let less than nothing be drawn in all, and the low list more than nothing.
use Rattle.std.proofs.Common.{◌≡◌, ℕ, zero, suc, ◌+◌, ◌<◌, ◌≤◌, ◌⊎◌, inl, inr, ℤ, pos, ◌+ℤ◌, ◌-ℤ◌, ◌≤ℤ◌, arith, refl, sym, ap, ◌∙◌, List, [], ◌∷◌, length, get_or, All, Option, Some, None, is_some, Bool, true, false, cond, eqb, eq-eqb}
use Rattle.std.specs.List.{range_with_len}
use Rattle.std.proofs.lemmas.Int.{ints}
use Rattle.std.proofs.lemmas.Bool.{cases_lt, cases_eq, ne_eqb, false≢true}
use Rattle.std.proofs.lemmas.List.Elements.{All-head, All-tail, All-nil, All-cons}
use Rattle.rounding.specs.Rounding.{floor_div, ceil_div}
use Rattle.rounding.specs.Laws.{times_sum, floor_is, ceiling_is}
use Rattle.grid_net.specs.declared.part.Resistor.{Resistor}
use Rattle.grid_net.specs.Network.{Network, IsNetwork, IsResistorOf, FlowRule, total, taken_by, outflow, low_load, high_load, pad_at}
use Rattle.grid_net.specs.Level.{IsSupplied}
use Rattle.grid_net.specs.Certificate.{HighHolds, LowHolds}
use Rattle.grid_net.specs.Laws.Loads.{load_in_order}
use Rattle.grid_net.specs.Laws.Sums.{total_le}
use Rattle.group_net.proofs.Sums.{total-sum, total-nothing, over, over_next, over_same, all_below, pick}
use Rattle.solution_exists.specs.Existence.{EachIsSupplied}
use Rattle.solution_exists.specs.Laws.{at_least_nothing, at_most_nothing}

-- ---- sums over the nodes that are not known
over_le : (n : ℕ) (f g : ℕ → ℤ) → ((i : ℕ) → i < n → f i ≤ℤ g i) → over n f ≤ℤ over n g
over_le n f g le = total_le (λ i. i < n) f g le (range_with_len 0 n) (all_below n)

-- One of a sum's terms, where none is below 0.
term_le : (n : ℕ) (f : ℕ → ℤ) (i : ℕ) → ((j : ℕ) → pos 0 ≤ℤ f j) → i < n → f i ≤ℤ over n f
term_le zero f i above l = absurd (omega arith)
term_le (suc n) f i above l = elim (cases_lt i n) [
  | inl lt ↦ omega (arith, ints, term_le n f i above lt, above n, over_next n f)
  | inr ge ↦ (
      let e : i ≡ n = omega (arith, l, ge) in
      let rest = over_le n (λ j. pos 0) f (λ j m. above j) in
      let none = total-nothing (range_with_len 0 n) in
      omega (arith, ints, ap f e, rest, none, over_next n f))
]

module _ (known : ℕ → Bool) where
  abbrev of_rest : (ℕ → ℤ) → ℕ → ℤ
  of_rest f i = cond (known i) (pos 0) (f i)

  rest_sum : (n : ℕ) (f g : ℕ → ℤ) → over n (of_rest (λ i. f i +ℤ g i)) ≡ over n (of_rest f) +ℤ over n (of_rest g)
  rest_sum n f g =
      over_same n (of_rest (λ i. f i +ℤ g i)) (λ i. of_rest f i +ℤ of_rest g i) (λ i m. inside (known i) (f i) (g i))
      ∙ total-sum (of_rest f) (of_rest g) (range_with_len 0 n)
    where
      inside : (b : Bool) (x y : ℤ) → cond b (pos 0) (x +ℤ y) ≡ cond b (pos 0) x +ℤ cond b (pos 0) y
      inside true x y = omega (arith, ints)
      inside false x y = refl

  rest_le : (n : ℕ) (f g : ℕ → ℤ) → ((i : ℕ) → i < n → known i ≡ false → f i ≤ℤ g i) → over n (of_rest f) ≤ℤ over n (of_rest g)
  rest_le n f g le = over_le n (of_rest f) (of_rest g) (λ i m. inside (known i) (f i) (g i) (λ e. le i m e))
    where
      inside : (b : Bool) (x y : ℤ) → (b ≡ false → x ≤ℤ y) → cond b (pos 0) x ≤ℤ cond b (pos 0) y
      inside true x y h = omega (arith, ints)
      inside false x y h = h refl

  one_end : (n a : ℕ) (x : ℤ) → a < n → over n (of_rest (λ i. cond (eqb a i) x (pos 0))) ≡ cond (known a) (pos 0) x
  one_end n a x l =
      over_same n (of_rest (λ i. cond (eqb a i) x (pos 0))) (λ i. cond (eqb a i) (cond (known i) (pos 0) x) (pos 0))
      (λ i m. swap (known i) (eqb a i))
      ∙ pick n a (λ i. cond (known i) (pos 0) x) l
    where
      swap : (s t : Bool) → cond s (pos 0) (cond t x (pos 0)) ≡ cond t (cond s (pos 0) x) (pos 0)
      swap true true = refl
      swap true false = refl
      swap false true = refl
      swap false false = refl

  -- What leaves these nodes over a resistor, by a rule.
  rest_taken : FlowRule → (ℕ → ℤ) → Resistor → ℤ
  rest_taken rule x r =
      cond (known r.a) (pos 0) (rule (x r.a -ℤ x r.b) r.ohms) +ℤ cond (known r.b) (pos 0) (rule (x r.b -ℤ x r.a) r.ohms)

  rest_outflow : (rule : FlowRule) (n : ℕ) (rs : List Resistor) (x : ℕ → ℤ) → All (IsResistorOf n) rs
      → over n (of_rest (outflow rule rs x)) ≡ total (rest_taken rule x) rs
  unfolding rest_taken
  rest_outflow rule n [] x all =
      over_same n (of_rest (λ i. pos 0)) (λ i. pos 0) (λ i m. none (known i)) ∙ total-nothing (range_with_len 0 n)
    where
      none : (b : Bool) → cond b (pos 0) (pos 0) ≡ pos 0
      none true = refl
      none false = refl
  rest_outflow rule n (r ∷ rs) x all =
      let of_r = All-head (IsResistorOf n) r rs all in
      let rest = rest_outflow rule n rs x (All-tail (IsResistorOf n) r rs all) in
      let F = rule (x r.a -ℤ x r.b) r.ohms in
      let G = rule (x r.b -ℤ x r.a) r.ohms in
      let split = rest_sum n (λ i. taken_by r i F G) (outflow rule rs x) in
      let ends = rest_sum n (λ i. cond (eqb r.a i) F (pos 0)) (λ i. cond (eqb r.b i) G (pos 0)) in
      let one = one_end n r.a F of_r.a_is_node in
      let other = one_end n r.b G of_r.b_is_node in
      omega (arith, ints, rest, split, ends, one, other)

  Closed : Resistor → Type 0
  Closed r = known r.a ≡ known r.b

  floors_at_most : (n : ℕ) (rs : List Resistor) (x : ℕ → ℤ) → All (IsResistorOf n) rs → All Closed rs → total (rest_taken floor_div x) rs ≤ℤ pos 0
  unfolding Closed rest_taken
  floors_at_most n [] x all closed = omega (arith, ints)
  floors_at_most n (r ∷ rs) x all closed =
      let of_r = All-head (IsResistorOf n) r rs all in
      let rest = floors_at_most n rs x (All-tail (IsResistorOf n) r rs all) (All-tail Closed r rs closed) in
      let F = floor_div (x r.a -ℤ x r.b) r.ohms in
      let G = floor_div (x r.b -ℤ x r.a) r.ohms in
      let f = floor_is (x r.a -ℤ x r.b) r.ohms of_r.resists in
      let g = floor_is (x r.b -ℤ x r.a) r.ohms of_r.resists in
      let s = times_sum r.ohms F G in
      let le = at_most_nothing r.ohms (F +ℤ G) of_r.resists (omega (arith, ints, f.reached, g.reached, s)) in
      let here = by_ends (known r.a) (known r.b) F G le (All-head Closed r rs closed) in
      omega (arith, ints, rest, here)
    where
      by_ends : (s t : Bool) (u v : ℤ) → (u +ℤ v) ≤ℤ pos 0 → s ≡ t → (cond s (pos 0) u +ℤ cond t (pos 0) v) ≤ℤ pos 0
      by_ends true true u v le e = omega (arith, ints)
      by_ends false false u v le e = le
      by_ends true false u v le e = absurd (false≢true (sym e))
      by_ends false true u v le e = absurd (false≢true e)

  ceilings_at_least : (n : ℕ) (rs : List Resistor) (x : ℕ → ℤ) → All (IsResistorOf n) rs → All Closed rs → pos 0 ≤ℤ total (rest_taken ceil_div x) rs
  unfolding Closed rest_taken
  ceilings_at_least n [] x all closed = omega (arith, ints)
  ceilings_at_least n (r ∷ rs) x all closed =
      let of_r = All-head (IsResistorOf n) r rs all in
      let rest = ceilings_at_least n rs x (All-tail (IsResistorOf n) r rs all) (All-tail Closed r rs closed) in
      let F = ceil_div (x r.a -ℤ x r.b) r.ohms in
      let G = ceil_div (x r.b -ℤ x r.a) r.ohms in
      let f = ceiling_is (x r.a -ℤ x r.b) r.ohms of_r.resists in
      let g = ceiling_is (x r.b -ℤ x r.a) r.ohms of_r.resists in
      let s = times_sum r.ohms F G in
      let le = at_least_nothing r.ohms (F +ℤ G) of_r.resists (omega (arith, ints, f.reaches, g.reaches, s)) in
      let here = by_ends (known r.a) (known r.b) F G le (All-head Closed r rs closed) in
      omega (arith, ints, rest, here)
    where
      by_ends : (s t : Bool) (u v : ℤ) → pos 0 ≤ℤ (u +ℤ v) → s ≡ t → pos 0 ≤ℤ (cond s (pos 0) u +ℤ cond t (pos 0) v)
      by_ends true true u v le e = omega (arith, ints)
      by_ends false false u v le e = le
      by_ends true false u v le e = absurd (false≢true (sym e))
      by_ends false true u v le e = absurd (false≢true e)

-- ---- a resistor from a known node to another
record Crossing (known : ℕ → Bool) (rs : List Resistor) : Type 0 where
  place : ℕ
  in_list : place < length rs
  from : ℕ
  to : ℕ
  ends : (d : Resistor) → (((get_or rs place d).a ≡ to) × ((get_or rs place d).b ≡ from))
      ⊎ (((get_or rs place d).a ≡ from) × ((get_or rs place d).b ≡ to))
  is_known : known from ≡ true
  is_new : known to ≡ false

crossing : (known : ℕ → Bool) (rs : List Resistor) → All (Closed known) rs ⊎ Crossing known rs
unfolding Closed
crossing known [] = inl (All-nil (Closed known))
crossing known (r ∷ rs) = by_ends (known r.a) (known r.b) refl refl (crossing known rs)
  where
    beyond : Crossing known rs → Crossing known (r ∷ rs)
    beyond c = record {
      place = suc c.place;
      in_list = omega (arith, c.in_list);
      from = c.from;
      to = c.to;
      ends = c.ends;
      is_known = c.is_known;
      is_new = c.is_new;
    }

    further : known r.a ≡ known r.b → All (Closed known) rs ⊎ Crossing known rs → All (Closed known) (r ∷ rs) ⊎ Crossing known (r ∷ rs)
    further e (inl closed) = inl (All-cons (Closed known) r rs e closed)
    further e (inr c) = inr (beyond c)

    by_ends : (s t : Bool) → known r.a ≡ s → known r.b ≡ t → All (Closed known) rs ⊎ Crossing known rs
        → All (Closed known) (r ∷ rs) ⊎ Crossing known (r ∷ rs)
    by_ends true true e f rest = further (e ∙ sym f) rest
    by_ends false false e f rest = further (e ∙ sym f) rest
    by_ends true false e f rest = inr (record {
      place = 0;
      in_list = omega arith;
      from = r.a;
      to = r.b;
      ends = λ d. inr (refl, refl);
      is_known = e;
      is_new = f;
    })
    by_ends false true e f rest = inr (record {
      place = 0;
      in_list = omega arith;
      from = r.b;
      to = r.a;
      ends = λ d. inl (refl, refl);
      is_known = f;
      is_new = e;
    })

-- ---- how many nodes are not known
left : ℕ → (ℕ → Bool) → ℕ
left zero known = 0
left (suc n) known = left n known + cond (known n) 0 1

with_node : (ℕ → Bool) → ℕ → ℕ → Bool
with_node known node i = cond (eqb i node) true (known i)

module _ (known : ℕ → Bool) (node : ℕ) where
  with_here : with_node known node node ≡ true
  unfolding with_node
  with_here = ap (λ (b : Bool). cond b true (known node)) (eq-eqb node node refl)

  with_other : (i : ℕ) → (i ≡ node → ⊥) → with_node known node i ≡ known i
  unfolding with_node
  with_other i ne = ap (λ (b : Bool). cond b true (known i)) (ne_eqb i node ne)

  one_fewer : (b : Bool) → cond b 0 1 ≤ 1
  one_fewer true = omega arith
  one_fewer false = omega arith

  left_before : (n : ℕ) → n ≤ node → left n (with_node known node) ≡ left n known
  unfolding left
  left_before zero l = refl
  left_before (suc n) l =
      let rest = left_before n (omega (arith, l)) in
      let same = ap (λ (b : Bool). cond {A = ℕ} b 0 1) (with_other n (λ e. (let m : n < node = omega (arith, l) in omega (arith, e, m)))) in
      omega (arith, rest, same)

  left_less : (n : ℕ) → node < n → known node ≡ false → left n (with_node known node) < left n known
  unfolding left
  left_less zero l e = absurd (omega arith)
  left_less (suc n) l e = elim (cases_eq n node) [
    | inl same ↦ (
        let rest = left_before n (omega (arith, same)) in
        let gone = ap (λ (b : Bool). cond {A = ℕ} b 0 1) (ap (with_node known node) same ∙ with_here) in
        let was = ap (λ (b : Bool). cond {A = ℕ} b 0 1) (ap known same ∙ e) in
        omega (arith, rest, gone, was))
    | inr other ↦ (
        let rest = left_less n (omega (arith, l, other)) e in
        let same = ap (λ (b : Bool). cond {A = ℕ} b 0 1) (with_other n other) in
        omega (arith, rest, same))
  ]

-- ---- supply
module _ (net : Network) (wf : IsNetwork net) where
  record Known : Type 0 where
    known : ℕ → Bool
    supplied : (i : ℕ) → i < net.nodes → known i ≡ true → IsSupplied net i
    pads : (i : ℕ) (v : ℤ) → i < net.nodes → pad_at net i ≡ Some v → known i ≡ true

  pads_known : Known
  pads_known = record {
    known = λ i. is_some (pad_at net i);
    supplied = λ i l e. by_pad i (pad_at net i) refl e;
    pads = λ i v l e. ap is_some e;
  }
    where
      by_pad : (i : ℕ) (o : Option ℤ) → pad_at net i ≡ o → is_some o ≡ true → IsSupplied net i
      by_pad i (Some v) e t = (0, (v, e))
      by_pad i None e t = absurd (false≢true t)

  grown : (k : Known) → Crossing k.known net.resistors → Known
  grown k c = record {
    known = with_node k.known c.to;
    supplied = λ i l e. elim (cases_eq i c.to) [
      | inl same ↦ joined i same
      | inr other ↦ k.supplied i l (sym (with_other k.known c.to i other) ∙ e)
    ];
    pads = λ i v l e. elim (cases_eq i c.to) [
      | inl same ↦ ap (with_node k.known c.to) same ∙ with_here k.known c.to
      | inr other ↦ with_other k.known c.to i other ∙ k.pads i v l e
    ];
  }
    where
      any : Resistor
      any = record { a = 0; b = 0; ohms = pos 1 }

      from_is_node : c.from < net.nodes
      from_is_node =
          let r = wf.each_resistor c.place any c.in_list in
          elim (c.ends any) [
            | inl e ↦ (let s = e.1 in omega (arith, r.b_is_node, s))
            | inr e ↦ (let s = e.0 in omega (arith, r.a_is_node, s))
          ]

      ends_at : (i : ℕ) → i ≡ c.to → (d : Resistor) → (((get_or net.resistors c.place d).a ≡ i) × ((get_or net.resistors c.place d).b ≡ c.from))
          ⊎ (((get_or net.resistors c.place d).a ≡ c.from) × ((get_or net.resistors c.place d).b ≡ i))
      ends_at i same d = elim (c.ends d) [
        | inl e ↦ inl (e.0 ∙ sym same, e.1)
        | inr e ↦ inr (e.0, e.1 ∙ sym same)
      ]

      joined : (i : ℕ) → i ≡ c.to → IsSupplied net i
      joined i same =
          let way = k.supplied c.from from_is_node c.is_known in
          (suc way.0, inr (c.from, from_is_node, record { place = c.place; in_list = c.in_list; ends = ends_at i same }, way.1))

  to_is_node : (k : Known) (c : Crossing k.known net.resistors) → c.to < net.nodes
  to_is_node k c =
      let any : Resistor = record { a = 0; b = 0; ohms = pos 1 } in
      let r = wf.each_resistor c.place any c.in_list in
      elim (c.ends any) [
        | inl e ↦ (let s = e.0 in omega (arith, r.a_is_node, s))
        | inr e ↦ (let s = e.1 in omega (arith, r.b_is_node, s))
      ]

  module _ (high low : ℕ → ℤ) (highs : HighHolds net high) (lows : LowHolds net low) where
    free : (k : Known) (i : ℕ) → i < net.nodes → k.known i ≡ false → pad_at net i ≡ None
    free k i l e = by_pad (pad_at net i) refl
      where
        by_pad : (o : Option ℤ) → pad_at net i ≡ o → o ≡ None
        by_pad None f = refl
        by_pad (Some v) f = absurd (false≢true (sym e ∙ k.pads i v l f))

    -- Nodes that no resistor joins to the known ones are none.
    none_left : (k : Known) → All (Closed k.known) net.resistors → (i : ℕ) → i < net.nodes → k.known i ≡ false → ⊥
    none_left k closed i l e =
        let n = net.nodes in
        let ones : ℕ → ℤ = λ j. pos 1 in
        let F : ℕ → ℤ = outflow floor_div net.resistors high in
        let G : ℕ → ℤ = outflow ceil_div net.resistors low in
        let above = rest_le k.known n ones (λ j. F j +ℤ low_load net j) (λ j m f. highs.sums j m (free k j m f)) in
        let below = rest_le k.known n (λ j. (G j +ℤ high_load net j) +ℤ ones j) (λ j. pos 0)
        (λ j m f. (let t = lows.sums j m (free k j m f) in omega (arith, ints, t))) in
        let order = rest_le k.known n (low_load net) (high_load net) (λ j m f. load_in_order net wf j) in
        let s = rest_sum k.known n F (low_load net) in
        let t = rest_sum k.known n (λ j. G j +ℤ high_load net j) ones in
        let u = rest_sum k.known n G (high_load net) in
        let none = rest_sum k.known n (λ j. pos 0) (λ j. pos 0) in
        let floors = floors_at_most k.known n net.resistors high wf.each_resistor closed in
        let ceilings = ceilings_at_least k.known n net.resistors low wf.each_resistor closed in
        let out = rest_outflow k.known floor_div n net.resistors high wf.each_resistor in
        let into = rest_outflow k.known ceil_div n net.resistors low wf.each_resistor in
        let one = term_le n (of_rest k.known ones) i (λ j. not_below (k.known j)) l in
        let here : of_rest k.known ones i ≡ pos 1 = ap (λ (b : Bool). cond b (pos 0) (pos 1)) e in
        omega (arith, ints, above, below, order, s, t, u, none, floors, ceilings, out, into, one, here)
      where
        not_below : (b : Bool) → pos 0 ≤ℤ cond b (pos 0) (pos 1)
        not_below true = omega (arith, ints)
        not_below false = omega (arith, ints)

    -- A node is supplied where no resistor leads on, and else if it is once one more is known.
    decided : (k : Known) (i : ℕ) → i < net.nodes → All (Closed k.known) net.resistors ⊎ Crossing k.known net.resistors
        → (Crossing k.known net.resistors → IsSupplied net i) → IsSupplied net i
    decided k i m (inl closed) further = by_known (k.known i) refl
      where
        by_known : (b : Bool) → k.known i ≡ b → IsSupplied net i
        by_known true e = k.supplied i m e
        by_known false e = absurd (none_left k closed i m e)
    decided k i m (inr c) further = further c

    fewer : (k : Known) (c : Crossing k.known net.resistors) → left net.nodes (grown k c).known < left net.nodes k.known
    unfolding grown
    fewer k c = left_less k.known c.to net.nodes (to_is_node k c) c.is_new

    -- Known nodes spread over resistors until no other is left.
    all_known : (f : ℕ) (k : Known) → left net.nodes k.known ≤ f → EachIsSupplied net
    all_known zero k l i m =
        decided k i m (crossing k.known net.resistors) (λ c. absurd (let less = fewer k c in omega (arith, less, l)))
    all_known (suc f) k l i m =
        decided k i m (crossing k.known net.resistors)
        (λ c. all_known f (grown k c) (let less = fewer k c in omega (arith, less, l)) i m)

    pub each_supplied : EachIsSupplied net
    each_supplied = all_known (left net.nodes pads_known.known) pads_known (omega arith)
