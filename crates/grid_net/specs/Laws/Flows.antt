-- The resistors around a node: the sum over them is the sum over all resistors, and how large it may be.
use Rattle.grid_net.specs.Limits.{IsInLimit}
use Rattle.rounding.specs.Rounding.{floor_div, ceil_div}
use Rattle.rounding.specs.Laws.{floor_is, floor_unique, times_sum, times_next, times_le_out, times_lt_out}
use Rattle.std.proofs.Common.{◌≤◌, ◌≤ℤ◌, ◌<ℤ◌, neg_ℤ, subst, ◌≡◌, ℕ, suc, ◌+◌, ◌<◌, ℤ, pos, ◌+ℤ◌, ◌-ℤ◌, arith, refl, sym, ap, ◌∙◌, List, [], ◌∷◌, length, get_or, All, Bool, true, false, cond, ◌||◌, eqb, eqb-true, suc-le-suc, add-zero, add-suc, suc-add}
use Rattle.std.proofs.lemmas.Int.{ints}
use Rattle.std.proofs.lemmas.List.Elements.{All-head, All-tail, All-nil, All-cons, All-weaker}
use Rattle.grid_net.specs.declared.part.Resistor.{Resistor}
use Rattle.grid_net.specs.Network.{IsResistorOf, FlowRule, outflow, total, degree, stands_at, other_end, places_from, places_at}
use Rattle.grid_net.specs.inside.Flows.{flow_over}

-- One resistor, by which of its ends stand at the node.
one_taken : (rule : FlowRule) (R X A B : ℤ) (u v : ℤ) (s t : Bool) (Y : ℤ) → rule (pos 0) R ≡ pos 0
    → (s ≡ true → A ≡ X) → (t ≡ true → B ≡ X) → Y ≡ cond s B A
    → cond s (rule (A -ℤ B) R) (pos 0) +ℤ cond t (rule (B -ℤ A) R) (pos 0) ≡ cond (s || t) (rule (X -ℤ Y) R) (pos 0)
one_taken rule R X A B u v true true Y none a b y =
    let e : A -ℤ B ≡ pos 0 = omega (arith, ints, a refl, b refl) in
    let f : B -ℤ A ≡ pos 0 = omega (arith, ints, a refl, b refl) in
    let g : X -ℤ Y ≡ pos 0 = omega (arith, ints, a refl, b refl, y) in
    let h = ap (λ z. rule z R) e in
    let k = ap (λ z. rule z R) f in
    let m = ap (λ z. rule z R) g in
    omega (arith, ints, h, k, m, none)
one_taken rule R X A B u v true false Y none a b y =
    let e : A -ℤ B ≡ X -ℤ Y = omega (arith, ints, a refl, y) in
    omega (arith, ints, ap (λ z. rule z R) e)
one_taken rule R X A B u v false true Y none a b y =
    let e : B -ℤ A ≡ X -ℤ Y = omega (arith, ints, b refl, y) in
    omega (arith, ints, ap (λ z. rule z R) e)
one_taken rule R X A B u v false false Y none a b y = omega (arith, ints)

module _ (rule : FlowRule) (nothing : (r : ℤ) → pos 1 ≤ℤ r → rule (pos 0) r ≡ pos 0) (n : ℕ) (x : ℕ → ℤ) (i : ℕ)
    (d : Resistor) (whole : List Resistor) where
  cons_if : (s : Bool) (f : ℕ → ℤ) (k : ℕ) (ks : List ℕ)
      → total f (cond s (k ∷ ks) ks) ≡ cond s (f k) (pos 0) +ℤ total f ks
  cons_if true f k ks = refl
  cons_if false f k ks = omega (arith, ints)

  chosen_end : (s : Bool) (a b : ℕ) → x (cond s b a) ≡ cond s (x b) (x a)
  chosen_end true a b = refl
  chosen_end false a b = refl

  pub around_from : (k : ℕ) (rs : List Resistor) → All (IsResistorOf n) rs
      → ((m : ℕ) → m < length rs → get_or whole (k + m) d ≡ get_or rs m d)
      → outflow rule rs x i ≡ total (flow_over rule whole x i d) (places_from k rs i)
  around_from k [] all at = refl
  around_from k (r ∷ rs) all at =
      let of_r = All-head (IsResistorOf n) r rs all in
      let here : get_or whole k d ≡ r = ap (λ m. get_or whole m d) (sym (add-zero k)) ∙ at 0 (omega arith) in
      let rest = around_from (suc k) rs (All-tail (IsResistorOf n) r rs all)
      (λ m l. ap (λ j. get_or whole j d) (suc-add k m ∙ sym (add-suc k m)) ∙ at (suc m) (suc-le-suc l)) in
      let one = one_taken rule r.ohms (x i) (x r.a) (x r.b) (pos 0) (pos 0) (eqb r.a i) (eqb r.b i)
      (x (other_end r i)) (nothing r.ohms of_r.resists) (λ e. ap x (eqb-true r.a i e))
      (λ e. ap x (eqb-true r.b i e)) (chosen_end (eqb r.a i) r.a r.b) in
      let split = cons_if (stands_at i r) (flow_over rule whole x i d) k (places_from (suc k) rs i) in
      let flow : flow_over rule whole x i d k ≡ rule (x i -ℤ x (other_end r i)) r.ohms = ap
      (λ (q : Resistor). rule (x i -ℤ x (other_end q i)) q.ohms) here in
      let cut = ap (λ z. cond (stands_at i r) z (pos 0)) flow in
      omega (arith, ints, one, rest, split, cut)

-- The sum over the places of the resistors at the node.
pub around_is_outflow : (rule : FlowRule) → ((r : ℤ) → pos 1 ≤ℤ r → rule (pos 0) r ≡ pos 0)
    → (n : ℕ) (rs : List Resistor) → All (IsResistorOf n) rs → (x : ℕ → ℤ) (i : ℕ) (d : Resistor)
    → outflow rule rs x i ≡ total (flow_over rule rs x i d) (places_at rs i)
around_is_outflow rule nothing n rs all x i d =
    around_from rule nothing n x i d rs 0 rs all (λ m l. ap (λ j. get_or rs j d) (omega arith))

below_if : (m : ℕ) (s : Bool) (k : ℕ) (ks : List ℕ) → k < m → All (λ (p : ℕ). p < m) ks
    → All (λ (p : ℕ). p < m) (cond s (k ∷ ks) ks)
below_if m true k ks here rest = All-cons (λ (p : ℕ). p < m) k ks here rest
below_if m false k ks here rest = rest

places_below : (k : ℕ) (rs : List Resistor) (i : ℕ) → All (λ (p : ℕ). p < k + length rs) (places_from k rs i)
places_below k [] i = All-nil (λ (p : ℕ). p < k + 0)
places_below k (r ∷ rs) i =
    let rest = All-weaker (λ (p : ℕ). p < suc k + length rs) (λ (p : ℕ). p < k + suc (length rs)) (λ p h. omega arith)
    (places_from (suc k) rs i) (places_below (suc k) rs i) in
    below_if (k + suc (length rs)) (stands_at i r) k (places_from (suc k) rs i) (omega arith) rest

-- Each place around a node is the place of a resistor.
pub places_are_places : (rs : List Resistor) (i : ℕ) → All (λ (p : ℕ). p < length rs) (places_at rs i)
places_are_places rs i =
    All-weaker (λ (p : ℕ). p < 0 + length rs) (λ (p : ℕ). p < length rs) (λ p h. omega arith) (places_at rs i)
    (places_below 0 rs i)

-- ---- how large the flows around a node are
-- What holds of each resistor that stands at a node holds at each of its places.
pub each_place : (P : ℕ → Type 0) (k : ℕ) (rs : List Resistor) (i : ℕ) (d : Resistor)
    → ((m : ℕ) → m < length rs → stands_at i (get_or rs m d) ≡ true → P (k + m)) → All P (places_from k rs i)
each_place P k [] i d h = All-nil P
each_place P k (r ∷ rs) i d h =
    by_test (stands_at i r) (λ e. subst P (add-zero k) (h 0 (omega arith) e))
    (each_place P (suc k) rs i d (λ m l e. subst P (add-suc k m ∙ sym (suc-add k m)) (h (suc m) (suc-le-suc l) e)))
  where
    by_test : (b : Bool) → (b ≡ true → P k) → All P (places_from (suc k) rs i)
        → All P (cond b (k ∷ places_from (suc k) rs i) (places_from (suc k) rs i))
    by_test true here rest = All-cons P k (places_from (suc k) rs i) (here refl) rest
    by_test false here rest = rest

module _ (rule : FlowRule) (limit : ℕ)
    (turned : (z r : ℤ) → pos 1 ≤ℤ r → IsInLimit limit (rule z r) → IsInLimit (limit + 1) (rule (neg_ℤ z) r)) (n : ℕ)
    (rs : List Resistor) (all : All (IsResistorOf n) rs) (x : ℕ → ℤ)
    (flows : All (λ r. IsInLimit limit (rule (x r.a -ℤ x r.b) r.ohms)) rs) (i : ℕ) (d : Resistor) where
  one_flow : (r : Resistor) → IsResistorOf n r → IsInLimit limit (rule (x r.a -ℤ x r.b) r.ohms) → stands_at i r ≡ true
      → IsInLimit (limit + 1) (rule (x i -ℤ x (other_end r i)) r.ohms)
  one_flow r of_r within e = by_tests (eqb r.a i) (eqb r.b i) refl refl e
    where
      within_of : (z : ℤ) → rule (x r.a -ℤ x r.b) r.ohms ≡ z → IsInLimit (limit + 1) z
      within_of z e = (omega (arith, ints, within, e), omega (arith, ints, within, e))

      by_tests : (s t : Bool) → eqb r.a i ≡ s → eqb r.b i ≡ t → (s || t) ≡ true
          → IsInLimit (limit + 1) (rule (x i -ℤ x (cond s r.b r.a)) r.ohms)
      by_tests true t f g e =
          within_of (rule (x i -ℤ x r.b) r.ohms) (ap (λ (m : ℕ). rule (x m -ℤ x r.b) r.ohms) (eqb-true r.a i f))
      by_tests false true f g e =
          let back : neg_ℤ (x r.a -ℤ x r.b) ≡ x r.b -ℤ x r.a = omega (arith, ints) in
          let at_i = ap (λ z. rule z r.ohms) back ∙ ap (λ (m : ℕ). rule (x m -ℤ x r.a) r.ohms) (eqb-true r.b i g) in
          let h = turned (x r.a -ℤ x r.b) r.ohms of_r.resists within in
          (omega (arith, ints, h, at_i), omega (arith, ints, h, at_i))
      by_tests false false f g e = cc

  pub flows_around : All (λ k. IsInLimit (limit + 1) (flow_over rule rs x i d k)) (places_at rs i)
  flows_around =
      each_place (λ k. IsInLimit (limit + 1) (flow_over rule rs x i d k)) 0 rs i d
      (λ m l e. let m' : ◌≡◌ {A = ℕ} (0 + m) m = omega arith in let P : ℕ →
      Type 0 = λ k. IsInLimit (limit + 1) (flow_over rule rs x i d k) in subst P (sym m')
      (one_flow (get_or rs m d) (all m d l) (flows m d l) e))

-- ---- the two rules
-- Without a difference there is no flow.
pub floor_nothing : (r : ℤ) → pos 1 ≤ℤ r → floor_div (pos 0) r ≡ pos 0
floor_nothing r h =
    floor_unique (pos 0) r (floor_div (pos 0) r) (pos 0) h (floor_is (pos 0) r h)
    (record { reached = omega (arith, ints); next_is_above = omega (arith, ints) })

pub ceiling_nothing : (r : ℤ) → pos 1 ≤ℤ r → ceil_div (pos 0) r ≡ pos 0
ceiling_nothing r h = omega (arith, ints, floor_nothing r h)

-- The flow from the other end of a resistor is the negative, or one less.
pub floor_turned : (limit : ℕ) (z r : ℤ) → pos 1 ≤ℤ r → IsInLimit limit (floor_div z r)
    → IsInLimit (limit + 1) (floor_div (neg_ℤ z) r)
floor_turned limit z r h within =
    let F = floor_div z r in
    let G = floor_div (neg_ℤ z) r in
    let f = floor_is z r h in
    let g = floor_is (neg_ℤ z) r h in
    let below : (F +ℤ G) ≤ℤ pos 0 = times_le_out r (F +ℤ G) (pos 0) h
    (omega (arith, ints, f.reached, g.reached, times_sum r F G)) in
    let above : pos 0 <ℤ ((F +ℤ G) +ℤ pos 2) = times_lt_out r (pos 0) ((F +ℤ G) +ℤ pos 2) h
    (omega (arith, ints, f.next_is_above, g.next_is_above, times_next r F, times_next r G, times_sum r F G, times_sum r (F +ℤ G) (pos 2))) in
    (omega (arith, ints, below, above, within), omega (arith, ints, below, above, within))

pub ceiling_turned : (limit : ℕ) (z r : ℤ) → pos 1 ≤ℤ r → IsInLimit limit (ceil_div z r)
    → IsInLimit (limit + 1) (ceil_div (neg_ℤ z) r)
ceiling_turned limit z r h within =
    let t = floor_turned limit (neg_ℤ z) r h (omega (arith, ints, within), omega (arith, ints, within)) in
    (omega (arith, ints, t), omega (arith, ints, t))

-- The other end of a resistor is a node.
pub other_is_node : (n : ℕ) (r : Resistor) (i : ℕ) → IsResistorOf n r → other_end r i < n
other_is_node n r i of_r = by_test (eqb r.a i)
  where
    by_test : (b : Bool) → cond b r.b r.a < n
    by_test true = of_r.b_is_node
    by_test false = of_r.a_is_node

-- ---- degrees
at_most_one : (b : Bool) → cond b 1 0 ≤ 1
at_most_one true = omega arith
at_most_one false = omega arith

-- No more resistors stand at a node than there are.
pub degree_at_most : (rs : List Resistor) (i : ℕ) → degree rs i ≤ length rs
degree_at_most [] i = omega arith
degree_at_most (r ∷ rs) i = let a = at_most_one (stands_at i r) in let b = degree_at_most rs i in omega arith

length_if : (s : Bool) (k : ℕ) (ks : List ℕ) → length (cond s (k ∷ ks) ks) ≡ cond s 1 0 + length ks
length_if true k ks = omega arith
length_if false k ks = omega arith

-- The places at a node are as many as its degree.
pub degree_from : (k : ℕ) (rs : List Resistor) (i : ℕ) → degree rs i ≡ length (places_from k rs i)
degree_from k [] i = refl
degree_from k (r ∷ rs) i =
    let a = length_if (stands_at i r) k (places_from (suc k) rs i) in let b = degree_from (suc k) rs i in omega arith
