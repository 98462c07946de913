-- Levels are fewer than nodes, and the numbers of a network within the limits fit.
use Rattle.std.proofs.Common.{◌≡◌, ◌≢◌, ℕ, zero, suc, ◌+◌, ◌*◌, ◌^◌, ◌<◌, ◌≤◌, inl, inr, arith, refl, sym, ◌∙◌, subst, List, [], ◌∷◌, length, All, Bool, true, false, cond, ◌||◌, eqb, eqb-true, eq-eqb, mul-le-mul, min}
use Rattle.std.proofs.lemmas.Bool.{cases_eq, cases_lt}
use Rattle.std.proofs.lemmas.List.Elements.{All-head, All-tail}
use Rattle.grid_net.specs.declared.part.Resistor.{Resistor}
use Rattle.grid_net.specs.Network.{Network, IsNetwork, IsResistorOf, degree, over_nodes, total_load}
use Rattle.bound_make.specs.inside.Raising.{IsSuppliedWithin}
use Rattle.bound_make.specs.Scale.{flow_reach, margin}
use Rattle.grid_net.specs.Level.{IsWithin, IsLevel}
use Rattle.bound_make.proofs.Reach.{over_add, over_le, reach_is}
use Rattle.bound_make.proofs.Lift.{over_same}

-- A chain may be counted as longer.
pub within_more : (net : Network) (k m i : ℕ) → k ≤ m → IsWithin net k i → IsWithin net m i
within_more net k zero i le w = let e : k ≡ 0 = omega arith in subst (λ (j : ℕ). IsWithin net j i) e w
within_more net k (suc m) i le w = elim (cases_eq k (suc m)) [ inl e ↦ subst (λ (j : ℕ). IsWithin net j i) e w | inr ne ↦ inl (within_more net k m i (omega arith) w) ]

-- A node has one level.
pub level_unique : (net : Network) (i k m : ℕ) → IsLevel net i k → IsLevel net i m → k ≡ m
level_unique net i k m a b = elim (cases_lt k m) [
  | inl lt ↦ absurd (b.not_nearer k lt a.within)
  | inr ge ↦ elim (cases_eq k m) [ inl e ↦ e | inr ne ↦ absurd (a.not_nearer m (omega arith) b.within) ]
]

-- Below a level stands a node of the next lower one.
lower_level : (net : Network) (i k : ℕ) → IsLevel net i (suc k) → (j : ℕ) × (j < net.nodes) × IsLevel net j k
lower_level net i k level = by_way level.within
  where
    by_way : IsWithin net (suc k) i → (j : ℕ) × (j < net.nodes) × IsLevel net j k
    by_way (inl w) = absurd (level.not_nearer k (omega arith) w)
    by_way (inr (j, l, joined, w)) = (j, l, record { within = w; not_nearer = λ m lt v. level.not_nearer (suc m) (omega arith) (inr (j, l, joined, v)) })

-- A node of each level up to that of a given node.
level_at : (net : Network) (k i : ℕ) → i < net.nodes → IsLevel net i k → (m : ℕ) → m ≤ k → (j : ℕ) × (j < net.nodes) × IsLevel net j m
level_at net zero i l level m le = let e : 0 ≡ m = omega arith in (i, l, subst (λ (n : ℕ). IsLevel net i n) e level)
level_at net (suc k) i l level m le = elim (cases_eq m (suc k)) [
  | inl e ↦ (i, l, subst (λ (n : ℕ). IsLevel net i n) (sym e) level)
  | inr ne ↦ (let b = lower_level net i k level in level_at net k b.0 b.1 b.2 m (omega arith))
]

zero_if : (b : Bool) → (b ≡ true → ⊥) → ◌≡◌ {A = ℕ} (cond b 1 0) 0
zero_if true h = absurd (h refl)
zero_if false h = refl

one_if : (b : Bool) → b ≡ true → ◌≡◌ {A = ℕ} (cond b 1 0) 1
one_if true h = refl
one_if false h = cc

-- ---- as many different numbers below n as there are, are at most n
hits : (ℕ → ℕ) → ℕ → ℕ → ℕ
hits f c i = over_nodes c (λ k. cond (eqb (f k) i) 1 0)

one_beyond : (n a : ℕ) → n ≤ a → over_nodes n (λ i. cond (eqb a i) 1 0) ≡ 0
one_beyond zero a h = refl
one_beyond (suc n) a h = let rest = one_beyond n a (omega arith) in let last = zero_if (eqb a n) (λ e. let s = eqb-true a n e in omega arith) in omega arith

pub one_hit : (n a : ℕ) → a < n → over_nodes n (λ i. cond (eqb a i) 1 0) ≡ 1
one_hit zero a h = absurd (omega arith)
one_hit (suc n) a h = elim (cases_eq a n) [
  | inl e ↦ (let rest = one_beyond n a (omega arith) in let last = one_if (eqb a n) (eq-eqb a n e) in omega arith)
  | inr ne ↦ (let rest = one_hit n a (omega arith) in let last = zero_if (eqb a n) (λ e. ne (eqb-true a n e)) in omega arith)
]

all_hits : (f : ℕ → ℕ) (n c : ℕ) → ((k : ℕ) → k < c → f k < n) → over_nodes n (hits f c) ≡ c
unfolding hits
all_hits f n zero h = over_same n 0 ∙ (omega arith)
all_hits f n (suc c) h =
    let a = over_add n (hits f c) (λ i. cond (eqb (f c) i) 1 0) in
    let b = all_hits f n c (λ k l. h k (omega arith)) in
    let d = one_hit n (f c) (h c (omega arith)) in
    omega arith

who_hits : (f : ℕ → ℕ) (c i : ℕ) → 1 ≤ hits f c i → (k : ℕ) × (k < c) × (f k ≡ i)
unfolding hits
who_hits f zero i h = absurd (omega arith)
who_hits f (suc c) i h = elim (cases_eq (f c) i) [
  | inl e ↦ (c, omega arith, e)
  | inr ne ↦ (let z = zero_if (eqb (f c) i) (λ e. ne (eqb-true (f c) i e)) in let w = who_hits f c i (omega arith) in (w.0, omega (arith, w.1), w.2))
]

one_at_most : (f : ℕ → ℕ) (c i : ℕ) → ((k m : ℕ) → k < m → m < c → f k ≢ f m) → hits f c i ≤ 1
unfolding hits
one_at_most f zero i h = omega arith
one_at_most f (suc c) i h = elim (cases_lt 0 (hits f c i)) [
  | inl some ↦
      (let w = who_hits f c i some in
      let z = zero_if (eqb (f c) i) (λ e. h w.0 c w.1 (omega arith) (w.2 ∙ sym (eqb-true (f c) i e))) in
      let rest = one_at_most f c i (λ k m lt l. h k m lt (omega arith)) in
      omega arith)
  | inr none ↦ (let o = one_or_zero (eqb (f c) i) in omega arith)
]
  where
    one_or_zero : (b : Bool) → cond b 1 0 ≤ 1
    one_or_zero true = omega arith
    one_or_zero false = omega arith

different_fit : (f : ℕ → ℕ) (n c : ℕ) → ((k : ℕ) → k < c → f k < n) → ((k m : ℕ) → k < m → m < c → f k ≢ f m) → c ≤ n
different_fit f n c below apart =
    let a = all_hits f n c below in
    let b = over_le n (hits f c) (λ i. 1) (λ i. one_at_most f c i apart) in
    let e = over_same n 1 in
    omega arith

-- The level of a node is less than the number of nodes.
module _ (net : Network) (i k : ℕ) (l : i < net.nodes) (level : IsLevel net i k) where
  of_level : (m : ℕ) → (j : ℕ) × (j < net.nodes) × IsLevel net j (min m k)
  of_level m = level_at net k i l level (min m k) (omega arith)

  apart : (m j : ℕ) → m < j → j < suc k → (of_level m).0 ≢ (of_level j).0
  apart m j lt le e =
      let same = level_unique net (of_level j).0 (min m k) (min j k) (subst (λ (n : ℕ). IsLevel net n (min m k)) e (of_level m).2) (of_level j).2 in
      omega arith

  pub level_below_nodes : k < net.nodes
  level_below_nodes = different_fit (λ m. (of_level m).0) net.nodes (suc k) (λ m lt. (of_level m).1) apart

-- The greatest level supplies every node.
pub supplied_by_levels : (net : Network) (k : ℕ) → ((i : ℕ) → i < net.nodes → (m : ℕ) × (m ≤ k) × IsLevel net i m) → IsSuppliedWithin net k
supplied_by_levels net k h i l = let m = h i l in within_more net m.0 k i m.1 m.2.within

-- ---- numbers
two_ends : (s t : Bool) → cond (s || t) 1 0 ≤ cond s 1 0 + cond t 1 0
two_ends true t = omega arith
two_ends false t = omega arith

-- Each resistor stands at two nodes at most.
degrees_le : (n : ℕ) (rs : List Resistor) → All (IsResistorOf n) rs → over_nodes n (degree rs) ≤ 2 * length rs
degrees_le n [] all = let e = over_same n 0 in omega arith
degrees_le n (r ∷ rs) all =
    let of_r = All-head (IsResistorOf n) r rs all in
    let rest = degrees_le n rs (All-tail (IsResistorOf n) r rs all) in
    let split = over_add n (λ i. cond (eqb r.a i || eqb r.b i) 1 0) (degree rs) in
    let both = over_le n (λ i. cond (eqb r.a i || eqb r.b i) 1 0) (λ i. cond (eqb r.a i) 1 0 + cond (eqb r.b i) 1 0) (λ i. two_ends (eqb r.a i) (eqb r.b i)) in
    let ends = over_add n (λ i. cond (eqb r.a i) 1 0) (λ i. cond (eqb r.b i) 1 0) in
    let a = one_hit n r.a of_r.a_is_node in
    let b = one_hit n r.b of_r.b_is_node in
    omega arith

module _ (net : Network) (wf : IsNetwork net) (k r : ℕ) (nodes : net.nodes ≤ 2 * 10 ^ 6) (resistors : length net.resistors ≤ 4 * 10 ^ 6) (loads : total_load net ≤ 10 ^ 18) (levels : k ≤ net.nodes) (ohms : r ≤ 10 ^ 12) where
  pub reach_fits : flow_reach net ≤ 10 ^ 18 + 13 * 10 ^ 8
  reach_fits =
      let a = reach_is net wf in
      let b = degrees_le net.nodes net.resistors wf.each_resistor in
      omega arith

  pub margin_fits : margin net k r ≤ 2 * 10 ^ 6 * (10 ^ 12 * (10 ^ 18 + 13 * 10 ^ 8))
  margin_fits = let few : k ≤ 2 * 10 ^ 6 = omega arith in mul-le-mul few (mul-le-mul ohms reach_fits)

  pub range_fits : 10 ^ 25 + 2 * margin net k r ≤ 5 * 10 ^ 36
  range_fits = let m = margin_fits in omega arith
