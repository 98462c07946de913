-- Currents along chains of shorts: one unit that leaves one node and arrives at another.
use Rattle.std.proofs.Common.{◌≡◌, ℕ, zero, suc, ◌<◌, inl, inr, ℤ, pos, negsuc, neg_ℤ, ◌+ℤ◌, ◌-ℤ◌, ◌*ℤ◌, arith, refl, ap, ◌∙◌, subst, List, [], ◌∷◌, length, get_or, Bool, true, false, cond, eqb}
use Rattle.std.proofs.lemmas.Int.{ints}
use Rattle.std.proofs.lemmas.Bool.{cases_eq}
use Rattle.grid_net.specs.Shorted.{short_current}
use Rattle.node_groups.specs.Joined.{IsShorted, IsChain}
use Rattle.solution_exists.proofs.Linear.{IsLinear, linear_at, linear_nothing, linear_sum, linear_neg, linear_if, unit, unit_here, unit_other}

-- What leaves a node over shorts is linear in the currents.
pub linear_shorts : (n : ℕ) (shorts : List (ℕ × ℕ)) (place : ℕ → ℕ) (i : ℕ) → ((k : ℕ) → k < length shorts → place k < n)
    → IsLinear n (λ x. short_current shorts (λ k. x (place k)) i)
linear_shorts n [] place i below = linear_nothing n
linear_shorts n (ends ∷ shorts) place i below =
    let here = linear_at n (place 0) (below 0 (omega arith)) in
    let out = linear_if n (λ x. x (place 0)) (λ x. x (place 0)) here (eqb ends.0 i) in
    let turned = linear_neg n (λ x. x (place 0)) (λ x. x (place 0)) here in
    let into = linear_if n (λ x. neg_ℤ (x (place 0))) (λ x. x (place 0)) turned (eqb ends.1 i) in
    let both = linear_sum n (λ x. cond (eqb ends.0 i) (x (place 0)) (pos 0)) (λ x. cond (eqb ends.1 i) (neg_ℤ (x (place 0))) (pos 0))
    out into in
    linear_sum n (λ x. cond (eqb ends.0 i) (x (place 0)) (pos 0) +ℤ cond (eqb ends.1 i) (neg_ℤ (x (place 0))) (pos 0))
    (λ x. short_current shorts (λ k. x (place (suc k))) i) both
    (linear_shorts n shorts (λ k. place (suc k)) i (λ k l. below (suc k) (omega arith)))

module _ (shorts : List (ℕ × ℕ)) (i : ℕ) where
  linear : IsLinear (length shorts) (λ x. short_current shorts x i)
  linear = linear_shorts (length shorts) shorts (λ k. k) i (λ k l. l)

  pub shorts_combined : (u v : ℤ) (s t : ℕ → ℤ)
      → short_current shorts (λ k. u *ℤ s k +ℤ v *ℤ t k) i ≡ u *ℤ short_current shorts s i +ℤ v *ℤ short_current shorts t i
  shorts_combined = linear.combined

  pub shorts_same : (s t : ℕ → ℤ) → ((k : ℕ) → k < length shorts → s k ≡ t k) → short_current shorts s i ≡ short_current shorts t i
  shorts_same = linear.local

  pub shorts_nothing : (s : ℕ → ℤ) → ((k : ℕ) → k < length shorts → s k ≡ pos 0) → short_current shorts s i ≡ pos 0
  shorts_nothing s none =
      let a = shorts_same s (λ k. pos 0 *ℤ s k +ℤ pos 0 *ℤ s k) (λ k l. omega (arith, ints, none k l)) in
      let b = shorts_combined (pos 0) (pos 0) s s in omega (arith, ints, a, b)

-- One at a node, and 0 at all others.
abbrev pub mark : ℕ → ℕ → ℤ
mark i node = cond (eqb i node) (pos 1) (pos 0)

unit_next : (t k : ℕ) → unit (suc t) (suc k) ≡ unit t k
unit_next t k = elim (cases_eq k t) [
  | inl e ↦ (
      let a : unit (suc t) (suc k) ≡ pos 1 = ap (λ (n : ℕ). unit (suc t) (suc n)) e ∙ unit_here (suc t) in
      let b : unit t k ≡ pos 1 = ap (unit t) e ∙ unit_here t in omega (arith, ints, a, b))
  | inr ne ↦ (
      let a = unit_other (suc t) (suc k) (λ e. ne (omega (arith, e))) in
      let b = unit_other t k ne in omega (arith, ints, a, b))
]

-- One unit through one short.
pub one_short : (shorts : List (ℕ × ℕ)) (t : ℕ) (d : ℕ × ℕ) → t < length shorts → (node : ℕ)
    → short_current shorts (unit t) node ≡ mark (get_or shorts t d).0 node -ℤ mark (get_or shorts t d).1 node
one_short [] t d l node = absurd (omega arith)
one_short (e ∷ shorts) zero d l node =
    ends_of (eqb e.0 node) (eqb e.1 node) (unit 0 0) (short_current shorts (λ k. unit 0 (suc k)) node) (unit_here 0)
    (shorts_nothing shorts node (λ k. unit 0 (suc k)) (λ k m. unit_other 0 (suc k) (λ e. absurd (omega (arith, e)))))
  where
    ends_of : (s t : Bool) (x y : ℤ) → x ≡ pos 1 → y ≡ pos 0
        → (cond s x (pos 0) +ℤ cond t (neg_ℤ x) (pos 0)) +ℤ y ≡ cond s (pos 1) (pos 0) -ℤ cond t (pos 1) (pos 0)
    ends_of true true x y f g = omega (arith, ints)
    ends_of true false x y f g = omega (arith, ints)
    ends_of false true x y f g = omega (arith, ints)
    ends_of false false x y f g = omega (arith, ints)
one_short (e ∷ shorts) (suc t) d l node =
    let rest = one_short shorts t d (omega (arith, l)) node in
    let same = shorts_same shorts node (λ k. unit (suc t) (suc k)) (unit t) (λ k m. unit_next t k) in
    let none = no_ends (eqb e.0 node) (eqb e.1 node) (unit (suc t) 0) (unit_other (suc t) 0 (λ e. absurd (omega (arith, e)))) in
    omega (arith, ints, rest, same, none)
  where
    no_ends : (s t : Bool) (x : ℤ) → x ≡ pos 0 → cond s x (pos 0) +ℤ cond t (neg_ℤ x) (pos 0) ≡ pos 0
    no_ends true true x f = omega (arith, ints)
    no_ends true false x f = omega (arith, ints)
    no_ends false true x f = omega (arith, ints)
    no_ends false false x f = omega (arith, ints)

-- One unit that leaves the network of shorts' node i and arrives at node j.
pub record Flow (shorts : List (ℕ × ℕ)) (i j : ℕ) : Type 0 where
  pub s : ℕ → ℤ
  pub leaves : (node : ℕ) → short_current shorts s node ≡ mark i node -ℤ mark j node

flow_step : (shorts : List (ℕ × ℕ)) (i j : ℕ) → IsShorted shorts i j → Flow shorts i j
flow_step shorts i j h = elim h [
  | inl c ↦ record {
    s = unit c.0;
    leaves = λ node.
        (let a = one_short shorts c.0 (i, j) c.1 node in
        subst (λ (e : ℕ × ℕ). short_current shorts (unit c.0) node ≡ mark e.0 node -ℤ mark e.1 node) c.2 a);
  }
  | inr c ↦ record {
    s = λ k. negsuc 0 *ℤ unit c.0 k +ℤ pos 0 *ℤ unit c.0 k;
    leaves = λ node.
        (let a = one_short shorts c.0 (j, i) c.1 node in
        let b : short_current shorts (unit c.0) node ≡ mark j node -ℤ mark i node = subst
        (λ (e : ℕ × ℕ). short_current shorts (unit c.0) node ≡ mark e.0 node -ℤ mark e.1 node) c.2 a in
        let t = shorts_combined shorts node (negsuc 0) (pos 0) (unit c.0) (unit c.0) in
        omega (arith, ints, b, t));
  }
]

pub flow_along : (shorts : List (ℕ × ℕ)) (k i j : ℕ) → IsChain shorts k i j → Flow shorts i j
flow_along shorts zero i j e = record {
  s = λ k. pos 0;
  leaves = λ node.
      (let none = shorts_nothing shorts node (λ k. pos 0) (λ k l. refl) in
      let same = ap (λ (m : ℕ). mark m node) e in omega (arith, ints, none, same));
}
flow_along shorts (suc k) i j chain =
    let first = flow_step shorts i chain.0 chain.1 in
    let rest = flow_along shorts k chain.0 j chain.2 in
    record {
      s = λ n. pos 1 *ℤ first.s n +ℤ pos 1 *ℤ rest.s n;
      leaves = λ node.
          (let t = shorts_combined shorts node (pos 1) (pos 1) first.s rest.s in
          omega (arith, ints, t, first.leaves node, rest.leaves node));
    }
