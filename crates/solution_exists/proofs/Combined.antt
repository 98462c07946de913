-- Multiples and differences of what meets the equations of a network.
use Rattle.std.proofs.Common.{◌≡◌, ℕ, suc, ◌<◌, ℤ, pos, neg_ℤ, ◌+ℤ◌, ◌-ℤ◌, ◌*ℤ◌, arith, sym, ap, ◌∙◌, List, [], ◌∷◌, length, get_or, cond, eqb}
use Rattle.std.proofs.lemmas.Int.{ints}
use Rattle.rounding.specs.Laws.{times_sum, times_difference}
use Rattle.grid_net.specs.declared.part.Resistor.{Resistor}
use Rattle.grid_net.specs.Network.{Network, net_current}
use Rattle.solution_exists.specs.Branches.{Branch, over_branches, Balances}
use Rattle.solution_exists.specs.Laws.{times_assoc, times_exchange, sum_times}
use Rattle.solution_exists.proofs.Linear.{IsLinear, linear_at, linear_nothing, linear_sum, linear_neg, linear_if}

-- ---- the sums of Kirchhoff's law are linear in the currents, each of which has a place among the unknowns
pub linear_currents : (n : ℕ) (rs : List Resistor) (place : ℕ → ℕ) (i : ℕ) → ((k : ℕ) → k < length rs → place k < n)
    → IsLinear n (λ x. net_current rs (λ k. x (place k)) i)
linear_currents n [] place i below = linear_nothing n
linear_currents n (r ∷ rs) place i below =
    let here = linear_at n (place 0) (below 0 (omega arith)) in
    let out = linear_if n (λ x. x (place 0)) (λ x. x (place 0)) here (eqb r.a i) in
    let turned = linear_neg n (λ x. x (place 0)) (λ x. x (place 0)) here in
    let into = linear_if n (λ x. neg_ℤ (x (place 0))) (λ x. x (place 0)) turned (eqb r.b i) in
    let both = linear_sum n (λ x. cond (eqb r.a i) (x (place 0)) (pos 0)) (λ x. cond (eqb r.b i) (neg_ℤ (x (place 0))) (pos 0)) out into in
    linear_sum n (λ x. cond (eqb r.a i) (x (place 0)) (pos 0) +ℤ cond (eqb r.b i) (neg_ℤ (x (place 0))) (pos 0))
    (λ x. net_current rs (λ k. x (place (suc k))) i) both
    (linear_currents n rs (λ k. place (suc k)) i (λ k l. below (suc k) (omega arith)))

pub linear_branches : (n : ℕ) (xs : List Branch) (place : ℕ → ℕ) (i : ℕ) → ((k : ℕ) → k < length xs → place k < n)
    → IsLinear n (λ x. over_branches xs (λ k. x (place k)) i)
linear_branches n [] place i below = linear_nothing n
linear_branches n (b ∷ xs) place i below =
    let here = linear_if n (λ x. x (place 0)) (λ x. x (place 0)) (linear_at n (place 0) (below 0 (omega arith))) (eqb b.node i) in
    linear_sum n (λ x. cond (eqb b.node i) (x (place 0)) (pos 0)) (λ x. over_branches xs (λ k. x (place (suc k))) i) here
    (linear_branches n xs (λ k. place (suc k)) i (λ k l. below (suc k) (omega arith)))

currents_combined : (rs : List Resistor) (i : ℕ) (u v : ℤ) (c d : ℕ → ℤ)
    → net_current rs (λ k. u *ℤ c k +ℤ v *ℤ d k) i ≡ u *ℤ net_current rs c i +ℤ v *ℤ net_current rs d i
currents_combined rs i u v c d = (linear_currents (length rs) rs (λ k. k) i (λ k l. l)).combined u v c d

branches_combined : (xs : List Branch) (i : ℕ) (u v : ℤ) (c d : ℕ → ℤ)
    → over_branches xs (λ k. u *ℤ c k +ℤ v *ℤ d k) i ≡ u *ℤ over_branches xs c i +ℤ v *ℤ over_branches xs d i
branches_combined xs i u v c d = (linear_branches (length xs) xs (λ k. k) i (λ k l. l)).combined u v c d

currents_scaled : (rs : List Resistor) (i : ℕ) (n : ℤ) (c : ℕ → ℤ) → net_current rs (λ k. n *ℤ c k) i ≡ n *ℤ net_current rs c i
currents_scaled rs i n c =
    let linear = linear_currents (length rs) rs (λ k. k) i (λ k l. l) in
    let a = linear.local (λ k. n *ℤ c k) (λ k. n *ℤ c k +ℤ pos 0 *ℤ c k) (λ k l. omega (arith, ints)) in
    let b = linear.combined n (pos 0) c c in omega (arith, ints, a, b)

branches_scaled : (xs : List Branch) (i : ℕ) (n : ℤ) (k : ℕ → ℤ) → over_branches xs (λ j. n *ℤ k j) i ≡ n *ℤ over_branches xs k i
branches_scaled xs i n k =
    let linear = linear_branches (length xs) xs (λ j. j) i (λ j l. l) in
    let a = linear.local (λ j. n *ℤ k j) (λ j. n *ℤ k j +ℤ pos 0 *ℤ k j) (λ j l. omega (arith, ints)) in
    let b = linear.combined n (pos 0) k k in omega (arith, ints, a, b)

-- ---- the equations
module _ (net : Network) (branches : List Branch) where
  -- u times one and v times another of what meets the equations.
  pub combined : (u v q q' : ℤ) (h l p c k h' l' p' c' k' : ℕ → ℤ) → Balances net branches q h l p c k
      → Balances net branches q' h' l' p' c' k'
      → Balances net branches (u *ℤ q +ℤ v *ℤ q') (λ i. u *ℤ h i +ℤ v *ℤ h' i) (λ i. u *ℤ l i +ℤ v *ℤ l' i)
      (λ i. u *ℤ p i +ℤ v *ℤ p' i) (λ j. u *ℤ c j +ℤ v *ℤ c' j) (λ j. u *ℤ k j +ℤ v *ℤ k' j)
  combined u v q q' h l p c k h' l' p' c' k' one other = record {
    ohm = λ j d m. (let r = get_or net.resistors j d in resisted r.ohms (p r.a) (p r.b) (c j) (p' r.a) (p' r.b) (c' j) (one.ohm j d m) (other.ohm j d m));
    branch = λ j d m.
        (let x = get_or branches j d in
        resisted x.ohms (p x.node) (h x.node) (k j) (p' x.node) (h' x.node) (k' j) (one.branch j d m) (other.branch j d m));
    kirchhoff = λ i m free.
        (let a = one.kirchhoff i m free in
        let b = other.kirchhoff i m free in
        let c1 = currents_combined net.resistors i u v c c' in
        let k1 = branches_combined branches i u v k k' in
        let N = net_current net.resistors c i in
        let N' = net_current net.resistors c' i in
        let B = over_branches branches k i in
        let B' = over_branches branches k' i in
        let s = times_sum u (N +ℤ B) (l i) in
        let t = times_sum u N B in
        let s' = times_sum v (N' +ℤ B') (l' i) in
        let t' = times_sum v N' B' in
        let e = ap (λ z. u *ℤ z) a in
        let f = ap (λ z. v *ℤ z) b in
        omega (arith, ints, c1, k1, s, t, s', t', e, f));
    pads = λ i w m pad.
        (let a = ap (λ z. u *ℤ z) (one.pads i w m pad) in
        let b = ap (λ z. v *ℤ z) (other.pads i w m pad) in
        let s = sum_times (u *ℤ q) (v *ℤ q') w in
        let e = times_assoc u q w in
        let f = times_assoc v q' w in
        omega (arith, ints, a, b, s, e, f));
  }
    where
      resisted : (R a b x a' b' x' : ℤ) → a -ℤ b ≡ R *ℤ x → a' -ℤ b' ≡ R *ℤ x'
          → (u *ℤ a +ℤ v *ℤ a') -ℤ (u *ℤ b +ℤ v *ℤ b') ≡ R *ℤ (u *ℤ x +ℤ v *ℤ x')
      resisted R a b x a' b' x' e f =
          let g = ap (λ z. u *ℤ z) e in
          let h = ap (λ z. v *ℤ z) f in
          let s = times_difference u a b in
          let t = times_difference v a' b' in
          let m = times_sum R (u *ℤ x) (v *ℤ x') in
          let n = times_exchange u R x in
          let o = times_exchange v R x' in
          omega (arith, ints, g, h, s, t, m, n, o)

  -- What meets the equations meets them if the numbers in them are written otherwise.
  pub restated : (q q' : ℤ) (h l p c k h' l' : ℕ → ℤ) → q ≡ q' → ((i : ℕ) → h i ≡ h' i) → ((i : ℕ) → l i ≡ l' i)
      → Balances net branches q h l p c k → Balances net branches q' h' l' p c k
  restated q q' h l p c k h' l' e f g one = record {
    ohm = one.ohm;
    branch = λ j d m. (let x = get_or branches j d in let a = one.branch j d m in omega (arith, ints, a, f x.node));
    kirchhoff = λ i m free. (let a = one.kirchhoff i m free in omega (arith, ints, a, g i));
    pads = λ i w m pad. one.pads i w m pad ∙ ap (λ z. z *ℤ w) e;
  }

  -- Multiples of what meets the equations.
  pub scaled : (n q : ℤ) (h l p c k : ℕ → ℤ) → Balances net branches q h l p c k
      → Balances net branches (n *ℤ q) (λ i. n *ℤ h i) (λ i. n *ℤ l i) (λ i. n *ℤ p i) (λ j. n *ℤ c j) (λ j. n *ℤ k j)
  scaled n q h l p c k one = record {
    ohm = λ j d m. (let r = get_or net.resistors j d in resisted r.ohms (p r.a) (p r.b) (c j) (one.ohm j d m));
    branch = λ j d m. (let x = get_or branches j d in resisted x.ohms (p x.node) (h x.node) (k j) (one.branch j d m));
    kirchhoff = λ i m free.
        (let a = ap (λ z. n *ℤ z) (one.kirchhoff i m free) in
        let N = net_current net.resistors c i in
        let B = over_branches branches k i in
        let s = times_sum n (N +ℤ B) (l i) in
        let t = times_sum n N B in
        let e = currents_scaled net.resistors i n c in
        let f = branches_scaled branches i n k in
        omega (arith, ints, a, s, t, e, f));
    pads = λ i w m pad. ap (λ z. n *ℤ z) (one.pads i w m pad) ∙ sym (times_assoc n q w);
  }
    where
      resisted : (R a b x : ℤ) → a -ℤ b ≡ R *ℤ x → n *ℤ a -ℤ n *ℤ b ≡ R *ℤ (n *ℤ x)
      resisted R a b x e =
          let g = ap (λ z. n *ℤ z) e in
          let s = times_difference n a b in
          let m = times_exchange n R x in
          omega (arith, ints, g, s, m)
