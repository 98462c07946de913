-- Rounding to whole units, down and up.
use Rattle.std.proofs.Common.{◌≡◌, ℕ, ◌-◌, ◌*◌, ◌%◌, ◌<◌, ℤ, pos, negsuc, ◌+ℤ◌, ◌*ℤ◌, ◌≤ℤ◌, ◌<ℤ◌, arith, ap, sym, ◌∙◌, mul-le-mul_left, div-add-mod', mod-lt, refl}
use Rattle.std.specs.Int.{int_div_euclid, int_rem_euclid}
use Rattle.std.proofs.lemmas.Int.{ints, by_lt_z}
use borrow.Author.Differences.{le_out, lt_out, sum_is_lem}
use Rattle.fixed_decimal.specs.Printed.{IsRoundedDown, IsRoundedUp}

-- A product grows with its second factor.
times_le : (k : ℕ) (x y : ℤ) → x ≤ℤ y → (pos k *ℤ x) ≤ℤ (pos k *ℤ y)
times_le k x y le = omega (arith, ints, mul-le-mul_left k (le_out x y le))

times_lt : (k : ℕ) (x y : ℤ) → x <ℤ y → (pos k *ℤ x +ℤ pos k) ≤ℤ (pos k *ℤ y)
times_lt k x y lt = omega (arith, ints, mul-le-mul_left k (lt_out x y lt))

times_next : (k : ℕ) (x : ℤ) → pos k *ℤ (x +ℤ pos 1) ≡ pos k *ℤ x +ℤ pos k
times_next k x = omega (arith, ints, ap (λ n. k * n) (sum_is_lem x (pos 1)))

-- The quotient and the rest.
quotient_is : (z : ℤ) (u : ℕ) → 0 < u → (k : ℕ) × (int_rem_euclid z (pos u) ≡ pos k) × (k < u) × (z ≡ pos u *ℤ int_div_euclid z (pos u) +ℤ pos k)
quotient_is (pos a) u some =
    let sum = div-add-mod' a u in
    let small : a % u < u = mod-lt a some in
    (a % u, refl, small, omega (arith, ints))
quotient_is (negsuc a) u some =
    let sum = div-add-mod' a u in
    let small : a % u < u = mod-lt a some in
    (u - 1 - a % u, refl, omega arith, omega (arith, ints))

pub rounded_down_is : (z : ℤ) (u : ℕ) → 0 < u → IsRoundedDown z u (int_div_euclid z (pos u))
rounded_down_is z u some =
    let q = quotient_is z u some in
    let is = q.3 in
    let small = q.2 in
    record {
      reached = omega (arith, ints, is);
      greatest = λ r h. by_lt_z (int_div_euclid z (pos u)) r
          (λ less. absurd (let more = times_lt u (int_div_euclid z (pos u)) r less in omega (arith, ints, is, more, h, small)))
          (λ most. most);
    }

pub rounded_up_exact : (z : ℤ) (u : ℕ) → 0 < u → int_rem_euclid z (pos u) ≡ pos 0 → IsRoundedUp z u (int_div_euclid z (pos u))
rounded_up_exact z u some none =
    let q = quotient_is z u some in
    let is = q.3 in
    let rest : q.0 ≡ 0 = (let e = sym q.1 ∙ none in omega (arith, ints, e)) in
    record {
      reaches = omega (arith, ints, is, rest);
      least = λ r h. by_lt_z r (int_div_euclid z (pos u))
          (λ less. absurd (let more = times_lt u r (int_div_euclid z (pos u)) less in omega (arith, ints, is, more, h, some, rest)))
          (λ most. most);
    }

pub rounded_up_next : (z : ℤ) (u : ℕ) → 0 < u → (int_rem_euclid z (pos u) ≡ pos 0 → ⊥) → IsRoundedUp z u (int_div_euclid z (pos u) +ℤ pos 1)
rounded_up_next z u some other =
    let q = quotient_is z u some in
    let is = q.3 in
    let small = q.2 in
    let next = times_next u (int_div_euclid z (pos u)) in
    record {
      reaches = omega (arith, ints, is, small, next);
      least = λ r h. by_lt_z (int_div_euclid z (pos u)) r
          (λ less. omega (arith, ints, less))
          (λ most. absurd (let fewer = times_le u r (int_div_euclid z (pos u)) most in
          let rest : q.0 ≡ 0 = omega (arith, ints, is, fewer, h) in
          other (q.1 ∙ ap pos rest)));
    }

pub rounded_down_unique : (z : ℤ) (u : ℕ) (q r : ℤ) → IsRoundedDown z u q → IsRoundedDown z u r → q ≡ r
rounded_down_unique z u q r a b = omega (arith, ints, b.greatest q a.reached, a.greatest r b.reached)

pub rounded_up_unique : (z : ℤ) (u : ℕ) (q r : ℤ) → IsRoundedUp z u q → IsRoundedUp z u r → q ≡ r
rounded_up_unique z u q r a b = omega (arith, ints, a.least r b.reaches, b.least q a.reaches)
