-- Rust's quotient of whole numbers, which drops the fraction, beside the floor and the ceiling.
use Rattle.std.proofs.Common.{refl, ◌≡◌, ℕ, zero, suc, ◌^◌, ◌*◌, ◌/◌, ◌%◌, ◌<◌, ℤ, pos, negsuc, neg_ℤ, ◌+ℤ◌, ◌-ℤ◌, ◌*ℤ◌, ◌≤ℤ◌, ◌<ℤ◌, arith, mul-le-mul_left, ◌≤◌, div-add-mod', mod-lt, SFits}
use mir.Syntax.{w128}
use Rattle.std.proofs.lemmas.Int.{ints}
use Rattle.rounding.specs.Rounding.{IsFloor, floor_div, ceil_div}
use Rattle.rounding.specs.Laws.{times_neg, times_next, times_last, floor_is, floor_unique}
use lib.Signed.{quot_z}
use Rattle.std.proofs.Math.Nat.{div-le_self}

product_neg : (n k : ℕ) → neg_ℤ (pos n) *ℤ pos k ≡ neg_ℤ (pos (n * k))
product_neg zero k = omega (arith, ints)
product_neg (suc n) k = omega (arith, ints)

-- Rust's quotient, which drops the fraction, is the floor where its product with the divisor is not above the number.
pub quotient_down : (z r : ℤ) → pos 1 ≤ℤ r → (quot_z z r *ℤ r) ≤ℤ z → quot_z z r ≡ floor_div z r
quotient_down z r h le = floor_unique z r (quot_z z r) (floor_div z r) h (is_floor z r h le) (floor_is z r h)
  where
    is_floor : (z r : ℤ) → pos 1 ≤ℤ r → (quot_z z r *ℤ r) ≤ℤ z → IsFloor z r (quot_z z r)
    is_floor (pos a) (pos k) h le =
        let s = div-add-mod' a k in let m : a % k < k = mod-lt a (omega (arith, ints)) in record { reached = omega (arith, ints); next_is_above = omega (arith, ints) }
    is_floor (negsuc a) (pos k) h le =
        let s = div-add-mod' (suc a) k in
        let m : suc a % k < k = mod-lt (suc a) (omega (arith, ints)) in
        let q = neg_ℤ (pos (suc a / k)) in
        let t = times_neg (pos k) (pos (suc a / k)) in
        let u = product_neg (suc a / k) k in
        let n = times_next (pos k) q in
        record { reached = omega (arith, ints, t, u, le); next_is_above = omega (arith, ints, n, t, u, le) }
    is_floor z (negsuc k) h le = absurd (omega (arith, ints))

-- And else it is one more than the floor.
pub quotient_over : (z r : ℤ) → pos 1 ≤ℤ r → z <ℤ (quot_z z r *ℤ r) → quot_z z r -ℤ pos 1 ≡ floor_div z r
quotient_over z r h lt = floor_unique z r (quot_z z r -ℤ pos 1) (floor_div z r) h (is_floor z r h lt) (floor_is z r h)
  where
    is_floor : (z r : ℤ) → pos 1 ≤ℤ r → z <ℤ (quot_z z r *ℤ r) → IsFloor z r (quot_z z r -ℤ pos 1)
    is_floor (pos a) (pos k) h lt = let s = div-add-mod' a k in absurd (omega (arith, ints, lt))
    is_floor (negsuc a) (pos k) h lt =
        let s = div-add-mod' (suc a) k in
        let m : suc a % k < k = mod-lt (suc a) (omega (arith, ints)) in
        let q = neg_ℤ (pos (suc a / k)) in
        let t = times_neg (pos k) (pos (suc a / k)) in
        let u = product_neg (suc a / k) k in
        let l = times_last (pos k) q in
        let n = times_next (pos k) (q -ℤ pos 1) in
        record { reached = omega (arith, ints, l, t, u); next_is_above = omega (arith, ints, n, l, t, u, lt) }
    is_floor z (negsuc k) h lt = absurd (omega (arith, ints))

-- The quotient of the negated number is the negated quotient.
pub quotient_turned : (z r : ℤ) → pos 1 ≤ℤ r → quot_z (neg_ℤ z) r ≡ neg_ℤ (quot_z z r)
quotient_turned (pos zero) (pos k) h = let e = div-le_self 0 k in omega (arith, ints, e)
quotient_turned (pos (suc a)) (pos k) h = refl
quotient_turned (negsuc a) (pos k) h = omega (arith, ints)
quotient_turned z (negsuc k) h = absurd (omega (arith, ints))

-- The quotient, and its product with the divisor, are no farther from 0 than the number.
pub quotient_in_limit : (z r : ℤ) (m : ℕ) → pos 1 ≤ℤ r → neg_ℤ (pos m) ≤ℤ z → z <ℤ pos m → (neg_ℤ (pos m) ≤ℤ quot_z z r) × (quot_z z r <ℤ pos m)
quotient_in_limit (pos a) (pos k) m h low high = let le = div-le_self a k in (omega (arith, ints), omega (arith, ints, le))
quotient_in_limit (negsuc a) (pos k) m h low high = let le = div-le_self (suc a) k in (omega (arith, ints, le), omega (arith, ints))
quotient_in_limit z (negsuc k) m h low high = absurd (omega (arith, ints))

pub product_in_limit : (z r : ℤ) (m : ℕ) → pos 1 ≤ℤ r → neg_ℤ (pos m) ≤ℤ z → z <ℤ pos m → (neg_ℤ (pos m) ≤ℤ (quot_z z r *ℤ r)) × ((quot_z z r *ℤ r) <ℤ pos m)
product_in_limit (pos a) (pos k) m h low high = let s = div-add-mod' a k in (omega (arith, ints), omega (arith, ints, s))
product_in_limit (negsuc a) (pos k) m h low high =
    let s = div-add-mod' (suc a) k in
    let u = product_neg (suc a / k) k in
    (omega (arith, ints, s, u), omega (arith, ints, s, u))
product_in_limit z (negsuc k) m h low high = absurd (omega (arith, ints))

-- The same for the ceiling.
turned_product : (z r : ℤ) → pos 1 ≤ℤ r → quot_z (neg_ℤ z) r *ℤ r ≡ neg_ℤ (quot_z z r *ℤ r)
turned_product (pos zero) (pos k) h = let e = div-le_self 0 k in omega (arith, ints, e, product_neg (0 / k) k)
turned_product (pos (suc a)) (pos k) h = omega (arith, ints, product_neg (suc a / k) k)
turned_product (negsuc a) (pos k) h = omega (arith, ints, product_neg (suc a / k) k)
turned_product z (negsuc k) h = absurd (omega (arith, ints))

pub quotient_up : (z r : ℤ) → pos 1 ≤ℤ r → z ≤ℤ (quot_z z r *ℤ r) → quot_z z r ≡ ceil_div z r
quotient_up z r h le =
    let t = quotient_turned z r h in
    let p = turned_product z r h in
    let down = quotient_down (neg_ℤ z) r h (omega (arith, ints, p, le)) in
    omega (arith, ints, t, down)

pub quotient_under : (z r : ℤ) → pos 1 ≤ℤ r → (quot_z z r *ℤ r) <ℤ z → quot_z z r +ℤ pos 1 ≡ ceil_div z r
quotient_under z r h lt =
    let t = quotient_turned z r h in
    let p = turned_product z r h in
    let over = quotient_over (neg_ℤ z) r h (omega (arith, ints, p, lt)) in
    omega (arith, ints, t, over)

-- One more than a quotient whose product with the divisor is below the number is at most the number.
pub next_at_most : (z r : ℤ) → pos 1 ≤ℤ r → (quot_z z r *ℤ r) <ℤ z → (quot_z z r +ℤ pos 1) ≤ℤ z
next_at_most (pos a) (pos k) h lt =
    let one : 1 ≤ k = omega (arith, ints) in
    let grown = mul-le-mul_left (a / k) one in
    omega (arith, ints, grown, lt)
next_at_most (negsuc a) (pos k) h lt =
    let s = div-add-mod' (suc a) k in
    let u = product_neg (suc a / k) k in
    absurd (omega (arith, ints, s, u, lt))
next_at_most z (negsuc k) h lt = absurd (omega (arith, ints))

-- Rust's quotient, and its product with the divisor, fit 128 bits.
pub record Truncated (z r : ℤ) : Type 0 where
  pub quotient : SFits w128 (quot_z z r)
  pub product : SFits w128 (quot_z z r *ℤ r)

pub truncated : (z r : ℤ) → SFits w128 z → pos 1 ≤ℤ r → Truncated z r
truncated z r fz h =
    let q = quotient_in_limit z r (2 ^ 127) h (omega (arith, ints, fz)) (omega (arith, ints, fz)) in
    let p = product_in_limit z r (2 ^ 127) h (omega (arith, ints, fz)) (omega (arith, ints, fz)) in
    record { quotient = omega (arith, ints, q); product = omega (arith, ints, p) }
