-- The sums of the nodes, added up resistor by resistor.
use Rattle.std.proofs.Common.{◌≡◌, ℕ, ◌*◌, ◌^◌, ℤ, pos, negsuc, neg_ℤ, ◌+ℤ◌, ◌-ℤ◌, ◌*ℤ◌, ◌≤ℤ◌, ◌<ℤ◌, arith, ap, ◌∙◌, SFits, None}
use mir.Syntax.{w128}
use Rattle.std.proofs.lemmas.Int.{ints, by_lt_z}
use Rattle.rounding.specs.Rounding.{IsFloor, floor_div, ceil_div}
use Rattle.rounding.specs.Laws.{times_le, times_neg, times_one, times_next, times_last, floor_is, ceiling_is, ceiling_unique}
use Rattle.grid_net.specs.declared.part.Resistor.{Resistor}
use Rattle.grid_net.specs.Limits.{IsInLimit}
use Rattle.grid_net.specs.Certificate.{flow_limit}
use Rattle.bound_check.specs.declared.fails.Side.TheVariants.{HighFlow, LowFlow}
use Rattle.bound_check.specs.Failing.{flow_test, in_limit}
use Rattle.bound_check.proofs.Failing.{limit_in, two_passed}

-- ---- one division
-- The product of a divisor and a quotient rounded down fits 128 bits.
pub product_fits : (z r : ℤ) → pos 1 ≤ℤ r → SFits w128 r → IsInLimit (2 * 10 ^ 37) z → SFits w128 (r *ℤ floor_div z r)
product_fits z r h fr within = let l = least in omega (arith, ints, l, f.reached, within)
  where
    f : IsFloor z r (floor_div z r)
    f = floor_is z r h

    minus : r *ℤ negsuc 0 ≡ neg_ℤ r
    minus = times_neg r (pos 1) ∙ ap neg_ℤ (times_one r)

    least : neg_ℤ (pos (2 ^ 127)) ≤ℤ (r *ℤ floor_div z r)
    least =
        by_lt_z (floor_div z r) (negsuc 0)
        (λ lt. let b = times_le r (floor_div z r +ℤ pos 1) (negsuc 0) (omega (arith, ints, h)) (omega (arith, ints, lt)) in omega (arith, ints, f.next_is_above, b, minus, times_next r (floor_div z r), within))
        (λ ge. let b = times_le r (negsuc 0) (floor_div z r) (omega (arith, ints, h)) ge in omega (arith, ints, b, minus, fr))

-- Where that product is below the number, one more is the quotient rounded up.
pub next_is_ceiling : (z r : ℤ) → pos 1 ≤ℤ r → (r *ℤ floor_div z r) <ℤ z → floor_div z r +ℤ pos 1 ≡ ceil_div z r
next_is_ceiling z r h lt =
    let f = floor_is z r h in
    let next = times_next r (floor_div z r) in
    let last = times_last r (floor_div z r +ℤ pos 1) in
    ceiling_unique z r (floor_div z r +ℤ pos 1) (ceil_div z r) h (record { reaches = omega (arith, ints, f.next_is_above); last_is_below = omega (arith, ints, last, next, lt) }) (ceiling_is z r h)

-- And else it is the same.
pub same_is_ceiling : (z r : ℤ) → pos 1 ≤ℤ r → z ≤ℤ (r *ℤ floor_div z r) → floor_div z r ≡ ceil_div z r
same_is_ceiling z r h le =
    let f = floor_is z r h in
    let last = times_last r (floor_div z r) in
    ceiling_unique z r (floor_div z r) (ceil_div z r) h (record { reaches = le; last_is_below = omega (arith, ints, last, f.reached, h) }) (ceiling_is z r h)

-- What is rounded one way from end a is rounded the other way from end b.
pub up_from_b : (z r : ℤ) → neg_ℤ (ceil_div z r) ≡ floor_div (neg_ℤ z) r
up_from_b z r = twice (floor_div (neg_ℤ z) r)
  where
    twice : (y : ℤ) → neg_ℤ (neg_ℤ y) ≡ y
    twice y = omega (arith, ints)

pub down_from_b : (z r : ℤ) → neg_ℤ (floor_div z r) ≡ ceil_div (neg_ℤ z) r
down_from_b z r = ap (λ y. neg_ℤ (floor_div y r)) (once z)
  where
    once : (y : ℤ) → y ≡ neg_ℤ (neg_ℤ y)
    once y = omega (arith, ints)

-- ---- one resistor
-- A resistor whose flows are within their limit passes the test of flows.
pub flow_passes : (high low : ℕ → ℤ) (r : Resistor) → IsInLimit flow_limit (floor_div (high r.a -ℤ high r.b) r.ohms) → IsInLimit flow_limit (ceil_div (low r.a -ℤ low r.b) r.ohms) → flow_test high low r ≡ None
flow_passes high low r h k =
    let of_high = floor_div (high r.a -ℤ high r.b) r.ohms in
    let of_low = ceil_div (low r.a -ℤ low r.b) r.ohms in
    two_passed (in_limit flow_limit of_high) (in_limit flow_limit of_low) r.a r.a HighFlow LowFlow of_high of_low (limit_in flow_limit of_high h) (limit_in flow_limit of_low k)
