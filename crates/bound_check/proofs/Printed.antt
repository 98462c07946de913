-- Bounds that are rounded outward are bounds, and little wider.
use Rattle.std.proofs.Common.{ℕ, ◌≤◌, ℤ, pos, ◌+ℤ◌, ◌-ℤ◌, ◌*ℤ◌, ◌≤ℤ◌, ◌<ℤ◌, arith}
use Rattle.std.proofs.lemmas.Int.{ints}
use Rattle.rounding.specs.Rounding.{floor_div, ceil_div}
use Rattle.rounding.specs.Laws.{times_le, times_next, times_last, times_difference, floor_is, ceiling_is}
use Rattle.bound_check.specs.Certified.{LiesWithin}

-- What lies between two numbers lies between the multiples of a unit around them.
pub within_units : (unit q : ℕ) (low high z : ℤ) → 1 ≤ unit → (pos q *ℤ low) ≤ℤ z → z ≤ℤ (pos q *ℤ high) → LiesWithin unit q z (floor_div low (pos unit), ceil_div high (pos unit))
within_units unit q low high z some from to =
    let h : pos 1 ≤ℤ pos unit = omega (arith, ints) in (
      omega (arith, ints, from, times_le (pos q) (pos unit *ℤ floor_div low (pos unit)) low (omega (arith, ints)) (floor_is low (pos unit) h).reached),
      omega (arith, ints, to, times_le (pos q) high (pos unit *ℤ ceil_div high (pos unit)) (omega (arith, ints)) (ceiling_is high (pos unit) h).reaches),
    )

-- Two numbers rounded outward are less than two units farther apart.
pub outward_width : (unit low high : ℤ) → pos 1 ≤ℤ unit → (unit *ℤ ((ceil_div high unit -ℤ floor_div low unit) -ℤ pos 2)) <ℤ (high -ℤ low)
outward_width unit low high h =
    let C = ceil_div high unit in
    let F = floor_div low unit in
    let c = ceiling_is high unit h in
    let f = floor_is low unit h in
    let s = times_difference unit C F in
    let t = times_difference unit (C -ℤ F) (pos 2) in
    omega (arith, ints, c.last_is_below, f.next_is_above, times_last unit C, times_next unit F, s, t)

-- The bounds of a current, less two of the least steps, are no farther apart than the gaps at both ends over the resistance.
pub current_width : (R h l h' l' w w' : ℤ) → pos 1 ≤ℤ R → (h -ℤ l) ≤ℤ w → (h' -ℤ l') ≤ℤ w' → (R *ℤ ((ceil_div (h -ℤ l') R -ℤ floor_div (l -ℤ h') R) -ℤ pos 2)) <ℤ (w +ℤ w')
current_width R h l h' l' w w' some a b = omega (arith, ints, outward_width R (l -ℤ h') (h -ℤ l') some)

-- The printed bounds of a current, less two units and two of the least steps.
pub printed_width : (R : ℤ) (unit : ℕ) (least greatest width : ℤ) → pos 1 ≤ℤ R → 1 ≤ unit
    → (R *ℤ ((greatest -ℤ least) -ℤ pos 2)) <ℤ width
    → (R *ℤ (((pos unit *ℤ ((ceil_div greatest (pos unit) -ℤ floor_div least (pos unit)) -ℤ pos 2))) -ℤ pos 2)) <ℤ width
printed_width R unit least greatest width some units below =
    let P = pos unit *ℤ ((ceil_div greatest (pos unit) -ℤ floor_div least (pos unit)) -ℤ pos 2) in
    let outward = outward_width (pos unit) least greatest (omega (arith, ints)) in
    let grows = times_le R (P -ℤ pos 2) ((greatest -ℤ least) -ℤ pos 2) (omega (arith, ints)) (omega (arith, ints, outward)) in
    omega (arith, ints, grows, below)
