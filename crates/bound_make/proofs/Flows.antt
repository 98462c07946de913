-- Rules for flows, and what they give at a node.
use Rattle.std.proofs.Common.{◌≡◌, ℕ, ℤ, pos, negsuc, neg_ℤ, ◌+ℤ◌, ◌≤ℤ◌, ◌<ℤ◌, arith}
use Rattle.std.proofs.lemmas.Int.{ints, clamps}
use Rattle.rounding.specs.Rounding.{floor_div}
use Rattle.bound_make.specs.inside.Raising.{held, held_floor, IsFlowRule, TellsBelow}
use Rattle.rounding.specs.Laws.{times_le, times_le_out, times_lt_out, times_next, times_sum, floor_is, floor_unique}

-- ---- the floor, and the held floor, are rules for flows
floor_grows : (z z' r : ℤ) → pos 1 ≤ℤ r → z ≤ℤ z' → floor_div z r ≤ℤ floor_div z' r
floor_grows z z' r h le =
    let f = floor_is z r h in
    let g = floor_is z' r h in
    let below : floor_div z r <ℤ (floor_div z' r +ℤ pos 1) = times_lt_out r (floor_div z r) (floor_div z' r +ℤ pos 1) h (omega (arith, ints, f.reached, g.next_is_above)) in
    omega (arith, ints, below)

floor_by_one : (z r : ℤ) → pos 1 ≤ℤ r → floor_div (z +ℤ pos 1) r ≤ℤ (floor_div z r +ℤ pos 1)
floor_by_one z r h =
    let f = floor_is z r h in
    let g = floor_is (z +ℤ pos 1) r h in
    times_le_out r (floor_div (z +ℤ pos 1) r) (floor_div z r +ℤ pos 1) h (omega (arith, ints, g.reached, f.next_is_above))

floor_ends_at_most : (z r : ℤ) → pos 1 ≤ℤ r → (floor_div z r +ℤ floor_div (neg_ℤ z) r) ≤ℤ pos 0
floor_ends_at_most z r h =
    let f = floor_is z r h in
    let g = floor_is (neg_ℤ z) r h in
    times_le_out r (floor_div z r +ℤ floor_div (neg_ℤ z) r) (pos 0) h (omega (arith, ints, f.reached, g.reached, times_sum r (floor_div z r) (floor_div (neg_ℤ z) r)))

floor_ends_at_least : (z r : ℤ) → pos 1 ≤ℤ r → negsuc 0 ≤ℤ (floor_div z r +ℤ floor_div (neg_ℤ z) r)
floor_ends_at_least z r h =
    let F = floor_div z r in
    let G = floor_div (neg_ℤ z) r in
    let f = floor_is z r h in
    let g = floor_is (neg_ℤ z) r h in
    let above : pos 0 <ℤ ((F +ℤ G) +ℤ pos 2) = times_lt_out r (pos 0) ((F +ℤ G) +ℤ pos 2) h (omega (arith, ints, f.next_is_above, g.next_is_above, times_next r F, times_next r G, times_sum r F G, times_sum r (F +ℤ G) (pos 2))) in
    omega (arith, ints, above)

floor_zero : (r : ℤ) → pos 1 ≤ℤ r → floor_div (pos 0) r ≡ pos 0
floor_zero r h = floor_unique (pos 0) r (floor_div (pos 0) r) (pos 0) h (floor_is (pos 0) r h) (record { reached = omega (arith, ints); next_is_above = omega (arith, ints) })

pub floor_is_rule : IsFlowRule floor_div
floor_is_rule = record { grows = floor_grows; by_one = floor_by_one; ends_at_most = floor_ends_at_most; ends_at_least = floor_ends_at_least; none = floor_zero }

held_grows : (m a b : ℤ) → pos 0 ≤ℤ m → a ≤ℤ b → held m a ≤ℤ held m b
held_grows m a b h le = omega (arith, ints, clamps)

held_by_one : (m a b : ℤ) → pos 0 ≤ℤ m → a ≤ℤ (b +ℤ pos 1) → held m a ≤ℤ (held m b +ℤ pos 1)
held_by_one m a b h le = omega (arith, ints, clamps)

held_ends_at_most : (m a b : ℤ) → pos 0 ≤ℤ m → (a +ℤ b) ≤ℤ pos 0 → (held m a +ℤ held m b) ≤ℤ pos 0
held_ends_at_most m a b h le = omega (arith, ints, clamps)

held_ends_at_least : (m a b : ℤ) → pos 0 ≤ℤ m → negsuc 0 ≤ℤ (a +ℤ b) → negsuc 0 ≤ℤ (held m a +ℤ held m b)
held_ends_at_least m a b h le = omega (arith, ints, clamps)

held_zero : (m a : ℤ) → pos 0 ≤ℤ m → a ≡ pos 0 → held m a ≡ pos 0
held_zero m a h e = omega (arith, ints, clamps)

pub held_is_rule : (m : ℤ) → pos 0 ≤ℤ m → IsFlowRule (held_floor m)
held_is_rule m h = record {
  grows = λ z z' r p le. held_grows m (floor_div z r) (floor_div z' r) h (floor_grows z z' r p le);
  by_one = λ z r p. held_by_one m (floor_div (z +ℤ pos 1) r) (floor_div z r) h (floor_by_one z r p);
  ends_at_most = λ z r p. held_ends_at_most m (floor_div z r) (floor_div (neg_ℤ z) r) h (floor_ends_at_most z r p);
  ends_at_least = λ z r p. held_ends_at_least m (floor_div z r) (floor_div (neg_ℤ z) r) h (floor_ends_at_least z r p);
  none = λ r p. held_zero m (floor_div (pos 0) r) h (floor_zero r p);
}

pub floor_tells : (reach : ℕ) → TellsBelow floor_div reach
floor_tells reach z r h lt =
    let f = floor_is z r h in
    let le = times_le r (floor_div z r +ℤ pos 1) (pos reach) (omega (arith, ints)) (omega (arith, ints)) in
    omega (arith, ints, f.next_is_above, le)

held_below : (m a b : ℤ) → b ≤ℤ m → held m a <ℤ b → a <ℤ b
held_below m a b h lt = omega (arith, ints, clamps)

pub held_tells : (m : ℤ) (reach : ℕ) → pos reach ≤ℤ m → TellsBelow (held_floor m) reach
held_tells m reach h z r p lt = floor_tells reach z r p (held_below m (floor_div z r) (pos reach) h lt)

-- A flow within the limit is held as it is.
pub held_same : (m a : ℤ) → neg_ℤ m ≤ℤ a → a ≤ℤ m → held m a ≡ a
held_same m a h k = omega (arith, ints, clamps)
