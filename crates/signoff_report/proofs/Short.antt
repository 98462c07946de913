-- Printed intervals fit the arithmetic.
use Rattle.std.proofs.Common.{◌≡◌, ℕ, ◌*◌, ◌<◌, ◌≤◌, ℤ, pos, neg_ℤ, ◌+ℤ◌, ◌-ℤ◌, ◌*ℤ◌, ◌≤ℤ◌, ◌<ℤ◌, length, arith}
use Rattle.std.proofs.lemmas.Int.{ints}
use Rattle.rounding.specs.Rounding.{floor_div, ceil_div}
use Rattle.rounding.specs.Laws.{times_le_out, times_lt_out, times_neg, floor_is, ceiling_is, floor_in_limit, ceiling_in_limit}
use Rattle.grid_net.specs.Network.{Network, IsResistorOf, entry_of}
use Rattle.grid_net.specs.Limits.{IsBuilt, IsInLimit}
use Rattle.grid_net.specs.Certificate.{IsCertificate}
use Rattle.bound_check.specs.Certified.{Certificate, least_current, greatest_current, nanovolt, nanoampere}
use Rattle.signoff_report.specs.Limits.{resistor_at}
use Rattle.signoff_report.specs.Shown.{shown_voltage, shown_current}
use Rattle.signoff_report.specs.inside.Intervals.{IsShort, longest_voltage, longest_current}

-- A floor over a unit is within a limit over the unit, and so is a ceiling.
pub floor_short : (z : ℤ) (unit limit : ℕ) → 1 ≤ unit → IsInLimit (unit * limit) z → IsInLimit limit (floor_div z (pos unit))
floor_short z unit limit some within =
    let h : pos 1 ≤ℤ pos unit = omega (arith, ints) in
    let f = floor_div z (pos unit) in
    let is = floor_is z (pos unit) h in
    let below : (pos unit *ℤ neg_ℤ (pos limit)) <ℤ (pos unit *ℤ (f +ℤ pos 1)) = omega (arith, ints, is.next_is_above, times_neg (pos unit) (pos limit), within) in
    let above : (pos unit *ℤ f) ≤ℤ (pos unit *ℤ pos limit) = omega (arith, ints, is.reached, within) in
    (omega (arith, ints, times_lt_out (pos unit) (neg_ℤ (pos limit)) (f +ℤ pos 1) h below), times_le_out (pos unit) f (pos limit) h above)

pub ceiling_short : (z : ℤ) (unit limit : ℕ) → 1 ≤ unit → IsInLimit (unit * limit) z → IsInLimit limit (ceil_div z (pos unit))
ceiling_short z unit limit some within =
    let h : pos 1 ≤ℤ pos unit = omega (arith, ints) in
    let f = ceil_div z (pos unit) in
    let is = ceiling_is z (pos unit) h in
    let below : (pos unit *ℤ neg_ℤ (pos limit)) ≤ℤ (pos unit *ℤ f) = omega (arith, ints, is.reaches, times_neg (pos unit) (pos limit), within) in
    let above : (pos unit *ℤ (f -ℤ pos 1)) <ℤ (pos unit *ℤ pos limit) = omega (arith, ints, is.last_is_below, within) in
    (times_le_out (pos unit) (neg_ℤ (pos limit)) f h below, omega (arith, ints, times_lt_out (pos unit) (f -ℤ pos 1) (pos limit) h above))

pub voltage_short : (c : Certificate) → IsCertificate c.net c.high c.low → (node : ℕ) → node < c.net.nodes → IsShort longest_voltage (shown_voltage c node)
voltage_short c holds node within = record {
  low = floor_short (entry_of c.low node) nanovolt longest_voltage (omega arith) (holds.low_half.values node within);
  high = ceiling_short (entry_of c.high node) nanovolt longest_voltage (omega arith) (holds.high_half.values node within);
}

-- What two lists say of a resistor is within the difference of two values.
pub current_short : (c : Certificate) → IsBuilt c.net → IsCertificate c.net c.high c.low → (k : ℕ) → k < length c.net.resistors → IsShort longest_current (shown_current c (resistor_at c.net k))
current_short c built holds k within =
    let r = resistor_at c.net k in
    let is : IsResistorOf c.net.nodes r = built.is_network.each_resistor k (record { a = 0; b = 0; ohms = pos 0 }) within in
    let la = holds.low_half.values r.a is.a_is_node in
    let lb = holds.low_half.values r.b is.b_is_node in
    let ha = holds.high_half.values r.a is.a_is_node in
    let hb = holds.high_half.values r.b is.b_is_node in
    record {
      low = floor_short (least_current c.high c.low r) nanoampere longest_current (omega arith)
          (floor_in_limit (entry_of c.low r.a -ℤ entry_of c.high r.b) r.ohms (nanoampere * longest_current) is.resists (omega (arith, ints, la, hb)) (omega (arith, ints, la, hb)));
      high = ceiling_short (greatest_current c.high c.low r) nanoampere longest_current (omega arith)
          (ceiling_in_limit (entry_of c.high r.a -ℤ entry_of c.low r.b) r.ohms (nanoampere * longest_current) is.resists (omega (arith, ints, ha, lb)) (omega (arith, ints, ha, lb)));
    }
