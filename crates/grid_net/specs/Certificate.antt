-- The test of a certificate, which is two lists of one voltage for each node: a high one and a low one.
use Rattle.std.specs.Prelude.{◌≡◌, ℕ, ◌<◌, ℤ, pos, ◌+ℤ◌, ◌-ℤ◌, ◌≤ℤ◌, List, Some, None, negsuc, ◌^◌, ◌*◌, ◌+◌, All}
use Rattle.rounding.specs.Rounding.{floor_div, ceil_div}
use Rattle.grid_net.specs.Network.{Network, low_load, high_load, pad_at, entry_of, FlowRule, outflow, degree}
use Rattle.grid_net.specs.Limits.{IsInLimit}

-- The flows that leave a node, each rounded down, plus the least that may be drawn there.
abbrev pub high_sum : Network → (ℕ → ℤ) → ℕ → ℤ
high_sum net high i = outflow floor_div net.resistors high i +ℤ low_load net i

-- The flows that leave a node, each rounded up, plus the greatest that may be drawn there.
abbrev pub low_sum : Network → (ℕ → ℤ) → ℕ → ℤ
low_sum net low i = outflow ceil_div net.resistors low i +ℤ high_load net i

-- The high half of the sums: no pad is above its entry, and at each other node the sum is at least 1: at these
-- potentials more would leave the node than reaches it, however little is drawn, so each solution lies below.
pub record HighHolds (net : Network) (high : ℕ → ℤ) : Type 0 where
  pub pads : (i : ℕ) (v : ℤ) → i < net.nodes → pad_at net i ≡ Some v → v ≤ℤ high i
  pub sums : (i : ℕ) → i < net.nodes → pad_at net i ≡ None → pos 1 ≤ℤ high_sum net high i

-- The low half of the sums: no pad is below its entry, and at each other node the sum is at most -1: at these
-- potentials more would reach the node than leaves it, however much is drawn, so each solution lies above.
pub record LowHolds (net : Network) (low : ℕ → ℤ) : Type 0 where
  pub pads : (i : ℕ) (v : ℤ) → i < net.nodes → pad_at net i ≡ Some v → low i ≤ℤ v
  pub sums : (i : ℕ) → i < net.nodes → pad_at net i ≡ None → low_sum net low i ≤ℤ negsuc 0

-- The greatest magnitude of a value of a certificate, in yoctovolts.
abbrev pub value_limit : ℕ
value_limit = 10 ^ 37

-- The greatest magnitude of a flow of a certificate, in femtoamperes.
abbrev pub flow_limit : ℕ
flow_limit = 10 ^ 31

-- The value of each node lies within a limit.
abbrev pub ValuesWithin : Network → ℕ → (ℕ → ℤ) → Type 0
ValuesWithin net limit x = (i : ℕ) → i < net.nodes → IsInLimit limit (x i)

-- The flow from end a to end b of each resistor, by a rule, lies within a limit.
abbrev pub FlowsWithin : FlowRule → Network → ℕ → (ℕ → ℤ) → Type 0
FlowsWithin rule net limit x = All (λ r. IsInLimit limit (rule (x r.a -ℤ x r.b) r.ohms)) net.resistors

-- All that the test of a certificate asks of the high list.
pub record IsHighHalf (net : Network) (high : ℕ → ℤ) : Type 0 where
  pub values : ValuesWithin net value_limit high
  pub flows : FlowsWithin floor_div net flow_limit high
  pub holds : HighHolds net high

-- All that it asks of the low list.
pub record IsLowHalf (net : Network) (low : ℕ → ℤ) : Type 0 where
  pub values : ValuesWithin net value_limit low
  pub flows : FlowsWithin ceil_div net flow_limit low
  pub holds : LowHolds net low

-- The two lists pass the test of a certificate.
pub record IsCertificate (net : Network) (high low : List ℤ) : Type 0 where
  pub high_half : IsHighHalf net (entry_of high)
  pub low_half : IsLowHalf net (entry_of low)

-- The greatest excess of a node's sums over what the test asks, in a tight certificate: 64 femtoamperes for the node,
-- and 64 for each resistor at it.
abbrev pub most_excess : Network → ℕ → ℕ
most_excess net i = 64 * (degree net.resistors i + 1)

-- The two lists are the pads' voltages at pads, and elsewhere neither sum passes what the test asks by more than the
-- greatest excess.
pub record IsTight (net : Network) (high low : List ℤ) : Type 0 where
  pub high_pads : (i : ℕ) (v : ℤ) → i < net.nodes → pad_at net i ≡ Some v → entry_of high i ≡ v
  pub low_pads : (i : ℕ) (v : ℤ) → i < net.nodes → pad_at net i ≡ Some v → entry_of low i ≡ v
  pub high_sums : (i : ℕ) → i < net.nodes → pad_at net i ≡ None
      → (high_sum net (entry_of high) i -ℤ pos 1) ≤ℤ pos (most_excess net i)
  pub low_sums : (i : ℕ) → i < net.nodes → pad_at net i ≡ None
      → (negsuc 0 -ℤ low_sum net (entry_of low) i) ≤ℤ pos (most_excess net i)

-- A list that is not below 0 at pads, and whose floored outflow elsewhere is at least 130·(degree + 1) and the width
-- of the load's range.
pub record IsRising (net : Network) (w : ℕ → ℤ) : Type 0 where
  pub pads : (i : ℕ) (v : ℤ) → i < net.nodes → pad_at net i ≡ Some v → pos 0 ≤ℤ w i
  pub sums : (i : ℕ) → i < net.nodes → pad_at net i ≡ None
      → (pos (130 * (degree net.resistors i + 1)) +ℤ (high_load net i -ℤ low_load net i))
      ≤ℤ outflow floor_div net.resistors w i
