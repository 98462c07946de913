-- The low side, as the high side of the network with every voltage and every load turned in sign.
use Rattle.std.specs.Prelude.{◌≡◌, ℕ, ◌<◌, ◌*◌, ℤ, pos, negsuc, ◌+ℤ◌, ◌-ℤ◌, ◌≤ℤ◌, Some, None}
use Rattle.grid_net.specs.Network.{Network, FlowRule, high_load, pad_at, outflow}
use Rattle.grid_net.specs.Certificate.{most_excess}
use Rattle.grid_net.specs.Mirror.{turned_rule}

-- The low half of the test by a rule that rounds down, read as one that rounds up; at `floor_div` it is the low half
-- itself.
pub record LowHoldsBy (rule : FlowRule) (net : Network) (low : ℕ → ℤ) : Type 0 where
  pub pads : (i : ℕ) (v : ℤ) → i < net.nodes → pad_at net i ≡ Some v → low i ≤ℤ v
  pub sums : (i : ℕ) → i < net.nodes → pad_at net i ≡ None
      → (outflow (turned_rule rule) net.resistors low i +ℤ high_load net i) ≤ℤ negsuc 0

-- The low list is the pads' voltages at pads, and elsewhere -1 passes its sum by the rule by at most the greatest
-- excess.
pub record IsTightBelow (rule : FlowRule) (net : Network) (low : ℕ → ℤ) : Type 0 where
  pub pads : (i : ℕ) (v : ℤ) → i < net.nodes → pad_at net i ≡ Some v → low i ≡ v
  pub sums : (i : ℕ) → i < net.nodes → pad_at net i ≡ None
      → (negsuc 0 -ℤ (outflow (turned_rule rule) net.resistors low i +ℤ high_load net i)) ≤ℤ pos (most_excess net i)

-- A list from which the low list is made: the pads' voltages at pads, and elsewhere at least a margin below the least
-- of them.
pub record IsLowStart (net : Network) (floor : ℤ) (start : ℕ → ℤ) : Type 0 where
  pub pads : (i : ℕ) (v : ℤ) → i < net.nodes → pad_at net i ≡ Some v → start i ≡ v
  pub above_floor : (i : ℕ) → i < net.nodes → floor ≤ℤ start i

-- The low list that is made from a start: as the high list, with high and low exchanged.
pub record IsLowAnswer (rule : FlowRule) (net : Network) (bottom top : ℤ) (margin : ℕ)
    (start low : ℕ → ℤ) : Type 0 where
  pub holds : LowHoldsBy rule net low
  pub tight : IsTightBelow rule net low
  pub at_least : (i : ℕ) → i < net.nodes → (bottom -ℤ pos (2 * margin)) ≤ℤ low i
  pub at_most : (i : ℕ) → i < net.nodes → low i ≤ℤ (top +ℤ pos margin)
  pub not_below : LowHoldsBy rule net start → (i : ℕ) → i < net.nodes → start i ≤ℤ low i
  pub the_start : LowHoldsBy rule net start → IsTightBelow rule net start → (i : ℕ) → i < net.nodes → low i ≡ start i
