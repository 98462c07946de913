-- Lists that are raised until the test holds, and lowered until it is tight.
use Rattle.std.specs.Prelude.{◌≡◌, ℕ, ◌<◌, ◌+◌, ◌*◌, ◌≢◌, ℤ, pos, neg_ℤ, ◌+ℤ◌, ◌-ℤ◌, ◌*ℤ◌, ◌≤ℤ◌, ◌<ℤ◌, length, ◌≤◌, ◌^◌, Some, None, negsuc, All}
use Rattle.std.specs.Int.{int_min, int_max}
use Rattle.rounding.specs.Rounding.{floor_div}
use Rattle.grid_net.specs.Network.{total_load, Network, FlowRule, low_load, load_size, pad_at, outflow}
use Rattle.grid_net.specs.Certificate.{most_excess}
use Rattle.grid_net.specs.Level.{IsWithin}

-- A flow that is held within -limit and limit.
abbrev pub held : ℤ → ℤ → ℤ
held limit flow = int_max (neg_ℤ limit) (int_min flow limit)

-- The flow rounded down, and held.
abbrev pub held_floor : ℤ → FlowRule
held_floor limit z r = held limit (floor_div z r)

-- What the raising and the lowering of lists need of a rule for flows.
pub record IsFlowRule (rule : FlowRule) : Type 0 where
  -- A greater difference gives no smaller flow.
  pub grows : (z z' r : ℤ) → pos 1 ≤ℤ r → z ≤ℤ z' → rule z r ≤ℤ rule z' r
  -- One more unit of difference gives one more unit of flow at most.
  pub by_one : (z r : ℤ) → pos 1 ≤ℤ r → rule (z +ℤ pos 1) r ≤ℤ (rule z r +ℤ pos 1)
  -- The flows that leave the two ends of a resistor add up to 0 or -1.
  pub ends_at_most : (z r : ℤ) → pos 1 ≤ℤ r → (rule z r +ℤ rule (neg_ℤ z) r) ≤ℤ pos 0
  pub ends_at_least : (z r : ℤ) → pos 1 ≤ℤ r → negsuc 0 ≤ℤ (rule z r +ℤ rule (neg_ℤ z) r)
  -- No difference gives no flow.
  pub none : (r : ℤ) → pos 1 ≤ℤ r → rule (pos 0) r ≡ pos 0

-- A flow below `reach` tells that the difference is below the resistance times `reach`.
abbrev pub TellsBelow : FlowRule → ℕ → Type 0
TellsBelow rule reach = (z r : ℤ) → pos 1 ≤ℤ r → rule z r <ℤ pos reach → z <ℤ (r *ℤ pos reach)

-- The high half of the test by a rule for flows; at `floor_div` it is the high half itself.
pub record HighHoldsBy (rule : FlowRule) (net : Network) (high : ℕ → ℤ) : Type 0 where
  pub pads : (i : ℕ) (v : ℤ) → i < net.nodes → pad_at net i ≡ Some v → v ≤ℤ high i
  pub sums : (i : ℕ) → i < net.nodes → pad_at net i ≡ None
      → pos 1 ≤ℤ (outflow rule net.resistors high i +ℤ low_load net i)

-- A list that is 0 at pads, nowhere below 0, and whose outflow elsewhere is at least the load's greater magnitude and
-- 1.
pub record IsLift (rule : FlowRule) (net : Network) (y : ℕ → ℤ) : Type 0 where
  pub pads : (i : ℕ) (v : ℤ) → i < net.nodes → pad_at net i ≡ Some v → y i ≡ pos 0
  pub not_below : (i : ℕ) → i < net.nodes → pos 0 ≤ℤ y i
  pub sums : (i : ℕ) → i < net.nodes → pad_at net i ≡ None → pos (load_size net i + 1) ≤ℤ outflow rule net.resistors y i

-- Two lists that differ at one node alone, where the second is one unit above the first.
pub record IsRaisedByOne (nodes i : ℕ) (old new : ℕ → ℤ) : Type 0 where
  pub raised : new i ≡ old i +ℤ pos 1
  pub others : (j : ℕ) → j < nodes → j ≢ i → new j ≡ old j

-- The high list is the pads' voltages at pads, and elsewhere its sum by the rule passes 1 by at most the greatest
-- excess.
pub record IsTightAbove (rule : FlowRule) (net : Network) (high : ℕ → ℤ) : Type 0 where
  pub pads : (i : ℕ) (v : ℤ) → i < net.nodes → pad_at net i ≡ Some v → high i ≡ v
  pub sums : (i : ℕ) → i < net.nodes → pad_at net i ≡ None
      → ((outflow rule net.resistors high i +ℤ low_load net i) -ℤ pos 1) ≤ℤ pos (most_excess net i)

-- Each pad's voltage lies between two numbers.
pub record PadsWithin (net : Network) (bottom top : ℤ) : Type 0 where
  pub at_least : (i : ℕ) (v : ℤ) → i < net.nodes → pad_at net i ≡ Some v → bottom ≤ℤ v
  pub at_most : (i : ℕ) (v : ℤ) → i < net.nodes → pad_at net i ≡ Some v → v ≤ℤ top

-- Every node is joined to a pad by a chain of at most k resistors.
abbrev pub IsSuppliedWithin : Network → ℕ → Type 0
IsSuppliedWithin net k = (i : ℕ) → i < net.nodes → IsWithin net k i

-- No resistance is greater than r.
abbrev pub ResistsAtMost : Network → ℕ → Type 0
ResistsAtMost net r = All (λ x. x.ohms ≤ℤ pos r) net.resistors

-- A list from which the high list is made: the pads' voltages at pads, and elsewhere at most a margin above the
-- greatest of them.
pub record IsHighStart (net : Network) (roof : ℤ) (start : ℕ → ℤ) : Type 0 where
  pub pads : (i : ℕ) (v : ℤ) → i < net.nodes → pad_at net i ≡ Some v → start i ≡ v
  pub below_roof : (i : ℕ) → i < net.nodes → start i ≤ℤ roof

-- The high list that is made from a start: it satisfies the high half and is tight, lies within a margin below and
-- two above the pads, is nowhere above a start that satisfies the high half, and is the start itself if that is tight
-- too.
pub record IsHighAnswer (rule : FlowRule) (net : Network) (bottom top : ℤ) (margin : ℕ)
    (start high : ℕ → ℤ) : Type 0 where
  pub holds : HighHoldsBy rule net high
  pub tight : IsTightAbove rule net high
  pub at_least : (i : ℕ) → i < net.nodes → (bottom -ℤ pos margin) ≤ℤ high i
  pub at_most : (i : ℕ) → i < net.nodes → high i ≤ℤ (top +ℤ pos (2 * margin))
  pub not_above : HighHoldsBy rule net start → (i : ℕ) → i < net.nodes → high i ≤ℤ start i
  pub the_start : HighHoldsBy rule net start → IsTightAbove rule net start → (i : ℕ) → i < net.nodes → high i ≡ start i

-- What a network and its pads' voltages keep to, where k is its greatest level and r its greatest resistance.
pub record FitsLimits (net : Network) (k r : ℕ) (bottom top : ℤ) : Type 0 where
  pub nodes : net.nodes ≤ 2 * 10 ^ 6
  pub resistors : length net.resistors ≤ 4 * 10 ^ 6
  pub loads : total_load net ≤ 10 ^ 18
  pub levels : k ≤ net.nodes
  pub ohms : r ≤ 10 ^ 12
  pub bottom_fits : neg_ℤ (pos (10 ^ 25)) ≤ℤ bottom
  pub top_fits : top ≤ℤ pos (10 ^ 25)
