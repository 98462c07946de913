-- How a list is moved to a tight one: raised until each sum is at least 1, and then lowered.
use Rattle.std.specs.Prelude.{◌≡◌, ◌≢◌, ℕ, ◌<◌, ℤ, pos, neg_ℤ, ◌+ℤ◌, ◌-ℤ◌, ◌≤ℤ◌, ◌<ℤ◌, List, length, Some, None, unsigned_abs, slice_index_or}
use Rattle.std.specs.List.{sum_by}
use Rattle.grid_net.specs.declared.part.Resistor.{Resistor}
use Rattle.grid_net.specs.Network.{Network, FlowRule, outflow, low_load, pad_at, entry_of, other_end}
use Rattle.grid_net.specs.inside.Flows.{flow_over, no_resistor}
use Rattle.grid_net.specs.Certificate.{value_limit, flow_limit, most_excess}
use Rattle.bound_make.specs.inside.Raising.{held_floor, HighHoldsBy}

-- The rule by which flows are counted while lists are moved: rounded down, and held within the limit of flows.
abbrev pub held_rule : FlowRule
held_rule = held_floor (pos flow_limit)

-- The sum of a node by held flows.
abbrev pub held_sum : Network → List ℤ → ℕ → ℤ
held_sum net x i = outflow held_rule net.resistors (entry_of x) i +ℤ low_load net i

-- A node that is no pad has a sum of at least 1.
abbrev pub IsFull : Network → List ℤ → ℕ → Type 0
IsFull net x i = pad_at net i ≡ None → pos 1 ≤ℤ held_sum net x i

-- A node that is no pad has a sum that passes 1 by at most 64 for the node and for each resistor at it.
abbrev pub IsTrim : Network → List ℤ → ℕ → Type 0
IsTrim net x i = pad_at net i ≡ None → (held_sum net x i -ℤ pos 1) ≤ℤ pos (most_excess net i)

-- A list that came from a start by raising: pads stay, no entry fell, and none passed a list above the start that
-- satisfies the high half.
pub record IsRaising (net : Network) (start x : List ℤ) : Type 0 where
  pub size : length x ≡ length start
  pub pads : (i : ℕ) (v : ℤ) → i < net.nodes → pad_at net i ≡ Some v → entry_of x i ≡ entry_of start i
  pub above : (i : ℕ) → i < net.nodes → entry_of start i ≤ℤ entry_of x i
  pub below : (z : ℕ → ℤ) → HighHoldsBy held_rule net z → ((i : ℕ) → i < net.nodes → entry_of start i ≤ℤ z i)
      → (i : ℕ) → i < net.nodes → entry_of x i ≤ℤ z i

-- A list that can be raised: some list above it satisfies the high half, and no number is too large.
pub record IsRaisable (net : Network) (x : List ℤ) : Type 0 where
  pub size : length x ≡ net.nodes
  pub least : (i : ℕ) → i < net.nodes → neg_ℤ (pos value_limit) ≤ℤ entry_of x i
  pub roof : (z : ℕ → ℤ) × HighHoldsBy held_rule net z × ((i : ℕ) → i < net.nodes → entry_of x i ≤ℤ z i)
      × ((i : ℕ) → i < net.nodes → z i ≤ℤ pos value_limit)

-- A list that came from a start by lowering: pads stay, no entry rose, the high half still holds, and a tight start
-- did not move.
pub record IsLowering (net : Network) (start x : List ℤ) : Type 0 where
  pub size : length x ≡ length start
  pub pads : (i : ℕ) (v : ℤ) → i < net.nodes → pad_at net i ≡ Some v → entry_of x i ≡ entry_of start i
  pub below : (i : ℕ) → i < net.nodes → entry_of x i ≤ℤ entry_of start i
  pub holds : HighHoldsBy held_rule net (entry_of x)
  pub unmoved : ((i : ℕ) → i < net.nodes → IsTrim net start i) → x ≡ start

-- A list that can be lowered: it satisfies the high half, and no list that does has a number that is too small.
pub record IsLowerable (net : Network) (x : List ℤ) : Type 0 where
  pub size : length x ≡ net.nodes
  pub most : (i : ℕ) → i < net.nodes → entry_of x i ≤ℤ pos value_limit
  pub holds : HighHoldsBy held_rule net (entry_of x)
  pub floor : (h : ℕ → ℤ) → HighHoldsBy held_rule net h → (i : ℕ) → i < net.nodes → neg_ℤ (pos value_limit) ≤ℤ h i

-- How far a list may still rise, and fall, before a number passes the limit.
abbrev pub rise_room : List ℤ → ℕ
rise_room x = sum_by (λ v. unsigned_abs (pos value_limit -ℤ v)) x

abbrev pub fall_room : List ℤ → ℕ
fall_room x = sum_by (λ v. unsigned_abs (v +ℤ pos value_limit)) x

-- While the node is raised by less than a step, the flow over the resistor at a place grows by less than so many units.
abbrev pub GrowsLess : List Resistor → List ℤ → ℕ → ℤ → ℤ → ℕ → Type 0
GrowsLess rs x node units step place =
    (e : ℤ) → pos 0 ≤ℤ e → e <ℤ step
    → let r = slice_index_or rs place no_resistor in (held_rule
    ((entry_of x node -ℤ entry_of x (other_end r node)) +ℤ e) r.ohms
    -ℤ flow_over held_rule rs (entry_of x) node no_resistor place) <ℤ units

-- While the node is lowered by at most a step, the flow over the resistor at a place falls by at most so many units.
abbrev pub FallsAtMost : List Resistor → List ℤ → ℕ → ℤ → ℤ → ℕ → Type 0
FallsAtMost rs x node units step place =
    (e : ℤ) → pos 0 ≤ℤ e → e ≤ℤ step
    → let r = slice_index_or rs place no_resistor in (flow_over held_rule rs (entry_of x) node no_resistor place
    -ℤ held_rule ((entry_of x node -ℤ entry_of x (other_end r node)) -ℤ e) r.ohms) ≤ℤ units

-- A list of potentials that is x but at one node, where it is moved.
pub record IsMovedAt (nodes node : ℕ) (by : ℤ) (x : ℕ → ℤ) (y : ℕ → ℤ) : Type 0 where
  pub moved : y node ≡ x node +ℤ by
  pub others : (j : ℕ) → j < nodes → j ≢ node → y j ≡ x j
