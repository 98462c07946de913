-- The first failing test of a certificate, in the order of the tests: the values of each node, the flows of each
-- resistor, the sums of each node, high before low.
use Rattle.std.specs.Prelude.{◌≡◌, ℕ, ◌<◌, ◌⊎◌, ◌<ℤ◌, length, slice_index_or, Bool, ◌&&◌, if◌then◌else◌, ℤ, pos, negsuc, neg_ℤ, ◌-ℤ◌, int_le, List, Option, Some, None}
use Rattle.grid_net.specs.declared.part.Resistor.{Resistor}
use Rattle.bound_check.specs.declared.fails.Fails.{Fails}
use Rattle.bound_check.specs.declared.fails.Side.{Side}
use Rattle.bound_check.specs.declared.fails.Side.TheVariants.{HighValue, LowValue, HighFlow, LowFlow, High, Low}
use Rattle.grid_net.specs.Search.{or_else, first_below, first_of}
use Rattle.rounding.specs.Rounding.{floor_div, ceil_div}
use Rattle.grid_net.specs.Network.{Network, FlowRule, entry_of, pad_at}
use Rattle.grid_net.specs.Certificate.{value_limit, flow_limit, high_sum, low_sum}

-- The refusal that names a node, a side and the number found, unless the test passes.
abbrev pub unless : Bool → ℕ → Side → ℤ → Option Fails
unless passes node side found = (if passes then None else Some (record { node = node; side = side; found = found }))

-- A number lies within a limit.
abbrev pub in_limit : ℕ → ℤ → Bool
in_limit limit z = int_le (neg_ℤ (pos limit)) z && int_le z (pos limit)

-- The test of the values of a node.
abbrev pub value_test : (ℕ → ℤ) → (ℕ → ℤ) → ℕ → Option Fails
value_test high low i =
    or_else (unless (in_limit value_limit (high i)) i HighValue (high i))
    (unless (in_limit value_limit (low i)) i LowValue (low i))

-- The test of the flows from end a of a resistor.
abbrev pub flow_test : (ℕ → ℤ) → (ℕ → ℤ) → Resistor → Option Fails
flow_test high low r =
    let of_high = floor_div (high r.a -ℤ high r.b) r.ohms in
    let of_low = ceil_div (low r.a -ℤ low r.b) r.ohms in
    or_else (unless (in_limit flow_limit of_high) r.a HighFlow of_high) (unless
    (in_limit flow_limit of_low) r.a LowFlow of_low)

-- The test of the sums of a node, or of its entries where a pad stands.
abbrev pub sum_test : Network → (ℕ → ℤ) → (ℕ → ℤ) → ℕ → Option ℤ → Option Fails
sum_test net high low i (Some v) =
    or_else (unless (int_le (pos 0) (high i -ℤ v)) i High (high i -ℤ v))
    (unless (int_le (low i -ℤ v) (pos 0)) i Low (low i -ℤ v))
sum_test net high low i None =
    or_else (unless (int_le (pos 1) (high_sum net high i)) i High (high_sum net high i))
    (unless (int_le (low_sum net low i) (negsuc 0)) i Low (low_sum net low i))

-- The three rounds of tests.
abbrev pub values_round : Network → (ℕ → ℤ) → (ℕ → ℤ) → Option Fails
values_round net high low = first_below net.nodes (value_test high low)

abbrev pub flows_round : Network → (ℕ → ℤ) → (ℕ → ℤ) → Option Fails
flows_round net high low = first_of (flow_test high low) net.resistors

abbrev pub sums_round : Network → (ℕ → ℤ) → (ℕ → ℤ) → Option Fails
sums_round net high low = first_below net.nodes (λ i. sum_test net high low i (pad_at net i))

-- The first failing test of two lists, by the node, the side and the number that a refusal names.
abbrev pub first_failing : Network → List ℤ → List ℤ → Option Fails
first_failing net high low =
    or_else (values_round net (entry_of high) (entry_of low))
    (or_else (flows_round net (entry_of high) (entry_of low)) (sums_round net (entry_of high) (entry_of low)))

-- A number lies outside a limit.
abbrev pub IsOutside : ℕ → ℤ → Type 0
IsOutside limit z = (z <ℤ neg_ℤ (pos limit)) ⊎ (pos limit <ℤ z)

-- The number is the flow from end a of a resistor whose end a is the node.
abbrev pub IsFlowFrom : Network → FlowRule → (ℕ → ℤ) → ℕ → ℤ → Type 0
IsFlowFrom net rule x i z =
    (k : ℕ) × (k < length net.resistors)
    × ((d : Resistor) → let r = slice_index_or net.resistors k d in (r.a ≡ i) × (z ≡ rule (x r.a -ℤ x r.b) r.ohms))

-- The test on a side fails at a node, with the number found.
abbrev pub IsFailing : Network → (ℕ → ℤ) → (ℕ → ℤ) → ℕ → Side → ℤ → Type 0
IsFailing net high low i HighValue z = (i < net.nodes) × (z ≡ high i) × IsOutside value_limit z
IsFailing net high low i LowValue z = (i < net.nodes) × (z ≡ low i) × IsOutside value_limit z
IsFailing net high low i HighFlow z = IsFlowFrom net floor_div high i z × IsOutside flow_limit z
IsFailing net high low i LowFlow z = IsFlowFrom net ceil_div low i z × IsOutside flow_limit z
IsFailing net high low i High z =
    (i < net.nodes) × (((v : ℤ) × (pad_at net i ≡ Some v) × (z ≡ high i -ℤ v) × (z <ℤ pos 0))
    ⊎ ((pad_at net i ≡ None) × (z ≡ high_sum net high i) × (z <ℤ pos 1)))
IsFailing net high low i Low z =
    (i < net.nodes) × (((v : ℤ) × (pad_at net i ≡ Some v) × (z ≡ low i -ℤ v) × (pos 0 <ℤ z))
    ⊎ ((pad_at net i ≡ None) × (z ≡ low_sum net low i) × (negsuc 0 <ℤ z)))
