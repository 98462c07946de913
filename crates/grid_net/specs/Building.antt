-- Which lists of resistors, pads and loads make a network, which network they make, and what refuses the others.
use Rattle.std.specs.Ordering.{int_eq}
use Rattle.std.specs.Prelude.{◌≡◌, ◌⊎◌, ℕ, ◌<◌, ◌≤◌, ◌||◌, ◌&&◌, if◌then◌else◌, Bool, true, false, nat_le, int_le, ℤ, pos, neg_ℤ, ◌≤ℤ◌, List, All, Option, Some, None, length, map, slice_index_or, position}
use Rattle.std.specs.List.{range_with_len, filter_map}
use Rattle.std.specs.Option.{option_map}
use Rattle.grid_net.specs.declared.part.Resistor.{Resistor}
use Rattle.grid_net.specs.declared.part.Pad.{Pad}
use Rattle.grid_net.specs.declared.part.Load.{Load}
use Rattle.grid_net.specs.declared.part.LoadRange.{LoadRange}
use Rattle.grid_net.specs.declared.error.Quantity.{Quantity}
use Rattle.grid_net.specs.declared.error.Quantity.TheVariants.{Nodes, Resistors, Resistance, Voltage, Loads}
use Rattle.grid_net.specs.declared.error.NetError.{NetError}
use Rattle.grid_net.specs.declared.error.NetError.TheVariants.{BadEnd, Range, PadConflict, Want}
use Rattle.grid_net.specs.Search.{or_else, first_of}
use Rattle.grid_net.specs.Network.{Network, first_pad}
use Rattle.grid_net.specs.Limits.{most_nodes, most_resistors, greatest_resistance, greatest_voltage, greatest_load, IsInLimit}
use Rattle.grid_net.specs.Adding.{end_sum, given_load}

-- ---- which lists make a network

-- Each entry names nodes alone, and each quantity keeps its limit.
pub record KeepsLimits (nodes : ℕ) (resistors : List Resistor) (pads : List Pad) (loads : List Load) : Type 0 where
  pub ends_are_nodes : All (λ r. (r.a < nodes) × (r.b < nodes)) resistors
  pub pads_are_nodes : All (λ p. p.node < nodes) pads
  pub loads_are_nodes : All (λ l. l.node < nodes) loads
  pub few_nodes : nodes ≤ most_nodes
  pub few_resistors : length resistors ≤ most_resistors
  pub resistances : All (λ r. (pos 1 ≤ℤ r.ohms) × (r.ohms ≤ℤ pos greatest_resistance)) resistors
  pub voltages : All (λ p. IsInLimit greatest_voltage p.volts) pads
  pub sum_of_loads : given_load loads ≤ greatest_load

-- Any two pads of one node have one voltage.
abbrev pub PadsAgree : List Pad → Type 0
PadsAgree pads = All (λ p. All (λ q. p.node ≡ q.node → p.volts ≡ q.volts) pads) pads

-- ---- which network they make

-- The load of a node: the sums of the low ends and of the high ends of its entries.
abbrev pub load_of : List Load → ℕ → LoadRange
load_of loads node = record { low = end_sum (λ l. l.low) loads node; high = end_sum (λ l. l.high) loads node }

-- The pad of a node, if one stands there.
abbrev pub pad_of : List Pad → ℕ → Option Pad
pad_of pads node = option_map (λ v. record { node = node; volts = v }) (first_pad pads node)

-- The network of the lists: the resistors as they are, the pads in the order of nodes and each node once, and one
-- load for each node.
abbrev pub network_of : ℕ → List Resistor → List Pad → List Load → Network
network_of nodes resistors pads loads = record {
  nodes = nodes;
  resistors = resistors;
  pads = filter_map (pad_of pads) (range_with_len 0 nodes);
  loads = map (load_of loads) (range_with_len 0 nodes);
}

-- ---- what refuses the others

-- The place of the first entry that names a node beyond the last, in the first list that has one.
abbrev pub first_bad_end : ℕ → List Resistor → List Pad → List Load → Option ℕ
first_bad_end nodes resistors pads loads =
    or_else (position (λ r. nat_le nodes r.a || nat_le nodes r.b) resistors)
    (or_else (position (λ p. nat_le nodes p.node) pads) (position (λ l. nat_le nodes l.node) loads))

-- The refusal of a whole quantity that passes its limit.
abbrev pub unless_at_most : ℕ → Quantity → ℕ → Option NetError
unless_at_most limit quantity number = (if nat_le number limit then None else Some (Range quantity 0 (pos number)))

-- The refusal of the first number of a list that does not fit: its place, and the number.
abbrev pub first_unfit : Quantity → (ℤ → Bool) → List ℤ → Option NetError
first_unfit quantity fits numbers =
    option_map (λ at. Range quantity at (slice_index_or numbers at (pos 0)))
    (position (λ z. if fits z then false else true) numbers)

-- A resistance is at least 1 and keeps its limit.
abbrev pub resistance_fits : ℤ → Bool
resistance_fits z = int_le (pos 1) z && int_le z (pos greatest_resistance)

-- A voltage keeps its limit on either side of 0.
abbrev pub voltage_fits : ℤ → Bool
voltage_fits z = int_le (neg_ℤ (pos greatest_voltage)) z && int_le z (pos greatest_voltage)

-- The first quantity that passes its limit.
abbrev pub first_beyond_limit : ℕ → List Resistor → List Pad → List Load → Option NetError
first_beyond_limit nodes resistors pads loads =
    or_else (unless_at_most most_nodes Nodes nodes)
    (or_else (unless_at_most most_resistors Resistors (length resistors))
    (or_else (first_unfit Resistance resistance_fits (map (λ r. r.ohms) resistors))
    (or_else (first_unfit Voltage voltage_fits (map (λ p. p.volts) pads))
    (unless_at_most greatest_load Loads (given_load loads)))))

-- The refusal of a pad whose voltage differs from that of the first pad of its node.
abbrev pub conflict_with : Pad → Option ℤ → Option NetError
conflict_with p None = None
conflict_with p (Some first) = (if int_eq first p.volts then None else Some (PadConflict p.node first p.volts))

-- The refusal of the first pad in the list that differs from the first pad of its node.
abbrev pub first_conflict : List Pad → Option NetError
first_conflict pads = first_of (λ p. conflict_with p (first_pad pads p.node)) pads

-- What refuses the lists: an end that is no node, then a quantity beyond its limit, then two pads of one node that
-- differ.
abbrev pub first_net_refusal : ℕ → List Resistor → List Pad → List Load → Option NetError
first_net_refusal nodes resistors pads loads =
    or_else (option_map (λ at. BadEnd at) (first_bad_end nodes resistors pads loads))
    (or_else (first_beyond_limit nodes resistors pads loads) (first_conflict pads))

-- What an error of a build tells: it is the first refusal; or memory was wanting, which comes only where every limit
-- is kept.
abbrev pub BuildFails : ℕ → List Resistor → List Pad → List Load → NetError → Type 0
BuildFails nodes resistors pads loads e =
    (first_net_refusal nodes resistors pads loads ≡ Some e) ⊎ ((e ≡ Want) × KeepsLimits nodes resistors pads loads)
