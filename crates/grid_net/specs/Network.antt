-- A network of resistors, as a flat power-grid netlist describes it: its nodes, resistors, supply pads and current
-- loads, and the sums over the resistors at a node.
-- The form is that of the public power-grid benchmarks (S. R. Nassif, "Power Grid Analysis Benchmarks", ASP-DAC
-- 2008): resistors, voltage sources to ground, and current sources to ground.
-- Units: resistances in nano-ohms, potentials in yoctovolts, currents in femtoamperes. So a potential over a
-- resistance is a current with no factor between them.
use Rattle.std.specs.Prelude.{ℕ, ◌<◌, ◌+◌, ◌==◌, ◌||◌, if◌then◌else◌, ℤ, pos, neg_ℤ, ◌+ℤ◌, ◌-ℤ◌, ◌≤ℤ◌, List, [], ◌∷◌, Option, Some, None, All, zero, suc, slice_index_or, Bool, max, unsigned_abs}
use Rattle.grid_net.specs.declared.part.Resistor.{Resistor}
use Rattle.grid_net.specs.declared.part.Pad.{Pad}
use Rattle.grid_net.specs.declared.part.LoadRange.{LoadRange}

-- A network: its nodes are 0 .. nodes - 1, a pad holds its node at a voltage, and the load of a node is the range in
-- which the current lies that is drawn out of it.
pub record Network : Type 0 where
  pub nodes : ℕ
  pub resistors : List Resistor
  pub pads : List Pad
  pub loads : List LoadRange

-- Both ends of a resistor are nodes, and its resistance is a positive whole number.
pub record IsResistorOf (nodes : ℕ) (r : Resistor) : Type 0 where
  pub a_is_node : r.a < nodes
  pub b_is_node : r.b < nodes
  pub resists : pos 1 ≤ℤ r.ohms

-- What is built as a network: each resistor joins two of its nodes, and no load's low end is above its high end.
pub record IsNetwork (net : Network) : Type 0 where
  pub each_resistor : All (IsResistorOf net.nodes) net.resistors
  pub each_load : All (λ l. l.low ≤ℤ l.high) net.loads

-- The entry of a list of voltages for a node.
abbrev pub entry_of : List ℤ → ℕ → ℤ
entry_of xs node = slice_index_or xs node (pos 0)

-- The range of the load of a node; for a node beyond the list, 0 to 0.
abbrev pub load_range : Network → ℕ → LoadRange
load_range net node = slice_index_or net.loads node (record { low = pos 0; high = pos 0 })

-- The least current that may be drawn at a node.
abbrev pub low_load : Network → ℕ → ℤ
low_load net node = (load_range net node).low

-- The greatest current that may be drawn at a node.
abbrev pub high_load : Network → ℕ → ℤ
high_load net node = (load_range net node).high

-- The greater magnitude of the two ends of a node's load.
abbrev pub load_size : Network → ℕ → ℕ
load_size net node = max (unsigned_abs (low_load net node)) (unsigned_abs (high_load net node))

-- f 0 + .. + f (n - 1).
abbrev pub over_nodes : ℕ → (ℕ → ℕ) → ℕ
over_nodes zero f = 0
over_nodes (suc n) f = over_nodes n f + f n

-- The sum over the nodes of the greater magnitude of the load's two ends.
abbrev pub total_load : Network → ℕ
total_load net = over_nodes net.nodes (λ i. load_size net i)

-- The voltage of the first pad in the list that stands at the node.
abbrev pub first_pad : List Pad → ℕ → Option ℤ
first_pad [] node = None
first_pad (p ∷ ps) node = (if p.node == node then Some p.volts else first_pad ps node)

-- The voltage of the pad at a node, if one stands there.
abbrev pub pad_at : Network → ℕ → Option ℤ
pad_at net node = first_pad net.pads node

-- The sum of f over a list.
abbrev pub total : {X : Type 0} → (X → ℤ) → List X → ℤ
total f [] = pos 0
total f (x ∷ xs) = f x +ℤ total f xs

-- What a resistor takes from a node, if `from_a` leaves its end a and `from_b` leaves its end b; a resistor from a
-- node to itself takes both.
abbrev pub taken_by : Resistor → ℕ → ℤ → ℤ → ℤ
taken_by r node from_a from_b =
    (if r.a == node then from_a else pos 0) +ℤ (if r.b == node then from_b else pos 0)

-- A rule that tells the flow through a resistance under a difference of potential.
abbrev pub FlowRule : Type 0
FlowRule = ℤ → ℤ → ℤ

-- The sum of the flows that leave a node over its resistors, by a rule; a resistor from a node to itself has no
-- difference, and so no flow.
abbrev pub outflow : FlowRule → List Resistor → (ℕ → ℤ) → ℕ → ℤ
outflow rule rs x node =
    total (λ r. taken_by r node (rule (x r.a -ℤ x r.b) r.ohms) (rule (x r.b -ℤ x r.a) r.ohms)) rs

-- How many resistors stand at a node, each once.
abbrev pub degree : List Resistor → ℕ → ℕ
degree [] node = 0
degree (r ∷ rs) node = (if (r.a == node) || (r.b == node) then 1 else 0) + degree rs node

-- The currents that leave a node less those that arrive, where c tells the current from end a to end b of each
-- resistor by its place.
abbrev pub net_current : List Resistor → (ℕ → ℤ) → ℕ → ℤ
net_current [] c node = pos 0
net_current (r ∷ rs) c node = taken_by r node (c 0) (neg_ℤ (c 0)) +ℤ net_current rs (λ k. c (suc k)) node

-- A resistor stands at a node.
abbrev pub stands_at : ℕ → Resistor → Bool
stands_at node r = (r.a == node) || (r.b == node)

-- The end of a resistor that is not the given node; for a resistor from a node to itself, that node.
abbrev pub other_end : Resistor → ℕ → ℕ
other_end r node = (if r.a == node then r.b else r.a)

-- The places, from k on, of the resistors that stand at a node, in order.
abbrev pub places_from : ℕ → List Resistor → ℕ → List ℕ
places_from k [] node = []
places_from k (r ∷ rs) node =
    (if stands_at node r then k ∷ places_from (suc k) rs node else places_from (suc k) rs node)

-- The places in the list of the resistors that stand at a node, each once, ascending.
abbrev pub places_at : List Resistor → ℕ → List ℕ
places_at rs node = places_from 0 rs node
