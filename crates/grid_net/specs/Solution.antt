-- What Ohm's law and Kirchhoff's current law say of a network, and nothing else: a solution knows nothing of any bound.
use Rattle.std.specs.Prelude.{◌≡◌, ℕ, ◌<◌, ◌≤◌, ℤ, pos, neg_ℤ, ◌-ℤ◌, ◌*ℤ◌, ◌≤ℤ◌, length, Some, None, slice_index_or}
use Rattle.grid_net.specs.declared.part.Resistor.{Resistor}
use Rattle.grid_net.specs.Network.{Network, low_load, high_load, pad_at, net_current}

-- A solution in whole numbers over a common denominator q: p / q is the potential of each node, c / q the current
-- through each resistor from its end a to its end b, and l / q the current that is drawn at each node.
-- Every solution in fractions has this form. Each node has one potential, so the voltage law holds by itself.
pub record IsSolution (net : Network) (q : ℕ) (p c l : ℕ → ℤ) : Type 0 where
  pub denominator : 1 ≤ q
  -- Ohm's law: the difference of potential over a resistor is its resistance times its current.
  pub ohm : (k : ℕ) (d : Resistor) → k < length net.resistors
      → let r = slice_index_or net.resistors k d in p r.a -ℤ p r.b ≡ r.ohms *ℤ c k
  -- The current that is drawn at each node lies within the range of its load.
  pub drawn : (i : ℕ) → i < net.nodes → ((pos q *ℤ low_load net i) ≤ℤ l i) × (l i ≤ℤ (pos q *ℤ high_load net i))
  -- Kirchhoff's current law, at each node that is no pad: what leaves over the resistors, less what arrives, is the
  -- negative of what is drawn.
  pub kirchhoff : (i : ℕ) → i < net.nodes → pad_at net i ≡ None → net_current net.resistors c i ≡ neg_ℤ (l i)
  -- A pad's node has the pad's voltage.
  pub pads : (i : ℕ) (v : ℤ) → i < net.nodes → pad_at net i ≡ Some v → p i ≡ pos q *ℤ v
