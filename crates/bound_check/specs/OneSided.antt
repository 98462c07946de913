-- What the laws say of a network whose pads are bounded on one side alone.
use Rattle.std.specs.Prelude.{◌≡◌, ℕ, ◌<◌, ◌≤◌, ℤ, pos, neg_ℤ, ◌-ℤ◌, ◌*ℤ◌, ◌≤ℤ◌, length, Some, None, slice_index_or}
use Rattle.grid_net.specs.declared.part.Resistor.{Resistor}
use Rattle.grid_net.specs.Network.{Network, low_load, high_load, pad_at, net_current}

-- A solution but for its pads: Ohm's law at each resistor, Kirchhoff's current law at each node that is no pad, and what is
-- drawn within its range. Of the potentials of pads nothing is asked.
pub record MeetsLaws (net : Network) (q : ℕ) (p c l : ℕ → ℤ) : Type 0 where
  pub denominator : 1 ≤ q
  pub ohm : (k : ℕ) (d : Resistor) → k < length net.resistors
      → let r = slice_index_or net.resistors k d in p r.a -ℤ p r.b ≡ r.ohms *ℤ c k
  pub drawn : (i : ℕ) → i < net.nodes → ((pos q *ℤ low_load net i) ≤ℤ l i) × (l i ≤ℤ (pos q *ℤ high_load net i))
  pub kirchhoff : (i : ℕ) → i < net.nodes → pad_at net i ≡ None → net_current net.resistors c i ≡ neg_ℤ (l i)

-- No pad's node is above the pad's voltage.
abbrev pub PadsAtMost : Network → ℕ → (ℕ → ℤ) → Type 0
PadsAtMost net q p = (i : ℕ) (v : ℤ) → i < net.nodes → pad_at net i ≡ Some v → p i ≤ℤ (pos q *ℤ v)

-- No pad's node is below the pad's voltage.
abbrev pub PadsAtLeast : Network → ℕ → (ℕ → ℤ) → Type 0
PadsAtLeast net q p = (i : ℕ) (v : ℤ) → i < net.nodes → pad_at net i ≡ Some v → (pos q *ℤ v) ≤ℤ p i
