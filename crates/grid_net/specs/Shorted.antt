-- What the laws of a network say where some pairs of its nodes are shorted: joined by a wire without resistance. A
-- current of its own flows through each short, of which no law tells the size, and its two ends have one potential.
use Rattle.std.specs.Prelude.{◌≡◌, ℕ, ◌<◌, ◌≤◌, ◌==◌, if◌then◌else◌, ℤ, pos, neg_ℤ, ◌+ℤ◌, ◌-ℤ◌, ◌*ℤ◌, ◌≤ℤ◌, List, [], ◌∷◌, length, Some, None, All, suc, slice_index_or}
use Rattle.grid_net.specs.declared.part.Resistor.{Resistor}
use Rattle.grid_net.specs.Network.{Network, low_load, high_load, pad_at, net_current}

-- A short is given by its two ends. The currents that leave a node over the shorts less those that arrive, where s
-- tells the current from the first end to the second of each short by its place; a short from a node to itself adds
-- nothing.
abbrev pub short_current : List (ℕ × ℕ) → (ℕ → ℤ) → ℕ → ℤ
short_current [] s node = pos 0
short_current (ends ∷ shorts) s node =
    ((if ends.0 == node then s 0 else pos 0) +ℤ (if ends.1 == node then neg_ℤ (s 0) else pos 0))
    +ℤ short_current shorts (λ k. s (suc k)) node

-- A solution, as `IsSolution` has it, of a network with shorts: s / q is the current through each short from its first
-- end to its second.
pub record IsShortedSolution (net : Network) (shorts : List (ℕ × ℕ)) (q : ℕ) (p c l s : ℕ → ℤ) : Type 0 where
  pub denominator : 1 ≤ q
  -- Ohm's law.
  pub ohm : (k : ℕ) (d : Resistor) → k < length net.resistors
      → let r = slice_index_or net.resistors k d in p r.a -ℤ p r.b ≡ r.ohms *ℤ c k
  -- The current that is drawn at each node lies within the range of its load.
  pub drawn : (i : ℕ) → i < net.nodes → ((pos q *ℤ low_load net i) ≤ℤ l i) × (l i ≤ℤ (pos q *ℤ high_load net i))
  -- Kirchhoff's current law, at each node that is no pad: the currents of the shorts count with those of the resistors.
  pub kirchhoff : (i : ℕ) → i < net.nodes → pad_at net i ≡ None
      → net_current net.resistors c i +ℤ short_current shorts s i ≡ neg_ℤ (l i)
  -- A pad's node has the pad's voltage.
  pub pads : (i : ℕ) (v : ℤ) → i < net.nodes → pad_at net i ≡ Some v → p i ≡ pos q *ℤ v
  -- The two ends of a short have one potential.
  pub joined : All (λ (ends : ℕ × ℕ). p ends.0 ≡ p ends.1) shorts
