-- The range in which the lists of a certificate of a network are made: from the network's own numbers, each 0 where
-- there is none.
use Rattle.std.specs.Prelude.{◌≡◌, ℕ, ◌<◌, ◌≤◌, ◌+◌, ◌*◌, ◌⊎◌, ℤ, pos, ◌≤ℤ◌, List, All, length, slice_index_or}
use Rattle.grid_net.specs.declared.part.Resistor.{Resistor}
use Rattle.grid_net.specs.declared.part.Pad.{Pad}
use Rattle.grid_net.specs.Network.{Network, total_load, over_nodes, degree}
use Rattle.grid_net.specs.Level.{IsLevel}

-- The greatest level of a network, its greatest resistance, and its least and its greatest pad voltage.
pub record Scale : Type 0 where
  pub level : ℕ
  pub ohms : ℕ
  pub bottom : ℤ
  pub top : ℤ

-- A number is the greatest level: each node has a level of at most that, and some node has it, or else there is no
-- node and it is 0.
pub record IsGreatestLevel (net : Network) (k : ℕ) : Type 0 where
  pub each : (i : ℕ) → i < net.nodes → (m : ℕ) × (m ≤ k) × IsLevel net i m
  pub met : ((net.nodes ≡ 0) × (k ≡ 0)) ⊎ ((i : ℕ) × (i < net.nodes) × IsLevel net i k)

-- A number is the greatest resistance in a list, or 0 where it is empty.
pub record IsGreatestOf (resistors : List Resistor) (greatest : ℤ) : Type 0 where
  pub each : All (λ r. r.ohms ≤ℤ greatest) resistors
  pub met : ((length resistors ≡ 0) × (greatest ≡ pos 0))
      ⊎ ((place : ℕ) × (place < length resistors) × ((d : Resistor) → (slice_index_or resistors place d).ohms
      ≡ greatest))

-- A number is the least, or the greatest, pad voltage in a list, or 0 where it is empty.
pub record IsLeastVolts (pads : List Pad) (least : ℤ) : Type 0 where
  pub each : All (λ p. least ≤ℤ p.volts) pads
  pub met : ((length pads ≡ 0) × (least ≡ pos 0))
      ⊎ ((place : ℕ) × (place < length pads) × ((d : Pad) → (slice_index_or pads place d).volts ≡ least))

pub record IsGreatestVolts (pads : List Pad) (greatest : ℤ) : Type 0 where
  pub each : All (λ p. p.volts ≤ℤ greatest) pads
  pub met : ((length pads ≡ 0) × (greatest ≡ pos 0))
      ⊎ ((place : ℕ) × (place < length pads) × ((d : Pad) → (slice_index_or pads place d).volts ≡ greatest))

-- The greatest level of a network, its greatest resistance, and its least and its greatest pad voltage, are those of
-- a scale.
pub record IsScaleOf (net : Network) (s : Scale) : Type 0 where
  pub level : IsGreatestLevel net s.level
  pub ohms : IsGreatestOf net.resistors (pos s.ohms)
  pub low_end : IsLeastVolts net.pads s.bottom
  pub high_end : IsGreatestVolts net.pads s.top

-- More than any flow in a list that was raised as far as the test asks: the loads' greater magnitudes, and 130 for
-- each node and each resistor at it.
abbrev pub flow_reach : Network → ℕ
flow_reach net = total_load net + 130 * over_nodes net.nodes (λ i. degree net.resistors i + 1)

-- How far a list may pass the pads' voltages: k chains of the greatest resistance r, each with as much flow as the
-- reach.
abbrev pub margin : Network → ℕ → ℕ → ℕ
margin net k r = k * (r * flow_reach net)

-- How far a list may pass the pads' voltages: the greatest level, times the greatest resistance, times the reach.
abbrev pub scale_width : Network → Scale → ℕ
scale_width net s = margin net s.level s.ohms
