-- Tightness of the high list alone, and of the low list alone.
use Rattle.std.specs.Prelude.{◌≡◌, ℕ, ◌<◌, ℤ, pos, negsuc, ◌-ℤ◌, ◌≤ℤ◌, Some, None}
use Rattle.grid_net.specs.Network.{Network, pad_at}
use Rattle.grid_net.specs.Certificate.{high_sum, low_sum, IsHighHalf, IsLowHalf, most_excess}

-- The high half of tightness: the pads' voltages at pads, and elsewhere the high sum passes 1 by at most the greatest excess.
pub record IsHighTight (net : Network) (high : ℕ → ℤ) : Type 0 where
  pub pads : (i : ℕ) (v : ℤ) → i < net.nodes → pad_at net i ≡ Some v → high i ≡ v
  pub sums : (i : ℕ) → i < net.nodes → pad_at net i ≡ None → (high_sum net high i -ℤ pos 1) ≤ℤ pos (most_excess net i)

-- The low half of tightness.
pub record IsLowTight (net : Network) (low : ℕ → ℤ) : Type 0 where
  pub pads : (i : ℕ) (v : ℤ) → i < net.nodes → pad_at net i ≡ Some v → low i ≡ v
  pub sums : (i : ℕ) → i < net.nodes → pad_at net i ≡ None
      → (negsuc 0 -ℤ low_sum net low i) ≤ℤ pos (most_excess net i)

-- All that a tight certificate asks of its high list.
pub record IsTightHigh (net : Network) (high : ℕ → ℤ) : Type 0 where
  pub half : IsHighHalf net high
  pub tight : IsHighTight net high

-- All that it asks of its low list.
pub record IsTightLow (net : Network) (low : ℕ → ℤ) : Type 0 where
  pub half : IsLowHalf net low
  pub tight : IsLowTight net low
