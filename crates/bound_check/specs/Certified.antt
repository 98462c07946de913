-- A network that is kept with a tight certificate, and the bounds that are printed of it.
use Rattle.std.specs.Prelude.{◌≡◌, ℕ, ◌^◌, ℤ, pos, ◌*ℤ◌, ◌-ℤ◌, ◌≤ℤ◌, List, length}
use Rattle.rounding.specs.Rounding.{floor_div, ceil_div}
use Rattle.grid_net.specs.declared.part.Resistor.{Resistor}
use Rattle.grid_net.specs.Network.{Network, entry_of}
use Rattle.grid_net.specs.Certificate.{IsCertificate, IsTight}

-- A network, its high list and its low list, and in how many sweeps they were made.
pub record Certificate : Type 0 where
  pub net : Network
  pub high : List ℤ
  pub low : List ℤ
  pub sweeps : ℕ

-- The two lists are a tight certificate of the network, with one entry for each node.
pub record IsKept (c : Certificate) : Type 0 where
  pub high_size : length c.high ≡ c.net.nodes
  pub low_size : length c.low ≡ c.net.nodes
  pub certificate : IsCertificate c.net c.high c.low
  pub tight : IsTight c.net c.high c.low

-- What two lists say of the current from end a to end b of a resistor, in femtoamperes: at least what flows where a is
-- as low and b as high as may be, rounded down.
abbrev pub least_current : List ℤ → List ℤ → Resistor → ℤ
least_current high low r = floor_div (entry_of low r.a -ℤ entry_of high r.b) r.ohms

-- At most what flows where a is as high and b as low as may be, rounded up.
abbrev pub greatest_current : List ℤ → List ℤ → Resistor → ℤ
greatest_current high low r = ceil_div (entry_of high r.a -ℤ entry_of low r.b) r.ohms

-- A nanovolt, in yoctovolts: the unit in which voltages are printed.
abbrev pub nanovolt : ℕ
nanovolt = 10 ^ 15

-- A nanoampere, in femtoamperes: the unit in which currents are printed.
abbrev pub nanoampere : ℕ
nanoampere = 10 ^ 6

-- Over the denominator q, a number lies between two multiples of a unit.
abbrev pub LiesWithin : ℕ → ℕ → ℤ → ℤ × ℤ → Type 0
LiesWithin unit q z ends =
    ((pos q *ℤ (pos unit *ℤ ends.0)) ≤ℤ z) × (z ≤ℤ (pos q *ℤ (pos unit *ℤ ends.1)))
