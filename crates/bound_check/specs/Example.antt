-- A worked network, of the netlist `R1 p n 1`, `V1 p 0 1`, `I1 n 0 1m`: a pad of 1 V at p, a resistor of 1 ohm from p
-- to n, and a load of 1 mA at n.
-- Nodes are numbered in the order of their names: n is 0, and p is 1.
use Rattle.std.specs.Prelude.{ℕ, zero, suc, ℤ, pos, List, [], ◌∷◌}
use Rattle.grid_net.specs.Network.{Network}

abbrev pub example : Network
example = record {
  nodes = 2;
  resistors = record { a = 1; b = 0; ohms = pos 1000000000 } ∷ [];
  pads = record { node = 1; volts = pos 1000000000000000000000000 } ∷ [];
  loads = record { low = pos 1000000000000; high = pos 1000000000000 } ∷ record { low = pos 0; high = pos 0 } ∷ [];
}

-- Its potentials, over the denominator 1: 999 mV at n, and 1 V at p.
abbrev pub example_potential : ℕ → ℤ
example_potential zero = pos 999000000000000000000000
example_potential (suc i) = pos 1000000000000000000000000

-- The currents that are drawn: 1 mA at n, and none at the pad.
abbrev pub example_drawn : ℕ → ℤ
example_drawn zero = pos 1000000000000
example_drawn (suc i) = pos 0

-- The current of 1 mA through its resistor.
abbrev pub example_current : ℕ → ℤ
example_current k = pos 1000000000000

-- Two lists for it, whose sums at n are 1 and -1.
abbrev pub example_high : List ℤ
example_high = pos 999000000000001000000000 ∷ pos 1000000000000000000000000 ∷ []

abbrev pub example_low : List ℤ
example_low = pos 998999999999999000000000 ∷ pos 1000000000000000000000000 ∷ []

-- The same network with one femtoampere less of load.
abbrev pub example_less : Network
example_less = record {
  nodes = 2;
  resistors = record { a = 1; b = 0; ohms = pos 1000000000 } ∷ [];
  pads = record { node = 1; volts = pos 1000000000000000000000000 } ∷ [];
  loads = record { low = pos 999999999999; high = pos 999999999999 } ∷ record { low = pos 0; high = pos 0 } ∷ [];
}

-- The same network with a resistance of 1 nano-ohm, so that flows leave their limit before values do.
abbrev pub example_thin : Network
example_thin = record {
  nodes = 2;
  resistors = record { a = 1; b = 0; ohms = pos 1 } ∷ [];
  pads = record { node = 1; volts = pos 1000000000000000000000000 } ∷ [];
  loads = record { low = pos 1000000000000; high = pos 1000000000000 } ∷ record { low = pos 0; high = pos 0 } ∷ [];
}
