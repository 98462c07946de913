-- Entries of a network whose nodes get other numbers. Each `place` gives a node its new number.
use Rattle.std.specs.Prelude.{ℕ}
use Rattle.grid_net.specs.declared.part.Resistor.{Resistor}
use Rattle.grid_net.specs.declared.part.Pad.{Pad}
use Rattle.grid_net.specs.declared.part.Load.{Load}

-- A resistor, a short, a pad, a load with the new numbers of its nodes.
abbrev pub placed_resistor : (ℕ → ℕ) → Resistor → Resistor
placed_resistor place r = record { a = place r.a; b = place r.b; ohms = r.ohms }

abbrev pub placed_short : (ℕ → ℕ) → ℕ × ℕ → ℕ × ℕ
placed_short place s = (place s.0, place s.1)

abbrev pub placed_pad : (ℕ → ℕ) → Pad → Pad
placed_pad place p = record { node = place p.node; volts = p.volts }

abbrev pub placed_load : (ℕ → ℕ) → Load → Load
placed_load place l = record { node = place l.node; low = l.low; high = l.high }
