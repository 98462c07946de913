-- The intervals that are printed: of a node's voltage in nanovolts, and of a branch's current in nanoamperes, rounded
-- outward.
use Rattle.std.specs.Prelude.{ℕ, ℤ, pos}
use Rattle.rounding.specs.Rounding.{floor_div, ceil_div}
use Rattle.grid_net.specs.declared.part.Resistor.{Resistor}
use Rattle.grid_net.specs.Network.{entry_of}
use Rattle.bound_check.specs.Certified.{Certificate, least_current, greatest_current, nanovolt, nanoampere}

-- Between which two voltages a node lies, in nanovolts.
abbrev pub shown_voltage : Certificate → ℕ → ℤ × ℤ
shown_voltage c node = (
  floor_div (entry_of c.low node) (pos nanovolt),
  ceil_div (entry_of c.high node) (pos nanovolt),
)

-- Between which two currents from its end a to its end b a resistor lies, in nanoamperes.
abbrev pub shown_current : Certificate → Resistor → ℤ × ℤ
shown_current c r = (
  floor_div (least_current c.high c.low r) (pos nanoampere),
  ceil_div (greatest_current c.high c.low r) (pos nanoampere),
)
