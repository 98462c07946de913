-- Rounding down and up alike.
use Rattle.std.specs.Prelude.{ℕ, ℤ}
use Rattle.fixed_decimal.specs.declared.printer.Direction.{Direction}
use Rattle.fixed_decimal.specs.declared.printer.Direction.TheVariants.{Down, Up}
use Rattle.fixed_decimal.specs.Printed.{IsRoundedDown, IsRoundedUp}

-- The value rounded in this direction is q units.
abbrev pub IsRounded : Direction → ℤ → ℕ → ℤ → Type 0
IsRounded Down = IsRoundedDown
IsRounded Up = IsRoundedUp
