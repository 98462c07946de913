-- When the ends of an interval fit the arithmetic.
use Rattle.std.specs.Prelude.{ℕ, ◌*◌, ◌^◌, ℤ}
use Rattle.grid_net.specs.Limits.{IsInLimit}

-- Both ends are within a limit.
pub record IsShort (limit : ℕ) (shown : ℤ × ℤ) : Type 0 where
  pub low : IsInLimit limit shown.0
  pub high : IsInLimit limit shown.1

-- The ends of a printed voltage are within this number of nanovolts.
abbrev pub longest_voltage : ℕ
longest_voltage = 10 ^ 22

-- The ends of a printed current are within this number of nanoamperes.
abbrev pub longest_current : ℕ
longest_current = 2 * 10 ^ 31
