-- The voltages of a certificate: whole numbers of yoctovolts.
use Rattle.std.specs.Prelude.{ℕ, ℤ, ◌^◌, List, Result}
use Rattle.fixed_decimal.specs.declared.error.DecimalError.{DecimalError}
use Rattle.fixed_decimal.specs.Integer.{IsInteger}
use Rattle.fixed_decimal.specs.Value.{IsAnswer}

-- The greatest magnitude of a voltage, in yV.
abbrev pub limit : ℕ
limit = 10 ^ 37

-- What a text stands for in the place of a voltage: a minus or none and digits, within the limit; or why it is refused.
abbrev pub IsVoltage : List ℕ → Result ℤ DecimalError → Type 0
IsVoltage text answer = IsAnswer IsInteger 0 limit text answer
