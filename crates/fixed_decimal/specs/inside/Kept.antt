-- What the reader keeps of a number, for the contracts of its own functions.
use Rattle.std.specs.Prelude.{◌≡◌, ℕ, ◌+◌, ◌*◌, ◌^◌, ◌<◌, ◌≤◌, ℤ, Result}
use Rattle.std.specs.declared.result.Result.TheVariants.{Ok, Err}
use Rattle.fixed_decimal.specs.declared.digits.Digits.{Digits}
use Rattle.fixed_decimal.specs.declared.error.DecimalError.{DecimalError}
use Rattle.fixed_decimal.specs.declared.error.DecimalError.TheVariants.{NotNumber, Vanishes as ItVanishes, Range}
use Rattle.fixed_decimal.specs.Number.{Number}
use Rattle.fixed_decimal.specs.Value.{IsWithin, Vanishes, IsAbove}

-- The digits write this number: those that are kept, and after them so many more, but none while at most 10^37 is kept.
pub record Keeps (number : ℕ) (digits : Digits) : Type 0 where
  pub rest : ℕ
  pub is : number ≡ digits.kept * 10 ^ digits.dropped + rest
  pub small : rest < 10 ^ digits.dropped
  pub full : 0 < digits.dropped → 10 ^ 37 < digits.kept
  pub fits : digits.kept < 10 ^ 38 + 10

-- The number is counted exactly up to 10^21, and above that as one that is not greater.
pub record IsCapped (number counted : ℕ) : Type 0 where
  pub most : counted ≤ number
  pub exact : counted < 10 ^ 21 → counted ≡ number

-- The number is these digits times 10^up over 10^down.
pub record Describes (number : Number) (digits : Digits) (up down : ℕ) : Type 0 where
  pub written : ℕ
  pub power : ℕ
  pub over : ℕ
  pub keeps : Keeps written digits
  pub up_is : IsCapped power up
  pub down_is : IsCapped over down
  pub numerator : number.numerator ≡ written * 10 ^ power
  pub denominator : number.denominator ≡ 10 ^ over

-- The answer to a number.
abbrev pub AnswersNumber : Number → ℕ → ℕ → Result ℤ DecimalError → Type 0
AnswersNumber number places limit (Ok v) = IsWithin number places limit v
AnswersNumber number places limit (Err NotNumber) = ⊥
AnswersNumber number places limit (Err ItVanishes) = Vanishes number places
AnswersNumber number places limit (Err Range) = IsAbove number places limit
