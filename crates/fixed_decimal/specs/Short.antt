-- Numbers of few digits.
use Rattle.std.specs.Prelude.{◌≡◌, ℕ, ◌<◌, ◌≤◌, List, ◌++◌, length, Option}
use Rattle.std.specs.Str.Parse.{AllDigits}
use Rattle.fixed_decimal.specs.Number.{Sign, sign_text, fraction_text, fraction_digits}

-- The text is a sign or none, at least one and at most `whole` digits, and maybe a point with at most `decimals` digits.
pub record IsShort (whole decimals : ℕ) (text : List ℕ) : Type 0 where
  pub sign : Sign
  pub before : List ℕ
  pub fraction : Option (List ℕ)
  pub is : text ≡ sign_text sign ++ (before ++ fraction_text fraction)
  pub before_form : AllDigits 10 before
  pub fraction_form : AllDigits 10 (fraction_digits fraction)
  pub some : 0 < length before
  pub few : length before ≤ whole
  pub few_decimals : length (fraction_digits fraction) ≤ decimals
