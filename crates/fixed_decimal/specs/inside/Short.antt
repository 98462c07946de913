-- What a number of few digits is worth, for the contracts of the reader's own functions.
use Rattle.std.specs.Prelude.{◌≡◌, ℕ, ◌≤◌, ◌*◌, ◌^◌, List, [], ◌++◌, length, Option}
use Rattle.std.specs.Str.Parse.{AllDigits, digits_value}
use Rattle.fixed_decimal.specs.Number.{fraction_text, fraction_digits}
use Rattle.fixed_decimal.specs.inside.Split.{IsMantissa}

-- Digits of which so many stand after the point are worth just m units of 10^-places.
abbrev pub IsRaised : ℕ → ℕ → ℕ → ℕ → Type 0
IsRaised digits decimals places m = m * 10 ^ decimals ≡ digits * 10 ^ places

-- The text is digits with at most one point, and worth just m units of 10^-places.
pub record IsExactly (text : List ℕ) (places m : ℕ) : Type 0 where
  pub whole : List ℕ
  pub fraction : Option (List ℕ)
  pub form : IsMantissa text whole fraction []
  pub is : IsRaised (digits_value 10 (whole ++ fraction_digits fraction)) (length (fraction_digits fraction)) places m

-- The text is a point with at most so many digits after it, or nothing.
pub record IsShortFraction (decimals : ℕ) (text : List ℕ) : Type 0 where
  pub fraction : Option (List ℕ)
  pub is : text ≡ fraction_text fraction
  pub form : AllDigits 10 (fraction_digits fraction)
  pub few : length (fraction_digits fraction) ≤ decimals
