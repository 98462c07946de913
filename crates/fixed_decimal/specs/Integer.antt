-- Whole numbers, as DEF has them in the places of coordinates and counts (LEF/DEF 5.8 Language Reference).
use Rattle.std.specs.Prelude.{◌≡◌, Bool, List, [], ◌++◌, ℕ, codes, if◌then◌else◌}
use Rattle.std.specs.Str.Parse.{IsNumeral, digits_value}
use Rattle.fixed_decimal.specs.Number.{Number}

-- The text is a whole number: a minus or none, and one digit or more.
pub record IsInteger (text : List ℕ) (number : Number) : Type 0 where
  pub negative : Bool
  pub digits : List ℕ
  pub form : IsNumeral 10 digits
  pub is : text ≡ (if negative then codes "-" else []) ++ digits
  pub value : number ≡ record { negative = negative; numerator = digits_value 10 digits; denominator = 1 }
