-- The number that a decimal text stands for.
use Rattle.std.specs.Prelude.{◌≡◌, ℕ, ◌+◌, ◌*◌, ◌^◌, ◌<◌, Bool, true, false, List, [], ◌∷◌, ◌++◌, ◌==◌, length, Option, IfSome, if◌then◌else◌, codes}
use Rattle.std.specs.declared.option.Option.TheVariants.{Some, None}
use Rattle.std.specs.Str.Parse.{AllDigits, IsNumeral, digits_value}

-- A sign, or none.
pub data Sign : Type 0 where
  absent : Sign
  plus : Sign
  minus : Sign

abbrev pub sign_text : Sign → List ℕ
sign_text absent = []
sign_text plus = codes "+"
sign_text minus = codes "-"

abbrev pub is_minus : Sign → Bool
is_minus absent = false
is_minus plus = false
is_minus minus = true

-- An exponent: `e`, or `E` where it is a capital, a sign or none, and digits.
pub record Exponent : Type 0 where
  pub capital : Bool
  pub sign : Sign
  pub digits : List ℕ

-- How a number is spelled: in `-12.5e+3` the sign is a minus, 12 stands before the point, 5 after it, and the exponent
-- is `e+3`.
pub record Spelling : Type 0 where
  pub sign : Sign
  pub whole : List ℕ
  pub fraction : Option (List ℕ)
  pub exponent : Option Exponent

-- A point and the digits after it, or nothing.
abbrev pub fraction_text : Option (List ℕ) → List ℕ
fraction_text None = []
fraction_text (Some digits) = codes "." ++ digits

abbrev pub fraction_digits : Option (List ℕ) → List ℕ
fraction_digits None = []
fraction_digits (Some digits) = digits

abbrev pub letter_text : Bool → List ℕ
letter_text false = codes "e"
letter_text true = codes "E"

abbrev pub exponent_text : Option Exponent → List ℕ
exponent_text None = []
exponent_text (Some e) = letter_text e.capital ++ (sign_text e.sign ++ e.digits)

-- The text of a spelling.
abbrev pub spelling_text : Spelling → List ℕ
spelling_text s = sign_text s.sign ++ (s.whole ++ (fraction_text s.fraction ++ exponent_text s.exponent))

-- The form of a number: digits with at most one point and at least one digit; an exponent has at least one digit.
pub record IsSpelling (s : Spelling) : Type 0 where
  pub whole : AllDigits 10 s.whole
  pub fraction : AllDigits 10 (fraction_digits s.fraction)
  pub some : 0 < length s.whole + length (fraction_digits s.fraction)
  pub exponent : IfSome s.exponent (λ e. IsNumeral 10 e.digits)

-- A number: a sign and a fraction of two whole numbers.
pub record Number : Type 0 where
  pub negative : Bool
  pub numerator : ℕ
  pub denominator : ℕ

-- The power of ten by which an exponent multiplies, and that by which it divides.
abbrev pub exponent_up : Option Exponent → ℕ
exponent_up None = 0
exponent_up (Some e) = if is_minus e.sign then 0 else digits_value 10 e.digits

abbrev pub exponent_down : Option Exponent → ℕ
exponent_down None = 0
exponent_down (Some e) = if is_minus e.sign then digits_value 10 e.digits else 0

-- The number is below 0: it has a minus and is not 0.
abbrev pub IsNegative : Number → Type 0
IsNegative number = (number.negative ≡ true) × (0 < number.numerator)

-- The text begins with a minus.
abbrev pub begins_minus : List ℕ → Bool
begins_minus [] = false
begins_minus (c ∷ cs) = c == 45

-- The number that a spelling stands for: all its digits, over one power of ten for each digit after the point, times
-- the power of its exponent.
abbrev pub number_of : Spelling → Number
number_of s = record {
  negative = is_minus s.sign;
  numerator = digits_value 10 (s.whole ++ fraction_digits s.fraction) * 10 ^ exponent_up s.exponent;
  denominator = 10 ^ (length (fraction_digits s.fraction) + exponent_down s.exponent);
}

-- The text is a number without a scale.
pub record IsDecimal (text : List ℕ) (number : Number) : Type 0 where
  pub spelling : Spelling
  pub form : IsSpelling spelling
  pub is : text ≡ spelling_text spelling
  pub value : number ≡ number_of spelling
