-- How the reader takes a text apart, for the contracts of its own functions.
use Rattle.std.specs.Prelude.{if◌then◌else◌, ◌≡◌, ℕ, ◌+◌, ◌<◌, ◌≤◌, Bool, true, false, ◌||◌, ◌&&◌, ◌==◌, List, [], ◌∷◌, ◌++◌, length, take, drop, Option, IfSome}
use Rattle.std.specs.declared.option.Option.TheVariants.{Some, None}
use Rattle.std.specs.Char.{is_ascii_digit}
use Rattle.std.specs.Str.Parse.{AllDigits, IsNumeral, digits_value}
use Rattle.fixed_decimal.specs.declared.digits.Digits.{Digits}
use Rattle.fixed_decimal.specs.declared.decimal.Decimal.{Decimal}
use Rattle.fixed_decimal.specs.inside.Kept.{Keeps, IsCapped, Describes}
use Rattle.fixed_decimal.specs.Number.{Sign, sign_text, is_minus, absent, Exponent, exponent_text, exponent_up, exponent_down, fraction_text, fraction_digits, Spelling, IsSpelling, spelling_text, number_of}

-- What a text begins with.
abbrev pub begins_digit : List ℕ → Bool
begins_digit [] = false
begins_digit (c ∷ cs) = is_ascii_digit c

abbrev pub begins_point : List ℕ → Bool
begins_point [] = false
begins_point (c ∷ cs) = c == 46

abbrev pub begins_sign : List ℕ → Bool
begins_sign [] = false
begins_sign (c ∷ cs) = (c == 43) || (c == 45)

abbrev pub without_sign : List ℕ → List ℕ
without_sign [] = []
without_sign (c ∷ cs) = elim (begins_sign (c ∷ cs)) [ true ↦ cs | false ↦ c ∷ cs ]

-- The text after its minus (45), if it begins with one.
abbrev pub after_minus : List ℕ → List ℕ
after_minus [] = []
after_minus (c ∷ cs) = if c == 45 then cs else (c ∷ cs)

abbrev pub begins_exponent : List ℕ → Bool
begins_exponent [] = false
begins_exponent (c ∷ cs) = ((c == 101) || (c == 69)) && begins_digit (without_sign cs)

-- The text begins with just so many digits.
pub record IsRun (text : List ℕ) (count : ℕ) : Type 0 where
  pub within : count ≤ length text
  pub digits : AllDigits 10 (take count text)
  pub ends : begins_digit (drop count text) ≡ false

-- The sign of the text, and the rest after it.
pub record TakesSign (text : List ℕ) (negative : Bool) (rest : List ℕ) : Type 0 where
  pub sign : Sign
  pub is : text ≡ sign_text sign ++ rest
  pub negative_is : negative ≡ is_minus sign
  pub ends : sign ≡ absent → begins_sign rest ≡ false

-- The rest goes on with no exponent, or with no digit of the exponent before it.
abbrev pub EndsExponent : Option Exponent → List ℕ → Type 0
EndsExponent None rest = begins_exponent rest ≡ false
EndsExponent (Some e) rest = begins_digit rest ≡ false

-- The exponent of the text, and the rest after it.
pub record TakesExponent (text : List ℕ) (up down : ℕ) (rest : List ℕ) : Type 0 where
  pub exponent : Option Exponent
  pub is : text ≡ exponent_text exponent ++ rest
  pub form : IfSome exponent (λ e. IsNumeral 10 e.digits)
  pub ends : EndsExponent exponent rest
  pub up_is : IsCapped (exponent_up exponent) up
  pub down_is : IsCapped (exponent_down exponent) down

-- The rest goes on with no digit, and with no point where none stands before it.
abbrev pub EndsFraction : Option (List ℕ) → List ℕ → Type 0
EndsFraction None rest = (begins_digit rest ≡ false) × (begins_point rest ≡ false)
EndsFraction (Some digits) rest = begins_digit rest ≡ false

-- The text has these digits before and after a point, or no point, and then the rest.
pub record IsMantissa (text whole : List ℕ) (fraction : Option (List ℕ)) (rest : List ℕ) : Type 0 where
  pub is : text ≡ whole ++ (fraction_text fraction ++ rest)
  pub whole_form : AllDigits 10 whole
  pub fraction_form : AllDigits 10 (fraction_digits fraction)
  pub some : 0 < length whole + length (fraction_digits fraction)

-- The digits of the text before and after the point, how many stand after it, and the rest.
pub record TakesMantissa (text : List ℕ) (digits : Digits) (decimals : ℕ) (rest : List ℕ) : Type 0 where
  pub whole : List ℕ
  pub fraction : Option (List ℕ)
  pub form : IsMantissa text whole fraction rest
  pub ends : EndsFraction fraction rest
  pub keeps : Keeps (digits_value 10 (whole ++ fraction_digits fraction)) digits
  pub decimals_is : decimals ≡ length (fraction_digits fraction)

-- The rest does not go on with the number.
pub record EndsNumber (s : Spelling) (rest : List ℕ) : Type 0 where
  pub digit : begins_digit rest ≡ false
  pub point : s.fraction ≡ None → s.exponent ≡ None → begins_point rest ≡ false
  pub exponent : s.exponent ≡ None → begins_exponent rest ≡ false

-- The longest number at the front of the text, and the rest.
pub record Splits (text : List ℕ) (decimal : Decimal) (rest : List ℕ) : Type 0 where
  pub spelling : Spelling
  pub form : IsSpelling spelling
  pub is : text ≡ spelling_text spelling ++ rest
  pub ends : EndsNumber spelling rest
  pub negative : decimal.negative ≡ is_minus spelling.sign
  pub describes : Describes (number_of spelling) decimal.digits decimal.up decimal.down
