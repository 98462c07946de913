-- The value of a number at so many decimal places, and what a reader answers.
use Rattle.std.specs.Prelude.{◌≡◌, ℕ, ◌+◌, ◌*◌, ◌^◌, ◌<◌, ◌≤◌, Bool, true, false, ℤ, pos, neg_ℤ, unsigned_abs, List, Result}
use Rattle.std.specs.declared.result.Result.TheVariants.{Ok, Err}
use Rattle.fixed_decimal.specs.declared.error.DecimalError.{DecimalError}
use Rattle.fixed_decimal.specs.declared.error.DecimalError.TheVariants.{NotNumber, Vanishes as VanishesError, Range}
use Rattle.fixed_decimal.specs.Number.{Number, IsDecimal}
use Rattle.fixed_decimal.specs.Spice.{IsSpice}

-- m is the whole number nearest to n / d, and of two equally near ones the greater: n / d is at least m - 1/2 and below
-- m + 1/2.
pub record IsNearest (n d m : ℕ) : Type 0 where
  pub reached : 2 * (m * d) ≤ 2 * n + d
  pub below : 2 * n + d < 2 * ((m + 1) * d)

-- m is the number's magnitude in units of 10^-places, rounded to nearest.
abbrev pub IsMagnitude : Number → ℕ → ℕ → Type 0
IsMagnitude number places m = IsNearest (number.numerator * 10 ^ places) number.denominator m

-- m with the number's sign.
abbrev pub signed : Bool → ℕ → ℤ
signed false m = pos m
signed true m = neg_ℤ (pos m)

-- v is the number's value in units of 10^-places, rounded to nearest, halves away from zero.
pub record IsValue (number : Number) (places : ℕ) (v : ℤ) : Type 0 where
  pub magnitude : ℕ
  pub nearest : IsMagnitude number places magnitude
  pub is : v ≡ signed number.negative magnitude

-- The number is other than 0, and its value is 0.
pub record Vanishes (number : Number) (places : ℕ) : Type 0 where
  pub other : 0 < number.numerator
  pub nothing : IsMagnitude number places 0

-- The value's magnitude is above the limit.
pub record IsAbove (number : Number) (places limit : ℕ) : Type 0 where
  pub magnitude : ℕ
  pub nearest : IsMagnitude number places magnitude
  pub above : limit < magnitude

-- v is the number's value, which is within the limit, and 0 for 0 alone.
pub record IsWithin (number : Number) (places limit : ℕ) (v : ℤ) : Type 0 where
  pub value : IsValue number places v
  pub within : unsigned_abs v ≤ limit
  pub stays : v ≡ pos 0 → number.numerator ≡ 0

-- A text stands for a number of which this holds.
abbrev pub StandsFor : (List ℕ → Number → Type 0) → List ℕ → (Number → Type 0) → Type 0
StandsFor form text holds = (number : Number) × form text number × holds number

-- The text is a number with a scale.
abbrev pub IsSpiceNumber : List ℕ → Type 0
IsSpiceNumber text = (number : Number) × IsSpice text number

-- v is the value of the text at so many places.
abbrev pub DecimalValue : ℕ → List ℕ → ℤ → Type 0
DecimalValue places text v = StandsFor IsDecimal text (λ number. IsValue number places v)

abbrev pub SpiceValue : ℕ → List ℕ → ℤ → Type 0
SpiceValue places text v = StandsFor IsSpice text (λ number. IsValue number places v)

-- `read` answers v.
abbrev pub DecimalReads : ℕ → ℕ → List ℕ → ℤ → Type 0
DecimalReads places limit text v = StandsFor IsDecimal text (λ number. IsWithin number places limit v)

-- `read_spice` answers v.
abbrev pub SpiceReads : ℕ → ℕ → List ℕ → ℤ → Type 0
SpiceReads places limit text v = StandsFor IsSpice text (λ number. IsWithin number places limit v)

-- Whether a text that has no value for this reason is a number.
abbrev pub stands_for_number : DecimalError → Bool
stands_for_number NotNumber = false
stands_for_number VanishesError = true
stands_for_number Range = true

-- The answer to a text of this form: the value of its number, or why it has none.
abbrev pub IsAnswer : (List ℕ → Number → Type 0) → ℕ → ℕ → List ℕ → Result ℤ DecimalError → Type 0
IsAnswer form places limit text (Ok v) = StandsFor form text (λ number. IsWithin number places limit v)
IsAnswer form places limit text (Err NotNumber) = (number : Number) → ¬ form text number
IsAnswer form places limit text (Err VanishesError) = StandsFor form text (λ number. Vanishes number places)
IsAnswer form places limit text (Err Range) = StandsFor form text (λ number. IsAbove number places limit)
