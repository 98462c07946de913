-- What a text stands for in a place for a number: its form, its places, its limit and its sign.
use Rattle.std.specs.Prelude.{◌≡◌, ℕ, ◌^◌, ◌≤◌, ◌⊎◌, ℤ, pos, ◌≤ℤ◌, ◌<ℤ◌, List, Result, Ok, Err}
use Rattle.fixed_decimal.specs.Number.{Number as Fraction, IsDecimal, IsNegative}
use Rattle.fixed_decimal.specs.Spice.{IsSpice}
use Rattle.fixed_decimal.specs.Integer.{IsInteger}
use Rattle.fixed_decimal.specs.Value.{IsAnswer, StandsFor}
use Rattle.number_place.specs.declared.place.NumberForm.{NumberForm}
use Rattle.number_place.specs.declared.place.NumberForm.TheVariants.{Decimal, Scaled, Integer}
use Rattle.number_place.specs.declared.place.NumberSign.{NumberSign}
use Rattle.number_place.specs.declared.place.NumberSign.TheVariants.{Any, NotNegative, Positive}
use Rattle.number_place.specs.declared.place.NumberPlace.{NumberPlace}
use Rattle.number_place.specs.declared.place.Refused.{Refused}
use Rattle.number_place.specs.declared.place.Refused.TheVariants.{Syntax, Number}

-- A number of this form.
abbrev pub is_of : NumberForm → List ℕ → Fraction → Type 0
is_of Decimal = IsDecimal
is_of Scaled = IsSpice
is_of Integer = IsInteger

-- A number may not stand where this sign is asked: one that is below 0, or where it has to be positive one that is 0.
abbrev pub IsOtherSign : NumberSign → Type 0 → Type 0 → Type 0
IsOtherSign Any is_below is_zero = ⊥
IsOtherSign NotNegative is_below is_zero = is_below
IsOtherSign Positive is_below is_zero = is_below ⊎ is_zero

-- The text is a number that may not stand in the place for its sign, also where it is below 0 and vanishes or passes
-- the limit. `-0` is not below 0.
abbrev pub HasOtherSign : NumberPlace → List ℕ → Type 0
HasOtherSign place text =
    IsOtherSign place.sign (StandsFor (is_of place.form) text IsNegative)
    (IsAnswer (is_of place.form) place.places place.limit text (Ok (pos 0)))

-- What a text stands for in the place: a value, or why it is refused. A number of another sign is Syntax.
abbrev pub IsNumberAt : NumberPlace → List ℕ → Result ℤ Refused → Type 0
IsNumberAt place text (Ok value) = (¬ HasOtherSign place text)
    × IsAnswer (is_of place.form) place.places place.limit text (Ok value)
IsNumberAt place text (Err (Number error)) = (¬ HasOtherSign place text)
    × IsAnswer (is_of place.form) place.places place.limit text (Err error)
IsNumberAt place text (Err Syntax) = HasOtherSign place text

-- A place in which numbers can be read: at most 30 places, none for whole numbers, and a limit of at most 10^37.
pub record CanRead (place : NumberPlace) : Type 0 where
  pub places : place.places ≤ 30
  pub limit : place.limit ≤ 10 ^ 37
  pub whole : place.form ≡ Integer → place.places ≡ 0

-- A value of this sign.
abbrev pub HasSign : NumberSign → ℤ → Type 0
HasSign Any value = Unit {0}
HasSign NotNegative value = pos 0 ≤ℤ value
HasSign Positive value = pos 0 <ℤ value
