-- What the calls of this crate compute.
use Rattle.std.specs.Prelude.{Bool, false, ◌||◌, ℤ, Result, Ok, Err}
use Rattle.fixed_decimal.specs.declared.error.DecimalError.{DecimalError}
use Rattle.number_place.specs.declared.place.NumberSign.{NumberSign}
use Rattle.number_place.specs.declared.place.NumberSign.TheVariants.{Any, NotNegative, Positive}
use Rattle.number_place.specs.declared.place.Refused.{Refused}
use Rattle.number_place.specs.declared.place.Refused.TheVariants.{Number}

-- Whether a number is of another sign, where it is known whether it is below 0 and whether it is 0.
abbrev pub other_sign : NumberSign → Bool → Bool → Bool
other_sign Any below zero = false
other_sign NotNegative below zero = below
other_sign Positive below zero = below || zero

-- The answer in a place whose sign the number has.
abbrev pub told : Result ℤ DecimalError → Result ℤ Refused
told (Ok value) = Ok value
told (Err error) = Err (Number error)
