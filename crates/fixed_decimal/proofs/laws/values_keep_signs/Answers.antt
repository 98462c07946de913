use Rattle.fixed_decimal.specs.Number.{IsDecimal}
use Rattle.fixed_decimal.specs.Spice.{IsSpice}
use Rattle.fixed_decimal.proofs.Signs.{decimal_sign, spice_sign, not_below}
use Rattle.fixed_decimal.specs.Integer.{IsInteger}
use Rattle.fixed_decimal.proofs.Integers.{integer_unique, integer_sign}
use Rattle.fixed_decimal.proofs.TextLaws.{decimal_unique, spice_unique}
use Rattle.fixed_decimal.proofs.laws.values_keep_signs.Goals as goal

pub returns-clause-decimal : goal.returns-clause-decimal
returns-clause-decimal c = λ places limit text v a. not_below IsDecimal text (decimal_unique text) (decimal_sign text) places limit v a

pub returns-clause-spice : goal.returns-clause-spice
returns-clause-spice c = λ places limit text v a. not_below IsSpice text (spice_unique text) (spice_sign text) places limit v a

pub returns-clause-integer : goal.returns-clause-integer
returns-clause-integer c = λ places limit text v a. not_below IsInteger text (integer_unique text) (integer_sign text) places limit v a
