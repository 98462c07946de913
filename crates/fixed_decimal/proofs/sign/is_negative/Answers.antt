use Rattle.std.proofs.Common.{◌≡◌, subst, sym, IfOk, IsTrue, ◌↔◌, pos}
use Rattle.std.specs.Prelude.{int_lt}
use Rattle.fixed_decimal.specs.Number.{IsDecimal, IsNegative}
use Rattle.fixed_decimal.specs.Spice.{IsSpice}
use Rattle.fixed_decimal.specs.Value.{StandsFor, IsAnswer}
use Rattle.fixed_decimal.proofs.Signs.{decimal_sign, spice_sign, of_value, of_error}
use Rattle.fixed_decimal.specs.Integer.{IsInteger}
use Rattle.fixed_decimal.proofs.Integers.{integer_unique, integer_sign}
use Rattle.fixed_decimal.proofs.TextLaws.{decimal_unique, spice_unique}
use Rattle.fixed_decimal.proofs.sign.is_negative.Goals as goal

pub returns-in-Ok-clause-integer : goal.returns-in-Ok-clause-integer
returns-in-Ok-clause-integer c = λ places limit a.
    subst (λ z. IsTrue z ↔ StandsFor IsInteger c.args.text.now IsNegative) (sym (subst (λ z. IfOk z (λ v. c.is_below_zero.result ≡ int_lt v (pos 0))) c.in-Ok.is c.is_below_zero.ensures))
    (of_value IsInteger c.args.text.now (integer_unique c.args.text.now) (integer_sign c.args.text.now) places limit _ (subst (λ z. IsAnswer IsInteger places limit c.args.text.now z) c.in-Ok.is a))

pub returns-in-Err-clause-integer : goal.returns-in-Err-clause-integer
returns-in-Err-clause-integer c = λ places limit a.
    subst (λ z. IsTrue z ↔ StandsFor IsInteger c.args.text.now IsNegative) (sym c.is_refused_negative.ensures)
    (of_error IsInteger c.args.text.now (integer_unique c.args.text.now) (integer_sign c.args.text.now) places limit _ (subst (λ z. IsAnswer IsInteger places limit c.args.text.now z) c.in-Err.is a))

pub returns-in-Ok-clause-decimal : goal.returns-in-Ok-clause-decimal
returns-in-Ok-clause-decimal c = λ places limit a. subst (λ z. IsTrue z ↔ StandsFor IsDecimal c.args.text.now IsNegative) (sym (subst (λ z. IfOk z (λ v. c.is_below_zero.result ≡ int_lt v (pos 0))) c.in-Ok.is c.is_below_zero.ensures)) (of_value IsDecimal c.args.text.now (decimal_unique c.args.text.now) (decimal_sign c.args.text.now) places limit _ (subst (λ z. IsAnswer IsDecimal places limit c.args.text.now z) c.in-Ok.is a))

pub returns-in-Ok-clause-spice : goal.returns-in-Ok-clause-spice
returns-in-Ok-clause-spice c = λ places limit a. subst (λ z. IsTrue z ↔ StandsFor IsSpice c.args.text.now IsNegative) (sym (subst (λ z. IfOk z (λ v. c.is_below_zero.result ≡ int_lt v (pos 0))) c.in-Ok.is c.is_below_zero.ensures)) (of_value IsSpice c.args.text.now (spice_unique c.args.text.now) (spice_sign c.args.text.now) places limit _ (subst (λ z. IsAnswer IsSpice places limit c.args.text.now z) c.in-Ok.is a))

pub returns-in-Err-clause-decimal : goal.returns-in-Err-clause-decimal
returns-in-Err-clause-decimal c = λ places limit a. subst (λ z. IsTrue z ↔ StandsFor IsDecimal c.args.text.now IsNegative) (sym c.is_refused_negative.ensures) (of_error IsDecimal c.args.text.now (decimal_unique c.args.text.now) (decimal_sign c.args.text.now) places limit _ (subst (λ z. IsAnswer IsDecimal places limit c.args.text.now z) c.in-Err.is a))

pub returns-in-Err-clause-spice : goal.returns-in-Err-clause-spice
returns-in-Err-clause-spice c = λ places limit a. subst (λ z. IsTrue z ↔ StandsFor IsSpice c.args.text.now IsNegative) (sym c.is_refused_negative.ensures) (of_error IsSpice c.args.text.now (spice_unique c.args.text.now) (spice_sign c.args.text.now) places limit _ (subst (λ z. IsAnswer IsSpice places limit c.args.text.now z) c.in-Err.is a))
