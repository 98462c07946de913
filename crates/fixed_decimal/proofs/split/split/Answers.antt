use Rattle.std.proofs.Common.{◌+◌, refl, ap}
use Rattle.fixed_decimal.proofs.Taking.{no_spelling, splits}
use Rattle.fixed_decimal.proofs.split.split.Goals as goal

pub returns-in_err-digits-clause-none : goal.returns-in_err-digits-clause-none
returns-in_err-digits-clause-none c =
    let given = no_spelling c.args.text.now c.take_sign-negative.result.1.now c.take_sign-negative.result.0 c.take_sign-negative.ensures c.in_err-digits.ensures.none in
    rw c.from_residual.ensures given

pub returns-clause-some : goal.returns-clause-some
returns-clause-some c =
    splits c.args.text.now c.take_sign-negative.result.1.now c.in_ok-digits.after.now c.take_exponent-up.result.2.now c.take_sign-negative.result.0 c.in_ok-digits.digits c.in_ok-digits.decimals c.take_exponent-up.result.0 c.take_exponent-up.result.1 _
    c.take_sign-negative.ensures c.in_ok-digits.ensures.some c.take_exponent-up.ensures.parts refl refl refl (ap (λ x. c.take_exponent-up.result.1 + x) c.from.ensures)
