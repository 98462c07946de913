use Rattle.std.proofs.Common.{arith}
use Rattle.fixed_decimal.proofs.Taking.{exponent_negative, exponent_positive}
use Rattle.fixed_decimal.proofs.split.take_exponent.Goals as goal

pub returns-then-negative-clause-parts : goal.returns-then-negative-clause-parts
returns-then-negative-clause-parts c =
    exponent_negative c.args.text.now c.in-Some.after.now c.take_sign-negative.result.1.now c.in-Some.ensures.some.0 c.take_sign-negative.result.0 c.take_exponent_digits-value.result.1 c.take_exponent_digits-value.result.0
    c.in-Some.ensures.some.1 c.take_sign-negative.ensures c.take_exponent_digits-value.ensures.run (omega arith) c.take_exponent_digits-value.ensures.value c.if-negative.true

pub returns-else-negative-clause-parts : goal.returns-else-negative-clause-parts
returns-else-negative-clause-parts c =
    exponent_positive c.args.text.now c.in-Some.after.now c.take_sign-negative.result.1.now c.in-Some.ensures.some.0 c.take_sign-negative.result.0 c.take_exponent_digits-value.result.1 c.take_exponent_digits-value.result.0
    c.in-Some.ensures.some.1 c.take_sign-negative.ensures c.take_exponent_digits-value.ensures.run (omega arith) c.take_exponent_digits-value.ensures.value c.if-negative.false
