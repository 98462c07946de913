use Rattle.std.proofs.Common.{arith}
use Rattle.fixed_decimal.proofs.Few.{exactly_after}
use Rattle.fixed_decimal.proofs.short.magnitude.Goals as goal

pub returns : goal.returns
returns c =
    let whole = c.few_digits-whole.ensures in
    let some = c.if-before-eq0.false in
    exactly_after c.args.text.now c.in_ok-after_point.field-0.now c.few_digits-whole.result.1 c.few_digits-whole.result.0 c.args.places c.pointed.result
    whole.within c.in_ok-after_point.ensures.some (omega arith) whole.form whole.value c.pointed.ensures.form c.pointed.ensures.is
