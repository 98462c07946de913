use Rattle.std.proofs.Common.{arith, ◌*◌}
use Rattle.fixed_decimal.proofs.Few.{raised_is, raised_if}
use Rattle.fixed_decimal.proofs.short.raised.Goals as goal

pub returns : goal.returns
returns c =
    let places = c.from.ensures in
    let rest = c.in_ok-checked_sub.ensures in
    raised_if c.checked_mul.result _ c.args.digits c.args.decimals c.args.places (c.args.digits * c.in_ok-unit.unit) c.checked_mul.ensures
    (raised_is c.args.digits c.args.decimals c.args.places c.in_ok-checked_sub.field-0 c.in_ok-unit.unit (omega arith) (omega arith) c.in_ok-unit.ensures.is)
