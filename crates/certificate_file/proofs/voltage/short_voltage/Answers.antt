use Rattle.std.proofs.Common.{Ok, sym, ◌∙◌, ap, subst, arith, to_z, of_z}
use Rattle.std.specs.Int.{w128}
use Rattle.std.specs.Str.Parse.{digits_value}
use Rattle.fixed_decimal.specs.Value.{signed}
use Rattle.certificate_file.specs.Voltage.{IsVoltage}
use Rattle.certificate_file.proofs.Voltages.{value_short, numeral_is, kept_128, abs_signed}
use Rattle.certificate_file.proofs.voltage.short_voltage.Goals as goal

pub signed-requires : goal.signed-requires
signed-requires c =
    let digits = c.sign_and_digits-negative.result.1.now in
    let below = value_short digits 37 c.in_ok-number.ensures.numeral.1 c.in_ok-number.ensures.short in
    let e = c.in_ok-number.ensures.number in
    omega arith

pub returns : goal.returns
returns c =
    let digits = c.sign_and_digits-negative.result.1.now in
    let negative = c.sign_and_digits-negative.result.0 in
    let below = value_short digits 37 c.in_ok-number.ensures.numeral.1 c.in_ok-number.ensures.short in
    let value = c.signed.ensures ∙ ap (signed negative) c.in_ok-number.ensures.number in
    let is = numeral_is negative digits c.in_ok-number.ensures.numeral (omega arith) in
    let abs = abs_signed negative (digits_value 10 digits) in
    let whole = subst (λ z. IsVoltage z (Ok (signed negative (digits_value 10 digits)))) (sym c.sign_and_digits-negative.ensures) is in
    subst (λ z. IsVoltage c.args.text.now (Ok (to_z w128 (of_z w128 z)))) (sym value)
    (subst (λ z. IsVoltage c.args.text.now (Ok z)) (sym (kept_128 (signed negative (digits_value 10 digits)) (omega arith))) whole)
