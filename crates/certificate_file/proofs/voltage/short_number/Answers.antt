use Rattle.std.proofs.Common.{◌≡◌, ◌<◌, ◌-◌, ◌^◌, ◌*◌, ◌+◌, rules, length, ◌∙◌, ap}
use Rattle.certificate_file.proofs.Voltages.{slices_all, slices_value}
use Rattle.certificate_file.proofs.voltage.short_number.Goals as goal

pub returns-clause-numeral : goal.returns-clause-numeral
returns-clause-numeral c =
    let some : 0 < length c.args.digits.now = search rules in
    (some, slices_all c.args.digits.now c.saturating_sub-at.result c.in_ok-front.ensures.all c.in_ok-back.ensures.all)

pub returns-clause-number : goal.returns-clause-number
returns-clause-number c =
    let at : c.saturating_sub-at.result ≡ length c.args.digits.now - 18 = search rules in
    ap (λ z. z * 10 ^ 18 + c.from-2.result) c.from.ensures ∙ ap (λ z. c.in_ok-front.front * 10 ^ 18 + z) c.from-2.ensures
    ∙ slices_value c.args.digits.now c.saturating_sub-at.result c.in_ok-front.front c.in_ok-back.back at c.in_ok-front.ensures.number c.in_ok-back.ensures.number
