use Rattle.std.proofs.Common.{Ok, sym, subst}
use Rattle.certificate_file.specs.Voltage.{IsVoltage}
use Rattle.certificate_file.proofs.Law.{one_voltage, not_both}
use Rattle.certificate_file.proofs.Voltages.{kept_128}
use Rattle.certificate_file.proofs.fault.voltage_value.Goals as goal

pub returns-in-Ok : goal.returns-in-Ok
returns-in-Ok c =
    let is = c.in-Ok.ensures in (
      (λ kind h. not_both c.in-Ok.value h.0 (one_voltage c.texts_have_one_answer.ensures.integer c.args.text.now _ _ is h.3)),
      (λ row. subst (λ z. IsVoltage c.args.text.now (Ok z)) (sym (kept_128 c.in-Ok.value is.2.within)) is),
    )
