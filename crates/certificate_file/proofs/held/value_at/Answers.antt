use Rattle.std.proofs.Common.{sym, ◌∙◌, subst}
use Rattle.std.specs.Prelude.{◌≤◌, unsigned_abs}
use Rattle.certificate_file.specs.Voltage.{limit}
use Rattle.certificate_file.proofs.Rows.{value_read, value_past}
use Rattle.certificate_file.proofs.Voltages.{kept_128}
use Rattle.certificate_file.proofs.held.value_at.Goals as goal

pub returns-in-Some : goal.returns-in-Some
returns-in-Some c = λ within.
    let heard = c.in-Some.heard.now in
    let found = c.in-Some.ensures.lookup in
    let is = value_read c.args.unit.now c.args.at heard found.3.0 found.1 in
    kept_128 heard.value (subst (λ z. unsigned_abs z ≤ limit) is within) ∙ sym is

pub returns-in-None : goal.returns-in-None
returns-in-None c = λ within. sym (value_past c.args.unit.now c.args.at c.in-None.ensures.lookup.3)
