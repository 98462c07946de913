use Rattle.std.proofs.Common.{◌≡◌, ℤ, rules, sym, subst}
use Rattle.signoff_report.specs.Shown.{shown_voltage}
use Rattle.signoff_report.specs.inside.Intervals.{IsShort, longest_voltage}
use Rattle.signoff_report.proofs.Short.{voltage_short}
use Rattle.signoff_report.proofs.judging.voltage_shown.Goals as goal

pub returns-clause-short : goal.returns-clause-short
returns-clause-short c =
    let is : c.voltage.result ≡ shown_voltage c.args.certified.now c.args.node = search rules in
    subst (λ (shown : ℤ × ℤ). IsShort longest_voltage shown) (sym is)
    (voltage_short c.args.certified.now c.high-high.ensures.certificate c.args.node c.requires)
