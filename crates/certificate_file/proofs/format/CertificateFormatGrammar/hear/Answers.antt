use Rattle.std.proofs.Common.{length, refl, subst}
use Rattle.reading.specs.Fault.{FindsValue}
use Rattle.reading.specs.Laws.{tell-heard, one-item, two-items}
use Rattle.reading.specs.Word.{token}
use Rattle.certificate_file.specs.Fault.{VoltageFault}
use Rattle.certificate_file.specs.Format.{format}
use Rattle.certificate_file.specs.inside.Held.{SaysVoltage, says}
use Rattle.certificate_file.proofs.Rows.{no_word}
use Rattle.certificate_file.proofs.format.CertificateFormatGrammar.hear.Goals as goal

pub returns-in-len1 : goal.returns-in-len1
returns-in-len1 c = λ units h heard same.
    let names = c.args.self.now.names.now in
    let w = token c.args.word.now in
    let words = one-item no_word c.args.before.now c.in-len1.len_at_least c.in-len1.len_below in
    let told = subst (λ z. FindsValue (VoltageFault names z w.text) (SaysVoltage names z w.text) c.voltage_value.result) h.count c.voltage_value.ensures in
    tell-heard (format names) (says names (length units)) units _ _ w 1 (VoltageFault names (length units) w.text) (SaysVoltage names (length units) w.text) c.voltage_value.result _
    words c.told_at-in-len1.ensures (λ a k. k) (λ kind k. (refl, k)) (λ value k. k) told

pub returns-in-len2 : goal.returns-in-len2
returns-in-len2 c = λ units h heard same.
    let names = c.args.self.now.names.now in
    let w = token c.args.word.now in
    let words = two-items no_word c.args.before.now c.in-len2.len_at_least c.in-len2.len_below in
    let told = subst (λ z. FindsValue (VoltageFault names z w.text) (SaysVoltage names z w.text) c.voltage_value-in-len2.result) h.count c.voltage_value-in-len2.ensures in
    tell-heard (format names) (says names (length units)) units _ _ w 2 (VoltageFault names (length units) w.text) (SaysVoltage names (length units) w.text) c.voltage_value-in-len2.result _
    words c.told_at-in-len2.ensures (λ a k. k) (λ kind k. (refl, k)) (λ value k. k) told
