use Rattle.std.proofs.Common.{map, Ok, sym, ◌∙◌, ap, subst}
use Rattle.pdn_script.specs.Fault.{AtRole}
use Rattle.pdn_script.specs.Given.{if_valued}
use Rattle.pdn_script.specs.inside.Value.{SaysRole}
use Rattle.pdn_script.proofs.Values.{plain_fine}
use Rattle.reading.specs.Fault.{FindsValue}
use Rattle.reading.specs.Word.{token, heard_token}
use Rattle.pdn_script.proofs.fault.word_value.Goals as goal

pub returns-in-Some : goal.returns-in-Some
returns-in-Some c =
    let before = map heard_token c.args.before.now in
    subst (λ z. FindsValue (AtRole c.args.known.now c.args.command before (token c.args.last.now) z) (SaysRole c.args.known.now c.args.command before z (token c.args.last.now)) c.option_value.result)
    (sym c.in-Some.is) c.option_value.ensures

pub returns-in-Some-plain_fault : goal.returns-in-Some-plain_fault
returns-in-Some-plain_fault c = subst (λ z. AtRole c.args.known.now c.args.command (map heard_token c.args.before.now) (token c.args.last.now) z c.in-Some-plain_fault.kind) (sym c.in-None.is)
    (sym c.plain_fault.ensures ∙ c.in-Some-plain_fault.is)

pub returns-in-None-plain_fault : goal.returns-in-None-plain_fault
returns-in-None-plain_fault c =
    let before = map heard_token c.args.before.now in
    subst (λ z. FindsValue (AtRole c.args.known.now c.args.command before (token c.args.last.now) z) (SaysRole c.args.known.now c.args.command before z (token c.args.last.now)) (Ok c.name_value.result)) (sym c.in-None.is)
    (plain_fine c.args.known.now c.args.command before (token c.args.last.now) c.name_value.result (sym c.plain_fault.ensures ∙ c.in-None-plain_fault.is) (c.name_value.ensures ∙ ap if_valued c.option_of.ensures))
