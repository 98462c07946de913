use Rattle.std.proofs.Common.{map, sym, ◌∙◌}
use Rattle.pdn_script.proofs.Values.{told_as, suits_as, says_as, form_refused, name_refused, value_fine}
use Rattle.reading.specs.Word.{heard_token}
use Rattle.pdn_script.proofs.fault.option_value.Goals as goal

pub returns-in-Err : goal.returns-in-Err
returns-in-Err c = form_refused c.args.known.now c.args.command (map heard_token c.args.before.now) c.args.option c.args.text.now c.in-Err.refused c.refused_kind.result
    (told_as c.args.option c.args.text.now c.form_of.result c.value_told.result _ c.form_of.ensures c.in-Err.is c.value_told.ensures.refused) c.refused_kind.ensures

pub returns-in-Some : goal.returns-in-Some
returns-in-Some c = name_refused c.args.known.now c.args.command (map heard_token c.args.before.now) c.args.option c.args.text.now c.in-Ok.number c.in-Some.kind
    (told_as c.args.option c.args.text.now c.form_of.result c.value_told.result _ c.form_of.ensures c.in-Ok.is c.value_told.ensures.refused) (sym c.name_fault.ensures ∙ c.in-Some.is)

pub returns-in-None : goal.returns-in-None
returns-in-None c = value_fine c.args.known.now c.args.command (map heard_token c.args.before.now) c.args.option c.args.text.now c.in-Ok.number
    (told_as c.args.option c.args.text.now c.form_of.result c.value_told.result _ c.form_of.ensures c.in-Ok.is c.value_told.ensures.refused)
    (suits_as c.args.option c.args.text.now c.form_of.result c.value_told.result c.in-Ok.number c.form_of.ensures c.in-Ok.is c.value_told.ensures.fine)
    (says_as c.args.option c.args.text.now c.form_of.result c.value_told.result c.in-Ok.number c.form_of.ensures c.in-Ok.is c.value_told.ensures.says)
    (sym c.name_fault.ensures ∙ c.in-None.is)
