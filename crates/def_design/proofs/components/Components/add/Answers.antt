use Rattle.std.proofs.Common.{map, None, refl, ◌∙◌, subst}
use Rattle.name_table.specs.Numbering.{TakesName}
use Rattle.def_design.proofs.Taking.{component_added}
use Rattle.def_design.proofs.Whole.{component_new}
use Rattle.reading.specs.Word.{heard_token}
use Rattle.def_design.proofs.components.Components.add.Goals as goal

pub returns : goal.returns
returns c = λ is units w.
    component_added (map heard_token c.args.unit.now) c.args.self.now (record { names = c.add.new.self; items = c.push-2.new.self })
    (record { name = c.in_ok-new.field-0; cell = c.in_ok-new-2.field-0; place = None }) is
    (subst (λ z. TakesName c.args.self.now.names.names c.add.new.self.names z) c.text_at-name.ensures c.in_ok-add.ensures.names) c.in_ok-push.ensures.items
    (c.in_ok-new.ensures ∙ c.text_at-name.ensures) (c.in_ok-new-2.ensures ∙ c.text_at.ensures) refl units (component_new units c.args.unit.now w is)
