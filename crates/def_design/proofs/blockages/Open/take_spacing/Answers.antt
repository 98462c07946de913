use Rattle.std.proofs.Common.{map, refl, sym, ◌∙◌, subst}
use Rattle.def_design.specs.declared.number.Quantity.TheVariants.{NotNegative}
use Rattle.def_design.specs.Number.{IsNumber}
use Rattle.def_design.specs.Record.{SaysSpacing}
use Rattle.def_design.specs.Unit.{is_spacing}
use Rattle.def_design.proofs.Firsts.{leads_taken, leads_there, leads_other}
use Rattle.def_design.proofs.Heard.{begins_heard}
use Rattle.def_design.proofs.Numbers.{read_as}
use Rattle.def_design.proofs.Whole.{spacing_said}
use Rattle.def_statements.specs.declared.sort.Sort.TheVariants.{Spacing}
use Rattle.def_statements.specs.Unit.{text_at}
use Rattle.reading.specs.Word.{heard_token}
use Rattle.def_design.proofs.blockages.Open.take_spacing.Goals as goal

pub returns-then-not-begins-clause-spacing : goal.returns-then-not-begins-clause-spacing
returns-then-not-begins-clause-spacing c = λ units w.
    leads_other is_spacing SaysSpacing (map heard_token c.args.unit.now) c.args.self.now.spacing (sym (begins_heard units c.args.unit.now w.heard Spacing 2) ∙ sym c.begins.ensures ∙ c.if-not-begins.true)

pub returns-then-is_some-clause-spacing : goal.returns-then-is_some-clause-spacing
returns-then-is_some-clause-spacing c = λ units w. leads_there is_spacing SaysSpacing (map heard_token c.args.unit.now) c.args.self.now.spacing (sym c.is_some.ensures ∙ c.if-is_some.true)

pub returns-clause-spacing : goal.returns-clause-spacing
returns-clause-spacing c = λ units w.
    let unit = c.args.unit.now in
    let words = map heard_token unit in
    let is = sym (begins_heard units unit w.heard Spacing 2) ∙ sym c.begins.ensures ∙ c.if-not-begins.false in
    leads_taken is_spacing SaysSpacing words c.args.self.now.spacing _ is (sym c.is_some.ensures ∙ c.if-is_some.false)
    (read_as NotNegative (text_at 1 words) (text_at 1 words) c.number_at.result refl (subst (λ z. IsNumber NotNegative (text_at 1 words) z) (sym c.number_at.ensures) (spacing_said units unit w is)))
