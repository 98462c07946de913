use Rattle.std.proofs.Common.{map, refl, sym, ◌∙◌, subst}
use Rattle.def_design.specs.declared.number.Quantity.TheVariants.{Microns}
use Rattle.def_design.specs.Number.{IsNumber}
use Rattle.def_design.specs.Record.{SaysUnits}
use Rattle.def_design.specs.Unit.{is_units}
use Rattle.def_design.proofs.Firsts.{leads_taken, leads_there, leads_other}
use Rattle.def_design.proofs.Heard.{begins_heard}
use Rattle.def_design.proofs.Numbers.{read_as}
use Rattle.def_design.proofs.Whole.{units_said}
use Rattle.def_statements.specs.declared.sort.Sort.TheVariants.{Units}
use Rattle.def_statements.specs.Unit.{text_at}
use Rattle.reading.specs.Word.{heard_token}
use Rattle.def_design.proofs.top.Top.take_units.Goals as goal

pub returns-then-not-begins-clause-units : goal.returns-then-not-begins-clause-units
returns-then-not-begins-clause-units c = λ units w.
    leads_other is_units SaysUnits (map heard_token c.args.unit.now) c.args.self.now.units (sym (begins_heard units c.args.unit.now w.heard Units 5) ∙ sym c.begins.ensures ∙ c.if-not-begins.true)

pub returns-then-is_some-clause-units : goal.returns-then-is_some-clause-units
returns-then-is_some-clause-units c = λ units w. leads_there is_units SaysUnits (map heard_token c.args.unit.now) c.args.self.now.units (sym c.is_some.ensures ∙ c.if-is_some.true)

pub returns-clause-units : goal.returns-clause-units
returns-clause-units c = λ units w.
    let unit = c.args.unit.now in
    let words = map heard_token unit in
    let is = sym (begins_heard units unit w.heard Units 5) ∙ sym c.begins.ensures ∙ c.if-not-begins.false in
    let number = read_as Microns (text_at 3 words) (text_at 3 words) c.number_at.result refl (subst (λ z. IsNumber Microns (text_at 3 words) z) (sym c.number_at.ensures) (units_said units unit w is)) in
    leads_taken is_units SaysUnits words c.args.self.now.units c.microns_of.result is (sym c.is_some.ensures ∙ c.if-is_some.false)
    (subst (λ z. IsNumber Microns (text_at 3 words) z) (sym (c.microns_of.ensures (text_at 3 words) number)) number)
