use Rattle.std.proofs.Common.{map, sym, ◌∙◌}
use Rattle.def_design.specs.Record.{SaysName}
use Rattle.def_design.specs.Unit.{is_design}
use Rattle.def_design.proofs.Firsts.{leads_taken, leads_there, leads_other}
use Rattle.def_design.proofs.Heard.{begins_heard}
use Rattle.def_statements.specs.declared.sort.Sort.TheVariants.{Design}
use Rattle.reading.specs.Word.{heard_token}
use Rattle.def_design.proofs.top.Top.take_name.Goals as goal

pub returns-then-not-begins-clause-name : goal.returns-then-not-begins-clause-name
returns-then-not-begins-clause-name c = λ units w.
    leads_other is_design SaysName (map heard_token c.args.unit.now) c.args.self.now.name (sym (begins_heard units c.args.unit.now w.heard Design 3) ∙ sym c.begins.ensures ∙ c.if-not-begins.true)

pub returns-then-is_some-clause-name : goal.returns-then-is_some-clause-name
returns-then-is_some-clause-name c = λ units w. leads_there is_design SaysName (map heard_token c.args.unit.now) c.args.self.now.name (sym c.is_some.ensures ∙ c.if-is_some.true)

pub returns-clause-name : goal.returns-clause-name
returns-clause-name c = λ units w.
    leads_taken is_design SaysName (map heard_token c.args.unit.now) c.args.self.now.name c.in_ok-new.field-0
    (sym (begins_heard units c.args.unit.now w.heard Design 3) ∙ sym c.begins.ensures ∙ c.if-not-begins.false)
    (sym c.is_some.ensures ∙ c.if-is_some.false) (c.in_ok-new.ensures ∙ c.text_at.ensures)
