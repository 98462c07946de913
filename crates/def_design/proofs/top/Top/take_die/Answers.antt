use Rattle.std.proofs.Common.{map, sym, ◌∙◌, inl, inr}
use Rattle.def_design.specs.Record.{SaysDie}
use Rattle.def_design.specs.Unit.{is_die}
use Rattle.def_design.proofs.Firsts.{leads_taken, leads_there, leads_other}
use Rattle.def_design.proofs.Heard.{begins_heard}
use Rattle.def_design.proofs.Whole.{area_of, die_said, die_spans}
use Rattle.def_statements.specs.declared.sort.Sort.TheVariants.{DieArea}
use Rattle.reading.specs.Word.{heard_token}
use Rattle.def_design.proofs.top.Top.take_die.Goals as goal

pub returns-then-not-begins-clause-die : goal.returns-then-not-begins-clause-die
returns-then-not-begins-clause-die c = λ units w.
    leads_other is_die SaysDie (map heard_token c.args.unit.now) c.args.self.now.die (sym (begins_heard units c.args.unit.now w.heard DieArea 10) ∙ sym c.begins.ensures ∙ c.if-not-begins.true)

pub returns-then-is_some-clause-die : goal.returns-then-is_some-clause-die
returns-then-is_some-clause-die c = λ units w. leads_there is_die SaysDie (map heard_token c.args.unit.now) c.args.self.now.die (sym c.is_some.ensures ∙ c.if-is_some.true)

pub returns-clause-die : goal.returns-clause-die
returns-clause-die c = λ units w.
    let unit = c.args.unit.now in
    let is = sym (begins_heard units unit w.heard DieArea 10) ∙ sym c.begins.ensures ∙ c.if-not-begins.false in
    leads_taken is_die SaysDie (map heard_token unit) c.args.self.now.die c.rect_of.result is (sym c.is_some.ensures ∙ c.if-is_some.false)
    (area_of 2 (map heard_token unit) c.rect_of.result (λ h. die_spans units unit w is (inl h)) (λ h. die_spans units unit w is (inr h)) (c.rect_of.ensures (die_said units unit w is)))
