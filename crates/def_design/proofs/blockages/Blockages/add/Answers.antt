use Rattle.std.proofs.Common.{map, refl, sym, ◌∙◌}
use Rattle.def_design.proofs.Heard.{begins_heard}
use Rattle.def_design.proofs.Taking.{rect_added, rect_other, rect_excepted}
use Rattle.def_design.proofs.Whole.{rect_said}
use Rattle.def_statements.specs.declared.sort.Sort.TheVariants.{Rect}
use Rattle.reading.specs.Word.{heard_token}
use Rattle.def_design.proofs.blockages.Blockages.add.Goals as goal

pub returns-then-not-begins-clause-items : goal.returns-then-not-begins-clause-items
returns-then-not-begins-clause-items c = λ units w.
    rect_other (map heard_token c.args.unit.now) c.args.self.now c.args.self.now (sym (begins_heard units c.args.unit.now w.heard Rect 9) ∙ sym c.begins.ensures ∙ c.if-not-begins.true) refl

pub returns-then-self-clause-items : goal.returns-then-self-clause-items
returns-then-self-clause-items c = λ units w. rect_excepted (map heard_token c.args.unit.now) c.args.self.now c.args.self.now c.if-self.true refl

pub returns-clause-items : goal.returns-clause-items
returns-clause-items c = λ units w.
    let is = sym (begins_heard units c.args.unit.now w.heard Rect 9) ∙ sym c.begins.ensures ∙ c.if-not-begins.false in
    rect_added (map heard_token c.args.unit.now) c.args.self.now (record { «open» = c.args.self.now.open; items = c.push.new.self })
    (record { layer = c.in_ok-new.field-0; spacing = c.args.self.now.open.spacing; rect = c.rect_of.result }) is
    c.if-self.false c.in_ok-push.ensures.items c.in_ok-new.ensures refl (c.rect_of.ensures (rect_said units c.args.unit.now w is))
