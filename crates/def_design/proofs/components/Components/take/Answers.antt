use Rattle.std.proofs.Common.{map, sym, ◌∙◌, true}
use Rattle.def_design.specs.inside.Held.{HoldsComponents}
use Rattle.def_design.specs.Unit.{is_component, is_placed}
use Rattle.def_design.proofs.Heard.{begins_heard, placed_heard}
use Rattle.def_design.proofs.Taking.{component_kept, when_one, when_both}
use Rattle.def_statements.specs.declared.sort.Sort.TheVariants.{Minus}
use Rattle.reading.specs.Word.{heard_token}
use Rattle.def_design.proofs.components.Components.take.Goals as goal

pub returns-then-begins : goal.returns-then-begins
returns-then-begins c =
    when_one (is_component (map heard_token c.args.unit.now)) true HoldsComponents c.args.unit.now c.args.self.now c.add.new.self c.add.result
    (λ units w. sym (begins_heard units c.args.unit.now w.heard Minus 3) ∙ sym c.begins.ensures ∙ c.if-begins.true) c.add.ensures

pub returns-then-is_placed : goal.returns-then-is_placed
returns-then-is_placed c =
    when_both (is_component (map heard_token c.args.unit.now)) (is_placed (map heard_token c.args.unit.now)) HoldsComponents c.args.unit.now c.args.self.now c.place.new.self c.place.result
    (λ units w. sym (begins_heard units c.args.unit.now w.heard Minus 3) ∙ sym c.begins.ensures ∙ c.if-begins.false)
    (λ units w. sym (placed_heard units c.args.unit.now w.heard) ∙ sym c.is_placed.ensures ∙ c.if-is_placed.true) c.place.ensures

pub returns : goal.returns
returns c = λ units w.
    component_kept (map heard_token c.args.unit.now) c.args.self.now (sym (begins_heard units c.args.unit.now w.heard Minus 3) ∙ sym c.begins.ensures ∙ c.if-begins.false)
    (sym (placed_heard units c.args.unit.now w.heard) ∙ sym c.is_placed.ensures ∙ c.if-is_placed.false) units
