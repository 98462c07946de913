use Rattle.std.proofs.Common.{map, true, sym, ◌∙◌}
use Rattle.def_design.specs.inside.Held.{HoldsRegions}
use Rattle.def_design.specs.Unit.{is_region, is_more}
use Rattle.def_design.proofs.Heard.{begins_heard}
use Rattle.def_design.proofs.Taking.{region_kept, when_one, when_both}
use Rattle.def_statements.specs.declared.sort.Sort.TheVariants.{Minus, Open}
use Rattle.reading.specs.Word.{heard_token}
use Rattle.def_design.proofs.regions.Regions.take.Goals as goal

pub returns-then-begins : goal.returns-then-begins
returns-then-begins c =
    when_one (is_region (map heard_token c.args.unit.now)) true HoldsRegions c.args.unit.now c.args.self.now c.add.new.self c.add.result
    (λ units w. sym (begins_heard units c.args.unit.now w.heard Minus 10) ∙ sym c.begins.ensures ∙ c.if-begins.true) c.add.ensures

pub returns-then-begins-2 : goal.returns-then-begins-2
returns-then-begins-2 c =
    when_both (is_region (map heard_token c.args.unit.now)) (is_more (map heard_token c.args.unit.now)) HoldsRegions c.args.unit.now c.args.self.now c.extend.new.self c.extend.result
    (λ units w. sym (begins_heard units c.args.unit.now w.heard Minus 10) ∙ sym c.begins.ensures ∙ c.if-begins.false)
    (λ units w. sym (begins_heard units c.args.unit.now w.heard Open 8) ∙ sym c.begins-2.ensures ∙ c.if-begins-2.true) c.extend.ensures

pub returns : goal.returns
returns c = λ units w.
    region_kept (map heard_token c.args.unit.now) c.args.self.now (sym (begins_heard units c.args.unit.now w.heard Minus 10) ∙ sym c.begins.ensures ∙ c.if-begins.false)
    (sym (begins_heard units c.args.unit.now w.heard Open 8) ∙ sym c.begins-2.ensures ∙ c.if-begins-2.false) units
