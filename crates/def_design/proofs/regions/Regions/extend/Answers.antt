use Rattle.std.proofs.Common.{map, refl}
use Rattle.def_design.proofs.Taking.{region_extended, region_none, popped_none}
use Rattle.def_design.proofs.Whole.{more_said, more_area}
use Rattle.reading.specs.Word.{heard_token}
use Rattle.def_design.proofs.regions.Regions.extend.Goals as goal

pub returns-in-None : goal.returns-in-None
returns-in-None c = λ other is units w.
    let e = popped_none c.args.self.now.items.items c.pop.new.self.items _ c.args.self.now.items.ok.0 c.in-None.ensures.cases.0 c.in-None.ensures.items in
    region_none (map heard_token c.args.unit.now) c.args.self.now (record { names = c.args.self.now.names; items = c.pop.new.self }) other refl e.0 e.1 units

pub returns-in_ok-push-in-Some : goal.returns-in_ok-push-in-Some
returns-in_ok-push-in-Some c = λ other is units w.
    region_extended (map heard_token c.args.unit.now) c.args.self.now (record { names = c.args.self.now.names; items = c.push.new.self }) c.pop.new.self.items
    c.in-Some.last c.in_ok-with_rect-in-Some.field-0 c.rect_of.result other is refl c.in-Some.ensures.items c.in_ok-push-in-Some.ensures.items
    c.in_ok-with_rect-in-Some.ensures.name c.in_ok-with_rect-in-Some.ensures.rects
    (more_area units c.args.unit.now c.rect_of.result w is (c.rect_of.ensures (more_said units c.args.unit.now w is))) units
