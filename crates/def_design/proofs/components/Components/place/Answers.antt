use Rattle.std.proofs.Common.{map, refl}
use Rattle.def_design.proofs.Taking.{component_placed, component_none, popped_none}
use Rattle.reading.specs.Word.{heard_token}
use Rattle.def_design.proofs.components.Components.place.Goals as goal

pub returns-in-None : goal.returns-in-None
returns-in-None c = λ other is units w.
    let e = popped_none c.args.self.now.items.items c.pop.new.self.items _ c.args.self.now.items.ok.0 c.in-None.ensures.cases.0 c.in-None.ensures.items in
    component_none (map heard_token c.args.unit.now) c.args.self.now (record { names = c.args.self.now.names; items = c.pop.new.self }) other refl e.0 e.1 units

pub returns-in_ok-push-in-Some : goal.returns-in_ok-push-in-Some
returns-in_ok-push-in-Some c = λ other is units w.
    component_placed (map heard_token c.args.unit.now) c.args.self.now (record { names = c.args.self.now.names; items = c.push.new.self }) c.pop.new.self.items
    c.in-Some.last c.placed.result other refl c.in-Some.ensures.items c.in_ok-push-in-Some.ensures.items
    c.placed.ensures.name c.placed.ensures.cell (c.placed.ensures.place units w is) units
