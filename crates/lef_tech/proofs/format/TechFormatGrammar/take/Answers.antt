use Rattle.lef_tech.specs.declared.held.Held.{Held}
use Rattle.lef_tech.proofs.Taken.{taken}
use Rattle.reading.specs.Word.{heard_token}
use Rattle.lef_tech.proofs.format.TechFormatGrammar.take.Goals as goal

pub returns : goal.returns
returns c =
    let new : Held = record { state = c.move_on.new.state; statements = c.add_told.new.statements; alloc = c.args.said.now.alloc } in
    taken c.values_fit_their_places.ensures.sign c.move_on.result c.args.said.now new c.named-reference.new.state c.args.unit.now (heard_token c.in-Some.last.now)
    c.shape_of-shape.result c.named-reference.result c.in_ok-told.told c.in-Some.ensures.some c.shape_of-shape.ensures c.named-reference.ensures.same c.named-reference.ensures.is
    c.in_ok-told.ensures c.in_ok-add_told.ensures c.move_on.ensures
