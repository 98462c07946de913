use Rattle.std.proofs.Common.{map, sym, ◌∙◌}
use Rattle.def_design.specs.Record.{SaysPlace}
use Rattle.def_design.specs.Unit.{is_placed}
use Rattle.def_design.proofs.Firsts.{leads_taken, leads_there}
use Rattle.reading.specs.Word.{heard_token}
use Rattle.def_design.proofs.components.placed.Goals as goal

pub returns-then-is_some-clause-place : goal.returns-then-is_some-clause-place
returns-then-is_some-clause-place c = λ units w is. leads_there is_placed SaysPlace (map heard_token c.args.unit.now) c.args.last.place (sym c.is_some.ensures ∙ c.if-is_some.true)

pub returns-clause-place : goal.returns-clause-place
returns-clause-place c = λ units w is.
    leads_taken is_placed SaysPlace (map heard_token c.args.unit.now) c.args.last.place c.place_of.result is (sym c.is_some.ensures ∙ c.if-is_some.false) (c.place_of.ensures units w is)
