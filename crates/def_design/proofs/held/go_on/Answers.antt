use Rattle.std.proofs.Common.{map, sym, ◌∙◌, ap}
use Rattle.def_statements.specs.Standing.{standing_after}
use Rattle.def_design.proofs.Standings.{no_first}
use Rattle.reading.specs.Word.{heard_token}
use Rattle.def_design.proofs.held.go_on.Goals as goal

pub returns-in-None : goal.returns-in-None
returns-in-None c =
    c.go_on.ensures ∙ ap (λ z. standing_after c.args.standing.now (map heard_token z)) (sym (no_first c.args.unit.now (sym c.in-None.ensures.value)))
