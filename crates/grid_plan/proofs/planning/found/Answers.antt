use Rattle.std.proofs.lemmas.Result.{MatchResult-weaker}
use Rattle.grid_plan.specs.inside.Tables.{names_in}
use Rattle.grid_plan.proofs.Refusals.{is_plan, is_refused}
use Rattle.grid_plan.proofs.planning.found.Goals as goal

pub returns : goal.returns
returns c =
    MatchResult-weaker c.plan_of.result c.plan_of.ensures
    (λ plan so. is_plan c.args.tech.now c.args.cells.now (names_in c.in_ok-tables.tables) c.args.design.now c.args.script.now plan c.in_ok-tables.ensures so)
    (λ error so. is_refused c.args.tech.now c.args.cells.now (names_in c.in_ok-tables.tables) c.args.design.now c.args.script.now error c.in_ok-tables.ensures so)
