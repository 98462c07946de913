use Rattle.grid_plan.specs.inside.Tables.{names_in}
use Rattle.grid_plan.proofs.Refusals.{by_none, by_regions}
use Rattle.grid_plan.proofs.planning.plan_of_lengths.Goals as goal

pub returns-in-Ok : goal.returns-in-Ok
returns-in-Ok c = by_none c.args.tech.now c.args.cells.now (names_in c.args.tables.now) c.args.design.now c.args.script.now c.in-Ok.plan c.requires.names c.requires.lengths c.in-Ok.ensures

pub returns-in-Err : goal.returns-in-Err
returns-in-Err c = by_regions c.args.tech.now c.args.cells.now (names_in c.args.tables.now) c.args.design.now c.args.script.now c.in-Err.error c.requires.names c.requires.lengths c.in-Err.ensures
