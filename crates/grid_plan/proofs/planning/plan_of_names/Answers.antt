use Rattle.grid_plan.specs.inside.Tables.{names_in}
use Rattle.grid_plan.proofs.Refusals.{by_lengths}
use Rattle.grid_plan.proofs.planning.plan_of_names.Goals as goal

pub returns-in-Err : goal.returns-in-Err
returns-in-Err c = by_lengths c.args.tech.now c.args.cells.now (names_in c.args.tables.now) c.args.design.now c.args.script.now c.in-Err.error c.requires c.in-Err.ensures
