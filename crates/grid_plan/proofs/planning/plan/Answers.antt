use Rattle.grid_plan.specs.Planning.{IsPlanRefused}
use Rattle.grid_plan.proofs.Kept.{kept}
use Rattle.grid_plan.proofs.planning.plan.Goals as goal

pub returns-clause-keeps : goal.returns-clause-keeps
returns-clause-keeps c = kept c.args.tech.now c.args.cells.now c.args.design.now c.args.script.now (IsPlanRefused c.args.tech.now c.args.cells.now c.args.design.now c.args.script.now)
    c.found.result c.requires.tech c.requires.cells c.requires.design c.requires.script c.found.ensures
