use Rattle.std.proofs.Common.{MatchResult, sym, subst}
use Rattle.def_design.specs.declared.record.Design.{Design}
use Rattle.def_design.specs.Limits.{DesignKeeps}
use Rattle.grid_plan.specs.Planning.{IsPlanOf, IsPlanRefused}
use Rattle.macro_grid.proofs.BareKeeps.{bare_keeps}
use Rattle.macro_grid.proofs.laying.bare_plan.Goals as goal

pub plan-requires-clause-design : goal.plan-requires-clause-design
plan-requires-clause-design c = subst DesignKeeps (sym c.in_ok-bare.ensures) (bare_keeps c.args.design.now c.requires.design)

pub returns-clause-plan : goal.returns-clause-plan
returns-clause-plan c =
    let tech = c.args.tech.now in
    let cells = c.args.cells.now in
    let script = c.args.script.now in
    subst (λ (d : Design). MatchResult c.plan.result (IsPlanOf tech cells d script) (IsPlanRefused tech cells d script)) c.in_ok-bare.ensures c.plan.ensures.plan
