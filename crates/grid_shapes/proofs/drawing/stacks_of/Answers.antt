use Rattle.std.proofs.Common.{List, All, subst, sym}
use Rattle.grid_stacks.specs.declared.connect.Connect.{Connect}
use Rattle.grid_stacks.specs.Stacking.{ConnectKeeps}
use Rattle.grid_shapes.specs.Laws.PiecesKeep.{all_layers, all_even, all_along, all_stacks}
use Rattle.grid_shapes.proofs.drawing.stacks_of.Goals as goal

pub stacks-requires-clause-units : goal.stacks-requires-clause-units
stacks-requires-clause-units c = c.requires.plan.units

pub stacks-requires-clause-connects : goal.stacks-requires-clause-connects
stacks-requires-clause-connects c =
    subst (λ (cs : List Connect). All (ConnectKeeps c.args.tech.now) cs) (sym c.as_slice-connects.ensures) c.requires.plan.connects

pub stacks-requires-clause-layers : goal.stacks-requires-clause-layers
stacks-requires-clause-layers c = all_layers c.args.tech.now c.args.plan.now c.args.pieces.now c.requires.facts

pub stacks-requires-clause-even : goal.stacks-requires-clause-even
stacks-requires-clause-even c = all_even c.args.tech.now c.args.plan.now c.args.pieces.now c.requires.facts

pub stacks-requires-clause-along : goal.stacks-requires-clause-along
stacks-requires-clause-along c = all_along c.args.tech.now c.args.plan.now c.as_slice-connects.result.now c.args.pieces.now c.requires.facts

pub returns-clause-facts : goal.returns-clause-facts
returns-clause-facts c =
    let tech = c.args.tech.now in
    let plan = c.args.plan.now in
    let pieces = c.args.pieces.now in
    all_stacks tech plan pieces c.as_slice-connects.result.now c.as_slice-blocks.result.now plan.units c.in_ok-stacks.stacks.items c.requires.facts
    (subst (λ (cs : List Connect). All (ConnectKeeps tech) cs) (sym c.as_slice-connects.ensures) c.requires.plan.connects) c.in_ok-stacks.ensures
