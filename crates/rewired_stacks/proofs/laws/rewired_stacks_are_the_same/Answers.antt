use Rattle.std.proofs.Common.{◌≡◌, map, ap, ◌∙◌}
use Rattle.std.proofs.lemmas.Simd.{map-map}
use Rattle.wire_stacks.specs.Stacks.{Stacked}
use Rattle.alike_grids.specs.Alike.{joint_of}
use Rattle.rewired_stacks.proofs.Again.{same_joints}
use Rattle.rewired_stacks.proofs.Levels.{placed_by_stack}
use Rattle.rewired_stacks.proofs.laws.rewired_stacks_are_the_same.Goals as goal

pub returns : goal.returns
returns s tech pieces stacks again vias spots apart rewired are =
    let placed = are.are_stacked.placed in
    let (chains, all, zip) = placed_by_stack vias pieces stacks spots placed rewired are.are_stacked.are_placed in
    ap (map joint_of) are.are ∙ map-map joint_of (λ (s : Stacked). s.at) are.stacked
    ∙ same_joints s.nothing_within_a_stack.ensures.piece s.nothing_within_a_stack.ensures.stack s.one_resistance.ensures s.chains_are_the_stacks.ensures tech pieces stacks apart vias placed chains all zip
    are.stacked are.are_stacked.each are.are_stacked.stacks are.are_stacked.every are.are_stacked.in_order
