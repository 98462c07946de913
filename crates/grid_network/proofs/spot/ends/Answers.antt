use Rattle.std.proofs.Common.{◌≡◌, ◌⊎◌, List, [], subst}
use Rattle.geom_rect.specs.declared.direction.Axis.{Axis}
use Rattle.grid_pieces.specs.declared.piece.StackAt.{StackAt}
use Rattle.grid_network.specs.declared.spot.Spot.{Spot}
use Rattle.grid_network.specs.inside.Steps.{Adds, spot_of_stack}
use Rattle.grid_network.proofs.Growing.{adds_pushed, adds_both, over_more, over_all, all_from_none}
use Rattle.grid_network.proofs.spot.ends.Goals as goal

abbrev Ends : Axis → StackAt → Spot → Type 0
Ends axis s x = (x ≡ spot_of_stack axis s s.stack.from) ⊎ (x ≡ spot_of_stack axis s s.stack.to)

pub loop-stack-preserved : goal.loop-stack-preserved
loop-stack-preserved c =
    let s = c.stack-item.result in
    let axis = c.args.axis in
    let mid : List Spot = c.loop-stack.spots.items in
    let after : List Spot = c.push.new.self.items in
    let new : List Spot = c.push-in-loop-stack.new.self.items in
    let first = adds_pushed (spot_of_stack axis s s.stack.from) mid after c.spot_of.result c.in_ok-push.ensures.items c.spot_of.ensures in
    let second = adds_pushed (spot_of_stack axis s s.stack.to) after new c.spot_of-in-loop-stack.result c.in_ok-push-2.ensures.items c.spot_of-in-loop-stack.ensures in
    let both = adds_both (λ x. x ≡ spot_of_stack axis s s.stack.from) (λ x. x ≡ spot_of_stack axis s s.stack.to) mid after new first second in
    over_more (Ends axis) c.args.stacks.now c.loop-stack.stack-index s [] mid new c.loop-stack-test.true c.loop-stack.invariant
    (subst (λ (y : StackAt). Adds (Ends axis y) mid new) c.stack-item.is both)

pub returns : goal.returns
returns c = all_from_none _ c.loop-stack.spots.items (over_all (Ends c.args.axis) c.args.stacks.now c.loop-stack.stack-index [] c.loop-stack.spots.items c.loop-stack-test.false c.loop-stack.invariant)
