use Rattle.std.proofs.Common.{subst}
use Rattle.grid_pieces.specs.declared.piece.StackAt.{StackAt}
use Rattle.grid_network.specs.inside.Steps.{Adds, IsOnStack}
use Rattle.grid_network.proofs.Growing.{over_none, over_more, over_all}
use Rattle.grid_network.proofs.place.add_stacks.Goals as goal

pub loop-stack-init : goal.loop-stack-init
loop-stack-init c = over_none IsOnStack c.args.stacks.now c.args.keys.now.items

pub loop-stack-preserved : goal.loop-stack-preserved
loop-stack-preserved c =
    let s = c.stack-item.result in
    over_more IsOnStack c.args.stacks.now c.loop-stack.stack-index s c.args.keys.now.items c.loop-stack.keys.items _ c.loop-stack-test.true c.loop-stack.invariant
    (subst (λ (y : StackAt). Adds (IsOnStack y) c.loop-stack.keys.items c.add_layers.new.keys.items) c.stack-item.is c.in_ok-add_layers.ensures)

pub returns : goal.returns
returns c = over_all IsOnStack c.args.stacks.now c.loop-stack.stack-index c.args.keys.now.items c.loop-stack.keys.items c.loop-stack-test.false c.loop-stack.invariant
