use Rattle.std.proofs.Common.{◌≡◌, ◌+◌, ◌∷◌, drop, subst, arith}
use Rattle.lef_tech.specs.Record.{layers_of, with_layer}
use Rattle.lef_tech.proofs.Counts.{stack_counted}
use Rattle.lef_tech.proofs.Gather.{stack_step}
use Rattle.lef_tech.proofs.stack.stack_of.Goals as goal

pub loop-place-preserved : goal.loop-place-preserved
loop-place-preserved c =
    let xs = c.args.statements.now in
    let x = c.index-statements-place.result in
    c.in_ok-add.ensures (layers_of xs) (layers_of (drop (c.loop-place.place + 1) xs))
    (stack_step (layers_of xs) xs c.loop-place.place x c.in_ok-layer.layer c.loop-place.stack
    (omega (arith, c.loop-place-test.true)) c.index-statements-place.is
    (subst (λ z. layers_of (x ∷ z) ≡ with_layer c.in_ok-layer.layer (layers_of z)) c.after.ensures c.in_ok-layer.ensures) c.loop-place.invariant)

pub add-requires : goal.add-requires
add-requires c = stack_counted c.args.statements.now (layers_of (drop c.loop-place.place c.args.statements.now)) c.loop-place.stack c.loop-place.invariant c.requires
