use Rattle.std.proofs.Common.{◌≡◌, ◌⊎◌, inl, inr, true, false}
use Rattle.bound_make.specs.inside.Half.{seen}
use Rattle.bound_make.specs.inside.Moving.{IsTrim, fall_room}
use Rattle.bound_make.proofs.Seeing.{seen_network}
use Rattle.bound_make.proofs.Moves.{lowering_then}
use Rattle.bound_make.proofs.Sweeps.{next_moved, next_still}
use Rattle.bound_make.proofs.phase.lower_all.Goals.{then-lower, else-lower}
use Rattle.bound_make.proofs.phase.lower_all.Goals as goal

pub loop-node-preserved : goal.loop-node-preserved
loop-node-preserved c =
    let ours = seen c.args.half c.args.net.now in
    let inv = c.loop-node.invariant in
    let is : ((c.lower.result ≡ true) × (c.if-lower.fell ≡ true)) ⊎ ((c.lower.result ≡ false) × (c.if-lower.fell ≡ c.loop-node.fell)) = elim c.if-lower.branch [ then-lower w ↦ inl (w.if-lower.true, w.fell-is) | else-lower w ↦ inr (w.if-lower.false, w.fell-is) ] in
    record {
      kept = lowering_then ours (seen_network c.args.half c.args.net.now c.requires.built.is_network) c.args.x.now c.loop-node.x c.lower.new.x inv.kept c.lower.ensures.kept;
      moved = next_moved (IsTrim ours) fall_room c.args.x.now c.loop-node.x c.lower.new.x c.loop-node.fell c.lower.result c.if-lower.fell c.loop-node.node inv.moved inv.still c.lower.ensures.trim c.lower.ensures.fell is;
      still = next_still (IsTrim ours) fall_room c.args.x.now c.loop-node.x c.lower.new.x c.loop-node.fell c.lower.result c.if-lower.fell c.loop-node.node inv.moved inv.still c.lower.ensures.trim c.lower.ensures.fell is;
    }
