use Rattle.std.proofs.Common.{◌≡◌, ◌⊎◌, inl, inr, true, false}
use Rattle.bound_make.specs.inside.Half.{seen}
use Rattle.bound_make.specs.inside.Moving.{IsFull, rise_room}
use Rattle.bound_make.proofs.Seeing.{seen_network}
use Rattle.bound_make.proofs.Moves.{raising_then}
use Rattle.bound_make.proofs.Sweeps.{next_moved, next_still}
use Rattle.bound_make.proofs.phase.raise_all.Goals.{then-raise, else-raise}
use Rattle.bound_make.proofs.phase.raise_all.Goals as goal

pub loop-node-preserved : goal.loop-node-preserved
loop-node-preserved c =
    let ours = seen c.args.half c.args.net.now in
    let inv = c.loop-node.invariant in
    let is : ((c.raise.result ≡ true) × (c.if-raise.rose ≡ true)) ⊎ ((c.raise.result ≡ false) × (c.if-raise.rose ≡ c.loop-node.rose)) = elim c.if-raise.branch [ then-raise w ↦ inl (w.if-raise.true, w.rose-is) | else-raise w ↦ inr (w.if-raise.false, w.rose-is) ] in
    record {
      kept = raising_then ours (seen_network c.args.half c.args.net.now c.requires.built.is_network) c.args.x.now c.loop-node.x c.raise.new.x inv.kept c.raise.ensures.kept;
      moved = next_moved (IsFull ours) rise_room c.args.x.now c.loop-node.x c.raise.new.x c.loop-node.rose c.raise.result c.if-raise.rose c.loop-node.node inv.moved inv.still c.raise.ensures.full c.raise.ensures.rose is;
      still = next_still (IsFull ours) rise_room c.args.x.now c.loop-node.x c.raise.new.x c.loop-node.rose c.raise.result c.if-raise.rose c.loop-node.node inv.moved inv.still c.raise.ensures.full c.raise.ensures.rose is;
    }
