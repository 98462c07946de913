use Rattle.std.proofs.Common.{arith}
use Rattle.bound_make.specs.inside.Half.{seen}
use Rattle.bound_make.proofs.Seeing.{seen_network}
use Rattle.bound_make.proofs.Moves.{raising_then}
use Rattle.bound_make.proofs.phase.raise_listed.Goals as goal

pub loop-node-preserved-then-raise : goal.loop-node-preserved-then-raise
loop-node-preserved-then-raise c =
    let ours = seen c.args.half c.args.net.now in
    let wf = seen_network c.args.half c.args.net.now c.requires.built.is_network in
    let inv = c.loop-node.invariant in
    let moved = c.raise.ensures.rose c.if-raise.true in
    record {
      kept = raising_then ours wf c.args.x.now c.loop-node.x c.raise.new.x inv.kept c.raise.ensures.kept;
      room = omega (arith, moved, inv.room);
    }
