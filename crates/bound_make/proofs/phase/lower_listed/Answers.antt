use Rattle.std.proofs.Common.{arith}
use Rattle.bound_make.specs.inside.Half.{seen}
use Rattle.bound_make.proofs.Seeing.{seen_network}
use Rattle.bound_make.proofs.Moves.{lowering_then}
use Rattle.bound_make.proofs.phase.lower_listed.Goals as goal

pub loop-node-preserved-then-lower : goal.loop-node-preserved-then-lower
loop-node-preserved-then-lower c =
    let ours = seen c.args.half c.args.net.now in
    let wf = seen_network c.args.half c.args.net.now c.requires.built.is_network in
    let inv = c.loop-node.invariant in
    let moved = c.lower.ensures.fell c.if-lower.true in
    record {
      kept = lowering_then ours wf c.args.x.now c.loop-node.x c.lower.new.x inv.kept c.lower.ensures.kept;
      room = omega (arith, moved, inv.room);
    }
