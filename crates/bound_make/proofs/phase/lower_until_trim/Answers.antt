use Rattle.bound_make.specs.inside.Half.{seen}
use Rattle.bound_make.proofs.Seeing.{seen_network}
use Rattle.bound_make.proofs.Moves.{lowering_then}
use Rattle.bound_make.proofs.phase.lower_until_trim.Goals as goal

pub loop-half-preserved : goal.loop-half-preserved
loop-half-preserved c =
    let ours = seen c.args.half c.args.net.now in
    let wf = seen_network c.args.half c.args.net.now c.requires.built.is_network in
    let first = c.loop-half.x in
    let swept = c.lower_all.new.x in
    let drained = c.lower_listed.new.x in
    record {
      kept = lowering_then ours wf c.args.x.now swept drained (lowering_then ours wf c.args.x.now first swept c.loop-half.invariant.kept c.lower_all.ensures.kept) c.lower_listed.ensures.kept;
    }
