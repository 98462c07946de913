use Rattle.bound_make.specs.inside.Half.{seen}
use Rattle.bound_make.proofs.Seeing.{seen_network}
use Rattle.bound_make.proofs.Moves.{raising_then}
use Rattle.bound_make.proofs.phase.raise_until_full.Goals as goal

pub loop-half-preserved : goal.loop-half-preserved
loop-half-preserved c =
    let ours = seen c.args.half c.args.net.now in
    let wf = seen_network c.args.half c.args.net.now c.requires.built.is_network in
    let first = c.loop-half.x in
    let swept = c.raise_all.new.x in
    let drained = c.raise_listed.new.x in
    record {
      kept = raising_then ours wf c.args.x.now swept drained (raising_then ours wf c.args.x.now first swept c.loop-half.invariant.kept c.raise_all.ensures.kept) c.raise_listed.ensures.kept;
    }
