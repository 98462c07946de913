use Rattle.std.proofs.Common.{length, pos}
use Rattle.wire_names.specs.declared.record.Spot.{Spot}
use Rattle.wire_limits.proofs.Marks.{mark_at}
use Rattle.wire_limits.proofs.used.mark.Goals as goal

pub loop-spot-preserved : goal.loop-spot-preserved
loop-spot-preserved c =
    let d : Spot = record { net = 0; via = 0; x = pos 0; y = pos 0 } in
    mark_at (length c.args.used.now) c.args.spots.now c.loop-spot.used c.loop-spot.spot-index d c.loop-spot-test.true
    (c.requires.within c.loop-spot.spot-index d c.loop-spot-test.true) c.loop-spot.invariant
