-- One more reach, and all of them.
use Rattle.std.proofs.Common.{◌+◌, subst, sym, SFits, w64, rules, arith}
use Rattle.std.proofs.lemmas.Int.{to_z-of_z}
use Rattle.wire_pieces.specs.inside.Centre.{AreReachesTo}
use Rattle.wire_pieces.proofs.Reach.{reaches_more, reaches_all}
use Rattle.wire_pieces.proofs.centre.reaches.Goals as goal

pub loop-at-preserved : goal.loop-at-preserved
loop-at-preserved c =
    let fits : SFits w64 c.reach_at-reach.result = search rules in
    subst (λ reaches. AreReachesTo c.args.pieces.now reaches (c.loop-at.at + 1)) (sym c.in_ok-push.ensures.items)
    (simp to_z-of_z (reaches_more c.args.pieces.now c.loop-at.reaches.items c.loop-at.at c.reach_at-reach.result c.loop-at.invariant c.reach_at-reach.ensures))

pub returns : goal.returns
returns c = reaches_all c.args.pieces.now c.loop-at.reaches.items c.loop-at.at c.loop-at.invariant (omega arith)
