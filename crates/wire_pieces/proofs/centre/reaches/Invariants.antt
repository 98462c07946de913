use Rattle.wire_pieces.specs.inside.Centre.{AreReachesTo}
use Rattle.wire_pieces.proofs.centre.reaches.Given as goal

abbrev pub invariant-loop-at : goal.invariant-loop-at
invariant-loop-at l = AreReachesTo l.pieces l.reaches.items l.at
