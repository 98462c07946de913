use Rattle.std.proofs.Common.{take, length}
use Rattle.wire_limits.specs.inside.Used.{AreUses}
use Rattle.wire_limits.proofs.used.mark.Given as goal

abbrev pub invariant-loop-spot : goal.invariant-loop-spot
invariant-loop-spot l = AreUses (length l.initial.used) (take l.spot-index l.spots) l.used
