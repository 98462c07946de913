use Rattle.std.proofs.Common.{take}
use Rattle.wire_stacks.specs.inside.Halves.{IsHalfTo, ReachesY}
use Rattle.wire_stacks.proofs.crossing.half_height.Given as goal

abbrev pub invariant-loop-via : goal.invariant-loop-via
invariant-loop-via l = IsHalfTo ReachesY l.vias (take l.via-index l.chain) l.half
