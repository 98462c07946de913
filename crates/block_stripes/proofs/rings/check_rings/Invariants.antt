use Rattle.std.proofs.Common.{take, All}
use Rattle.block_stripes.specs.Rings.{AreFew}
use Rattle.block_stripes.proofs.rings.check_rings.Given as goal

abbrev pub invariant-loop-ring : goal.invariant-loop-ring
invariant-loop-ring l = All (AreFew l.plan l.boxes) (take l.ring-index l.plan.rings)
