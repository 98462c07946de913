use Rattle.std.proofs.Common.{take}
use Rattle.block_stripes.specs.Straps.{AreStrapsOver}
use Rattle.block_stripes.proofs.straps.straps_over.Given as goal

abbrev pub invariant-loop-core : goal.invariant-loop-core
invariant-loop-core l = AreStrapsOver l.straps (take l.core-index l.cores) l.shapes.items
