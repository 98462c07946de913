use Rattle.std.proofs.Common.{take}
use Rattle.halo_cuts.specs.Cut.{AreCut}
use Rattle.halo_cuts.proofs.cutting.cut_shapes.Given as goal

abbrev pub invariant-loop-shape : goal.invariant-loop-shape
invariant-loop-shape l = AreCut l.blocks (take l.shape-index l.shapes) l.left.items
