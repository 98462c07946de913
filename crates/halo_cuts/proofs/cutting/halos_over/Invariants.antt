use Rattle.std.proofs.Common.{◌≡◌, take}
use Rattle.halo_cuts.specs.Cut.{halos_over}
use Rattle.halo_cuts.proofs.cutting.halos_over.Given as goal

abbrev pub invariant-loop-block : goal.invariant-loop-block
invariant-loop-block l = l.halos.items ≡ halos_over (take l.block-index l.blocks) l.shape
