use Rattle.std.proofs.Common.{◌≡◌, take}
use Rattle.macro_grid.proofs.bare.copied_blockages.Given as goal

abbrev pub invariant-loop-blockage : goal.invariant-loop-blockage
invariant-loop-blockage l = l.copies.items ≡ take l.blockage-index l.blockages
