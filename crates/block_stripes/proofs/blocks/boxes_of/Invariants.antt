use Rattle.std.proofs.Common.{◌≡◌, take}
use Rattle.block_stripes.specs.Blocks.{boxes_of}
use Rattle.block_stripes.proofs.blocks.boxes_of.Given as goal

abbrev pub invariant-loop-block : goal.invariant-loop-block
invariant-loop-block l = l.own.items ≡ boxes_of (take l.block-index l.boxes) l.grid
