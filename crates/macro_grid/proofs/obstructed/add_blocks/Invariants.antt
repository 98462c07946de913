use Rattle.std.proofs.Common.{◌≡◌, ◌++◌, take}
use Rattle.macro_grid.specs.Drawing.{obstruction_blocks}
use Rattle.macro_grid.proofs.obstructed.add_blocks.Given as goal

abbrev pub invariant-loop-block : goal.invariant-loop-block
invariant-loop-block l = l.blocks.items ≡ l.fn.blocks.items ++ obstruction_blocks l.tech l.units (take l.block-index l.placed)
