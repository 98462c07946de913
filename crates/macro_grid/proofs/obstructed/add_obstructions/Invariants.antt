use Rattle.std.proofs.Common.{◌≡◌, ◌++◌, map, take}
use Rattle.macro_grid.specs.Drawing.{obstruction_block}
use Rattle.macro_grid.proofs.obstructed.add_obstructions.Given as goal

abbrev pub invariant-loop-obstruction : goal.invariant-loop-obstruction
invariant-loop-obstruction l = l.blocks.items ≡ l.fn.blocks.items ++ map (obstruction_block l.tech l.units) (take l.obstruction-index l.obstructions)
