use Rattle.std.proofs.Common.{◌≡◌, ◌++◌, take}
use Rattle.block_stripes.specs.Blocks.{of_grid}
use Rattle.block_stripes.proofs.blocks.add_lines.Given as goal

abbrev pub invariant-loop-line : goal.invariant-loop-line
invariant-loop-line l = l.shapes.items ≡ l.fn.shapes.items ++ of_grid l.grid (take l.line-index l.lines)
