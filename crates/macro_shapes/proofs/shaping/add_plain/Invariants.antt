use Rattle.std.proofs.Common.{◌≡◌, ◌++◌, take}
use Rattle.block_stripes.specs.Blocks.{of_grid}
use Rattle.macro_shapes.specs.Shapes.{no_grid}
use Rattle.macro_shapes.proofs.shaping.add_plain.Given as goal

abbrev pub invariant-loop-shape : goal.invariant-loop-shape
invariant-loop-shape l = l.whole.items ≡ l.fn.whole.items ++ of_grid no_grid (take l.shape-index l.plain)
