use Rattle.std.proofs.Common.{◌≡◌, take}
use Rattle.macro_grid.proofs.copies.copied_stacks.Given as goal

abbrev pub invariant-loop-stack : goal.invariant-loop-stack
invariant-loop-stack l = l.copies.items ≡ take l.stack-index l.stacks
