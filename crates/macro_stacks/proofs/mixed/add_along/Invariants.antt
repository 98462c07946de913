use Rattle.std.proofs.Common.{◌≡◌, ◌++◌, filter, take}
use Rattle.macro_stacks.specs.inside.Mixed.{goes}
use Rattle.macro_stacks.proofs.mixed.add_along.Given as goal

abbrev pub invariant-loop-piece : goal.invariant-loop-piece
invariant-loop-piece l = l.pieces.items ≡ l.initial.pieces.items ++ filter (goes l.axis) (take l.piece-index l.from)
