use Rattle.std.proofs.Common.{All}
use Rattle.grid_pieces.specs.Limits.{PieceKeeps}
use Rattle.drawing_tests.proofs.kept.keeping.Given as goal

abbrev pub invariant-loop-piece : goal.invariant-loop-piece
invariant-loop-piece l = All PieceKeeps l.kept.items
