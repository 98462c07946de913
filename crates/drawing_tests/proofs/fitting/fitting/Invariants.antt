-- The pieces so far fit, and none has its centre after the last.
use Rattle.std.proofs.Common.{◌≤ℤ◌, All}
use Rattle.grid_pieces.specs.declared.piece.Piece.{Piece}
use Rattle.drawing_tests.specs.inside.Stacks.{AreFitting}
use Rattle.drawing_tests.proofs.fitting.fitting.Given as goal

abbrev pub invariant-loop-piece : goal.invariant-loop-piece
invariant-loop-piece l = record {
  fitting : AreFitting l.tech l.kept.items;
  before : All (λ (p : Piece). p.centre ≤ℤ l.last) l.kept.items;
}
