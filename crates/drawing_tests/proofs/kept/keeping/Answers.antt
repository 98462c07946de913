use Rattle.std.proofs.lemmas.List.Elements.{All-push}
use Rattle.grid_pieces.specs.Limits.{PieceKeeps}
use Rattle.drawing_tests.proofs.kept.keeping.Goals as goal
use Rattle.drawing_tests.proofs.kept.keeping.Goals.{then-keeps+in_ok-push, else-keeps}

pub loop-piece-preserved : goal.loop-piece-preserved
loop-piece-preserved c =
    elim c.if-keeps.branch [
      | then-keeps+in_ok-push w ↦ rw w.kept-is (rw w.in_ok-push.ensures.items (All-push PieceKeeps c.loop-piece.kept.items _ c.loop-piece.invariant (c.keeps.ensures w.if-keeps.true)))
      | else-keeps w ↦ rw w.kept-is c.loop-piece.invariant
    ]
