use Rattle.std.proofs.Common.{◌≡◌, All}
use Rattle.geom_rect.specs.declared.drawn.Drawn.{Drawn}
use Rattle.grid_pieces.specs.Limits.{DrawnKeeps}
use Rattle.drawing_tests.proofs.grid_pieces_tests.drawn_keeping.Given as goal

abbrev pub invariant-loop-shape : goal.invariant-loop-shape
invariant-loop-shape l = All DrawnKeeps l.kept.items × All (λ (s : Drawn). s.axis ≡ l.axis) l.kept.items
