use Rattle.std.proofs.Common.{◌≡◌, ◌<◌, ◌≤◌, ◌-◌, ℕ, length, get_or}
use Rattle.geom_rect.specs.declared.drawn.Drawn.{Drawn}
use Rattle.grid_pieces.specs.Line.{drawn_line}
use Rattle.grid_pieces.proofs.cutting.line_end.Given as goal

abbrev pub invariant-loop-to : goal.invariant-loop-to
invariant-loop-to l = (l.from < l.to) × (l.to ≤ length l.shapes)
    × ((k : ℕ) (d : Drawn) → l.from ≤ k → k < l.to → drawn_line (get_or l.shapes k d) ≡ l.line)

abbrev pub decreases-loop-to : goal.decreases-loop-to
decreases-loop-to l = length l.shapes - l.to
