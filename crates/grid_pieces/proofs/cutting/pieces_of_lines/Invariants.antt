use Rattle.std.proofs.Common.{◌≡◌, ◌-◌, ◌<◌, ◌≤◌, ℕ, length, get_or, take}
use Rattle.geom_rect.specs.declared.drawn.Drawn.{Drawn}
use Rattle.grid_pieces.specs.Line.{drawn_line}
use Rattle.grid_pieces.specs.inside.Cutting.{ArePiecesUpTo}
use Rattle.grid_pieces.proofs.cutting.pieces_of_lines.Given as goal

abbrev pub invariant-loop-from : goal.invariant-loop-from
invariant-loop-from l = (l.from ≤ length l.shapes) × ArePiecesUpTo l.shapes l.blocks (take l.from l.shapes) l.pieces.items
    × ((i j : ℕ) (d : Drawn) → i < l.from → l.from ≤ j → j < length l.shapes → drawn_line (get_or l.shapes i d) ≡ drawn_line (get_or l.shapes j d) → ⊥)

abbrev pub decreases-loop-from : goal.decreases-loop-from
decreases-loop-from l = length l.shapes - l.from
