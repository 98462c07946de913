-- Blocks leave one list of shapes.
use Rattle.std.proofs.Common.{◌≡◌, List, [], ◌∷◌, ◌++◌, map, sym, ap, ◌∙◌}
use Rattle.geom_rect.specs.declared.drawn.Drawn.{Drawn}
use Rattle.geom_rect.specs.declared.rect.Rect.{Rect}
use Rattle.geom_rect.specs.declared.run.Run.{Run}
use Rattle.geom_rect.specs.Drawn.{drawn_run}
use Rattle.geom_rect.specs.Run.{IsOpen, AreMaximalRuns}
use Rattle.grid_cores.specs.Line.{regions_over, over_run, AreLineShapes}
use Rattle.placed_blocks.specs.declared.block.PlacedBlock.{PlacedBlock}
use Rattle.halo_cuts.specs.declared.shape.GridShape.{GridShape}
use Rattle.halo_cuts.specs.Cut.{halos_over, AreCut}

-- Two lists of covered and blocked runs have one list of maximal runs.
abbrev OneRuns : Type 0
OneRuns = (covered blocked one other : List Run) → AreMaximalRuns (IsOpen covered blocked) one → AreMaximalRuns (IsOpen covered blocked) other
    → one ≡ other

one_line : OneRuns → (regions : List Rect) (line : Drawn) (a b : List Drawn) → AreLineShapes regions line a → AreLineShapes regions line b → a ≡ b
one_line unique regions line a b x y =
    x.are ∙ ap (map (over_run line)) (unique (drawn_run line ∷ []) (regions_over regions line) x.runs y.runs x.maximal y.maximal) ∙ sym y.are

pub one_left : OneRuns → (blocks : List PlacedBlock) (shapes : List GridShape) (a b : List Drawn) → AreCut blocks shapes a → AreCut blocks shapes b → a ≡ b
one_left unique blocks [] a b x y = x ∙ sym y
one_left unique blocks (shape ∷ shapes) a b x y =
    let first = one_line unique (halos_over blocks shape) shape.shape x.0 y.0 x.2 y.2 in
    let rest = one_left unique blocks shapes x.1 y.1 x.3 y.3 in
    x.4 ∙ ap (λ (s : List Drawn). s ++ x.1) first ∙ ap (λ (s : List Drawn). y.0 ++ s) rest ∙ sym y.4
