-- What is left of shapes are parts of them.
use Rattle.std.proofs.Common.{◌≡◌, ℕ, zero, suc, ◌<◌, ℤ, pos, ◌-ℤ◌, List, [], ◌∷◌, All, length, get_or, sym, refl, subst, arith}
use Rattle.std.proofs.lemmas.Int.{ints}
use Rattle.std.proofs.lemmas.List.Elements.{All-nil, All-append, All-map, Contains-append_left, Contains-append_right}
use Rattle.geom_rect.specs.declared.drawn.Drawn.{Drawn}
use Rattle.geom_rect.specs.declared.rect.Rect.{Rect}
use Rattle.geom_rect.specs.declared.run.Run.{Run}
use Rattle.geom_rect.specs.Drawn.{drawn_run}
use Rattle.geom_rect.specs.Run.{HasCell, IsHeld, IsOpen, IsMaximal}
use Rattle.grid_cores.specs.Line.{regions_over, over_run, AreLineShapes}
use Rattle.placed_blocks.specs.declared.block.PlacedBlock.{PlacedBlock}
use Rattle.halo_cuts.specs.declared.shape.GridShape.{GridShape}
use Rattle.halo_cuts.specs.Cut.{halos_over, AreCut, IsPart, IsPartOfOne}

held_one : (line : Drawn) (t : ℤ) → IsHeld (drawn_run line ∷ []) t → HasCell (drawn_run line) t
held_one line t (run, (k, within, is), has) = by_place k within is
  where
    by_place : (k : ℕ) → k < length (drawn_run line ∷ []) → get_or (drawn_run line ∷ []) k run ≡ run → HasCell (drawn_run line) t
    by_place zero within is = subst (λ (r : Run). HasCell r t) (sym is) has
    by_place (suc k) within is = absurd (omega arith)

part_of : (regions : List Rect) (line : Drawn) (run : Run) → IsMaximal (IsOpen (drawn_run line ∷ []) (regions_over regions line)) run
    → IsPart line (over_run line run)
part_of regions line run is =
    let some = is.some in
    let first = held_one line run.from (is.each run.from (omega (arith, ints), omega (arith, ints))).0 in
    let last = held_one line (run.to -ℤ pos 1) (is.each (run.to -ℤ pos 1) (omega (arith, ints), omega (arith, ints))).0 in
    record { run = run; is = refl; from = omega (arith, ints); some = some; to = omega (arith, ints) }

line_parts : (regions : List Rect) (line : Drawn) (shapes : List Drawn) → AreLineShapes regions line shapes → All (IsPart line) shapes
line_parts regions line shapes are = subst (λ (xs : List Drawn). All (IsPart line) xs) (sym are.are)
    (All-map (IsPart line) (over_run line) are.runs (λ k d within. part_of regions line (get_or are.runs k d) (are.maximal.maximal k d within)))

-- A part of one of some shapes is one of more shapes.
of_first : (shape : GridShape) (shapes : List GridShape) (left : List Drawn) → All (IsPart shape.shape) left → All (IsPartOfOne (shape ∷ shapes)) left
of_first shape shapes left all k d within = (shape, Contains-append_left (shape ∷ []) shapes shape (0, omega arith, refl), all k d within)

of_rest : (shape : GridShape) (shapes : List GridShape) (left : List Drawn) → All (IsPartOfOne shapes) left → All (IsPartOfOne (shape ∷ shapes)) left
of_rest shape shapes left all k d within =
    let of = all k d within in (of.0, Contains-append_right (shape ∷ []) shapes of.0 of.1, of.2)

pub parts : (blocks : List PlacedBlock) (shapes : List GridShape) (left : List Drawn) → AreCut blocks shapes left → All (IsPartOfOne shapes) left
parts blocks [] left are = subst (λ (xs : List Drawn). All (IsPartOfOne []) xs) (sym are) (All-nil (IsPartOfOne []))
parts blocks (shape ∷ shapes) left (first, rest, is, are, joined) =
    subst (λ (xs : List Drawn). All (IsPartOfOne (shape ∷ shapes)) xs) (sym joined)
    (All-append (IsPartOfOne (shape ∷ shapes)) first rest
    (of_first shape shapes first (line_parts (halos_over blocks shape) shape.shape first is))
    (of_rest shape shapes rest (parts blocks shapes rest are)))
