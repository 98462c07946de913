-- One more shape.
use Rattle.std.proofs.Common.{ℕ, ◌+◌, ◌<◌, List, [], ◌∷◌, ◌++◌, take, length, get_or, sym, ap, ◌∙◌, append_assoc, refl, subst}
use Rattle.std.proofs.lemmas.List.{append-nil, take_more}
use Rattle.geom_rect.specs.declared.drawn.Drawn.{Drawn}
use Rattle.grid_cores.specs.Line.{AreLineShapes, AddsLine}
use Rattle.placed_blocks.specs.declared.block.PlacedBlock.{PlacedBlock}
use Rattle.halo_cuts.specs.declared.shape.GridShape.{GridShape}
use Rattle.halo_cuts.specs.Cut.{halos_over, AreCut}

cut_push : (blocks : List PlacedBlock) (shapes : List GridShape) (shape : GridShape) (left first : List Drawn) → AreCut blocks shapes left
    → AreLineShapes (halos_over blocks shape) shape.shape first → AreCut blocks (shapes ++ shape ∷ []) (left ++ first)
cut_push blocks [] shape left first are is = (first, [], is, refl, ap (λ (xs : List Drawn). xs ++ first) are ∙ sym (append-nil first))
cut_push blocks (other ∷ shapes) shape left first (begin, rest, is_other, are, joined) is =
    (begin, rest ++ first, is_other, cut_push blocks shapes shape rest first are is, ap (λ (xs : List Drawn). xs ++ first) joined ∙ append_assoc begin rest first)

pub cut_more : (blocks : List PlacedBlock) (shapes : List GridShape) (i : ℕ) (d : GridShape) (before after : List Drawn) → i < length shapes
    → AreCut blocks (take i shapes) before → AddsLine (halos_over blocks (get_or shapes i d)) (get_or shapes i d).shape before after
    → AreCut blocks (take (i + 1) shapes) after
cut_more blocks shapes i d before after within are (first, is, more) =
    subst (λ (xs : List Drawn). AreCut blocks (take (i + 1) shapes) xs) (sym more)
    (subst (λ (ss : List GridShape). AreCut blocks ss (before ++ first)) (sym (take_more shapes i d within))
    (cut_push blocks (take i shapes) (get_or shapes i d) before first are is))
