-- The shapes of one line after another.
use Rattle.std.proofs.Common.{◌≡◌, ℕ, ◌+◌, ◌<◌, true, false, cond, List, [], ◌∷◌, ◌++◌, map, filter, take, length, get_or, refl, sym, ap, ◌∙◌, append_assoc, subst}
use Rattle.std.proofs.lemmas.List.{append-nil, map-append, take_more}
use Rattle.std.proofs.lemmas.List.Elements.{filter_more}
use Rattle.geom_rect.specs.declared.drawn.Drawn.{Drawn}
use Rattle.geom_rect.specs.declared.rect.Rect.{Rect}
use Rattle.grid_cores.specs.Line.{along, across, share_cell, width_of, regions_over, AreLineShapes, AreLinesShapes, AddsLine, AddsLines}

-- One more line.
shapes_push : (regions : List Rect) (lines : List Drawn) (line : Drawn) (shapes first : List Drawn) → AreLinesShapes regions lines shapes
    → AreLineShapes regions line first → AreLinesShapes regions (lines ++ line ∷ []) (shapes ++ first)
shapes_push regions [] line shapes first are is = (first, [], is, refl, ap (λ (xs : List Drawn). xs ++ first) are ∙ sym (append-nil first))
shapes_push regions (other ∷ lines) line shapes first (begin, rest, is_other, are, joined) is =
    (begin, rest ++ first, is_other, shapes_push regions lines line rest first are is, ap (λ (xs : List Drawn). xs ++ first) joined ∙ append_assoc begin rest first)

pub lines_none : (regions : List Rect) (old : List Drawn) → AddsLines regions [] old old
lines_none regions old = ([], refl, sym (append-nil old))

pub lines_more : (regions : List Rect) (lines : List Drawn) (i : ℕ) (d : Drawn) (old before after : List Drawn) → i < length lines
    → AddsLines regions (take i lines) old before → AddsLine regions (get_or lines i d) before after → AddsLines regions (take (i + 1) lines) old after
lines_more regions lines i d old before after within (added, are, joined) (first, is, more) = (
  added ++ first,
  subst (λ (ls : List Drawn). AreLinesShapes regions ls (added ++ first)) (sym (take_more lines i d within))
      (shapes_push regions (take i lines) (get_or lines i d) added first are is),
  more ∙ ap (λ (xs : List Drawn). xs ++ first) joined ∙ append_assoc old added first,
)

-- One more region, which lies over the line or not.
pub over_more : (regions : List Rect) (i : ℕ) (d : Rect) (line : Drawn) → i < length regions
    → share_cell (across line.axis (get_or regions i d)) (width_of line) ≡ true
    → regions_over (take (i + 1) regions) line ≡ regions_over (take i regions) line ++ along line.axis (get_or regions i d) ∷ []
over_more regions i d line within over =
    let p = λ (region : Rect). share_cell (across line.axis region) (width_of line) in
    ap (map (along line.axis)) (filter_more p regions i d within ∙ ap (λ b. filter p (take i regions) ++ cond b (get_or regions i d ∷ []) []) over)
    ∙ map-append (along line.axis) (filter p (take i regions)) (get_or regions i d ∷ [])

pub over_kept : (regions : List Rect) (i : ℕ) (d : Rect) (line : Drawn) → i < length regions
    → share_cell (across line.axis (get_or regions i d)) (width_of line) ≡ false
    → regions_over (take (i + 1) regions) line ≡ regions_over (take i regions) line
over_kept regions i d line within over =
    let p = λ (region : Rect). share_cell (across line.axis region) (width_of line) in
    ap (map (along line.axis)) (filter_more p regions i d within ∙ ap (λ b. filter p (take i regions) ++ cond b (get_or regions i d ∷ []) []) over ∙ append-nil (filter p (take i regions)))
