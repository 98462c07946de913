-- More lines than a command may have.
use Rattle.std.proofs.Common.{◌≡◌, ℕ, ◌+◌, ◌-◌, ◌<◌, ◌≤◌, List, [], ◌∷◌, ◌++◌, take, drop, length, get_or, subst, sym, ap, ◌∙◌, append_assoc, arith}
use Rattle.std.specs.List.{flat_map}
use Rattle.std.proofs.lemmas.List.{length-append, length-map, take-append-drop, take_more}
use Rattle.std.proofs.lemmas.List.Elements.{All-nil}
use Rattle.entry_list.specs.InTurn.{InTurn}
use Rattle.geom_rect.specs.declared.rect.Rect.{Rect}
use Rattle.strap_layout.specs.declared.rule.StrapRule.{StrapRule}
use Rattle.strap_layout.specs.Lines.{LineAt, IsDrawnLine, DrawsMore}
use Rattle.grid_plan.specs.declared.record.Straps.{Straps}
use Rattle.halo_cuts.specs.declared.shape.GridShape.{GridShape}
use Rattle.block_stripes.specs.Straps.{DrawOver, AreJoined, AreDrawnLines, DrawsMoreOver}

no_lines : (rule : StrapRule) (core : Rect) → AreDrawnLines rule core []
no_lines rule core = record { each = All-nil (IsDrawnLine rule core); in_order = λ i j d less within. absurd (omega arith) }

nothing_over : (rule : StrapRule) (rest : List Rect) → (lines : List (List LineAt)) × InTurn (AreDrawnLines rule) rest lines
nothing_over rule [] = ([], tt)
nothing_over rule (core ∷ rest) =
    let more = nothing_over rule rest in
    ([] ∷ more.0, (no_lines rule core, more.1))

over_length : (straps : Straps) (core : Rect) (shapes : List GridShape) → (is : DrawOver straps core shapes) → length shapes ≡ length is.drawn.lines
over_length straps core shapes is =
    ap length is.are ∙ length-map is.lines _ ∙ ap length is.drawn.drawn ∙ length-map is.drawn.lines _

-- The lines over the boxes that are drawn, and more over the next one.
pub many_more : (straps : Straps) (most : ℕ) (done : List Rect) (core : Rect) (rest : List Rect) (shapes : List GridShape) → AreJoined (DrawOver straps) done shapes
    → length shapes ≤ most → DrawsMore (most - length shapes) straps.rule core → DrawsMoreOver most straps.rule (done ++ core ∷ rest)
many_more straps most [] core rest shapes are few draws =
    let none : length shapes ≡ 0 = ap length are in
    let more = nothing_over straps.rule rest in
    let beyond = draws.more in
    let count = length-append draws.lines (flat_map (λ (over_one : List LineAt). over_one) more.0) in
    record {
      lines = draws.lines ∷ more.0;
      over_each = (record { each = draws.each; in_order = draws.in_order }, more.1);
      more = omega arith;
    }
many_more straps most (one ∷ done) core rest shapes (first, others, is, are, joined) few draws =
    let count : length shapes ≡ length first + length others = ap length joined ∙ length-append first others in
    let left : most - length shapes ≡ most - length first - length others = omega arith in
    let r = many_more straps (most - length first) done core rest others are (omega arith) (subst (λ (n : ℕ). DrawsMore n straps.rule core) left draws) in
    let beyond = r.more in
    let long = over_length straps one first is in
    let both = length-append is.drawn.lines (flat_map (λ (over_one : List LineAt). over_one) r.lines) in
    record {
      lines = is.drawn.lines ∷ r.lines;
      over_each = (record { each = is.drawn.each; in_order = is.drawn.in_order }, r.over_each);
      more = omega arith;
    }

-- A list around one of its entries.
around : {X : Type 0} (xs : List X) (i : ℕ) (d : X) → i < length xs → xs ≡ take i xs ++ get_or xs i d ∷ drop (i + 1) xs
around xs i d within =
    sym (take-append-drop (i + 1) xs) ∙ ap (λ ys. ys ++ drop (i + 1) xs) (take_more xs i d within)
    ∙ append_assoc (take i xs) (get_or xs i d ∷ []) (drop (i + 1) xs)

pub many_at : (straps : Straps) (most : ℕ) (cores : List Rect) (i : ℕ) (d : Rect) (shapes : List GridShape) → i < length cores
    → AreJoined (DrawOver straps) (take i cores) shapes → length shapes ≤ most → DrawsMore (most - length shapes) straps.rule (get_or cores i d)
    → DrawsMoreOver most straps.rule cores
many_at straps most cores i d shapes within are few draws =
    subst (DrawsMoreOver most straps.rule) (sym (around cores i d within))
    (many_more straps most (take i cores) (get_or cores i d) (drop (i + 1) cores) shapes are few draws)
