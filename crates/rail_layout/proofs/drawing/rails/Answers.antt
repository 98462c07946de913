use Rattle.std.proofs.Common.{◌≡◌, pos, false, List, [], ◌∷◌, ◌++◌, take, get_or, sym, ap, ◌∙◌, rules, SFits, w64}
use Rattle.std.proofs.lemmas.Int.{to_z-of_z}
use Rattle.geom_rect.specs.declared.drawn.Drawn.{Drawn}
use Rattle.rail_layout.specs.declared.row.RowBox.{RowBox}
use Rattle.rail_layout.specs.Rails.{lower_edge, upper_edge, rail_at, rails_of}
use Rattle.rail_layout.proofs.Rows.{rails_of-next}
use Rattle.rail_layout.proofs.drawing.rails.Goals as goal

-- what a read past a list gives
abbrev nothing : RowBox
nothing = record { rect = record { x1 = pos 0; y1 = pos 0; x2 = pos 0; y2 = pos 0 }; flipped = false }

pub loop-row-preserved : goal.loop-row-preserved
loop-row-preserved c =
    let rows = c.args.rows.now in
    let row = get_or rows c.loop-row.row-index nothing in
    let low_fits : SFits w64 row.rect.y1 = search rules in
    let high_fits : SFits w64 row.rect.y2 = search rules in
    let lower : c.rail.result ≡ rail_at c.args.rule.now row (lower_edge row) = simp to_z-of_z at c.rail.ensures in
    let upper : c.rail-in-loop-row.result ≡ rail_at c.args.rule.now row (upper_edge row) = simp to_z-of_z at c.rail-in-loop-row.ensures in
    c.in_ok-push-2.ensures.items ∙ ap (λ (rails : List Drawn). rails ++ c.rail-in-loop-row.result ∷ []) c.in_ok-push.ensures.items
    ∙ ap (λ (rails : List Drawn). rails ++ c.rail.result ∷ [] ++ c.rail-in-loop-row.result ∷ []) c.loop-row.invariant
    ∙ ap (λ (rail : Drawn). rails_of c.args.rule.now (take c.loop-row.row-index rows) ++ rail ∷ [] ++ c.rail-in-loop-row.result ∷ []) lower
    ∙ ap (λ (rail : Drawn). rails_of c.args.rule.now (take c.loop-row.row-index rows) ++ rail_at c.args.rule.now row (lower_edge row) ∷ [] ++ rail ∷ []) upper
    ∙ sym (rails_of-next c.args.rule.now rows c.loop-row.row-index nothing c.loop-row-test.true)
