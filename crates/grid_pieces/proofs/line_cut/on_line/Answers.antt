use Rattle.std.proofs.Common.{◌≡◌, ◌<◌, pos, ◌∷◌, [], ◌++◌, length, get_or, take, subst, sym, ap, ◌∙◌}
use Rattle.std.proofs.lemmas.List.{take_more, map_push}
use Rattle.std.proofs.lemmas.List.Elements.{All-push}
use Rattle.geom_rect.specs.declared.run.Run.{Run}
use Rattle.grid_pieces.specs.declared.piece.Piece.{Piece}
use Rattle.grid_pieces.specs.Line.{piece_line, piece_run}
use Rattle.grid_pieces.specs.inside.Cutting.{IsKindOf}
use Rattle.grid_pieces.proofs.line_cut.on_line.Goals as goal

nothing : Run
nothing = record { from = pos 0; to = pos 0 }

pub loop-run-preserved : goal.loop-run-preserved
unfolding nothing
loop-run-preserved c =
    let whole = c.args.whole.now in
    let i = c.loop-run.run-index in
    let within : i < length whole = c.loop-run-test.true in
    let piece = c.piece_on.result in
    let old = c.loop-run.pieces.items in
    let before = c.loop-run.invariant in
    let is_run : piece_run piece ≡ get_or whole i nothing = c.piece_on.ensures.run in
    let kind : IsKindOf c.args.rings.now c.args.stripes.now (piece_run piece) piece.shape =
    subst (λ s. IsKindOf c.args.rings.now c.args.stripes.now (piece_run piece) s) (sym c.piece_on.ensures.shape)
    (subst (λ (r : Run). IsKindOf c.args.rings.now c.args.stripes.now r c.kind_of.result) (sym is_run) c.kind_of.ensures) in
    rw c.in_ok-push.ensures.items
    (record {
      lines = All-push (λ (p : Piece). piece_line p ≡ c.args.line) old piece before.lines c.piece_on.ensures.line;
      runs = map_push piece_run old piece ∙ ap (λ rs. rs ++ piece_run piece ∷ []) before.runs ∙ ap (λ r. take i whole ++ r ∷ []) is_run ∙ sym (take_more whole i nothing within);
      kinds = All-push (λ (p : Piece). IsKindOf c.args.rings.now c.args.stripes.now (piece_run p) p.shape) old piece before.kinds kind;
    })
