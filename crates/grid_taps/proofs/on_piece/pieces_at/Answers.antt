use Rattle.std.proofs.Common.{◌≡◌, ◌∙◌, ap, map, filter, pos}
use Rattle.std.proofs.lemmas.Result.{IfOk-weaker}
use Rattle.geom_rect.specs.declared.direction.Axis.TheVariants.{X}
use Rattle.geom_rect.specs.declared.drawn.Shape.TheVariants.{Ring}
use Rattle.geom_rect.specs.declared.rect.Rect.{Rect}
use Rattle.grid_pieces.specs.declared.piece.Piece.{Piece}
use Rattle.rect_index.specs.Entry.{is_at, item_of}
use Rattle.grid_taps.specs.inside.Index.{window_of}
use Rattle.grid_taps.specs.inside.Standing.{ArePiecesAt}
use Rattle.grid_taps.proofs.Pieces.{pieces_found}
use Rattle.grid_taps.proofs.on_piece.pieces_at.Goals as goal

nothing : Piece
nothing = record { net = 0; layer = 0; axis = X; centre = pos 0; width = pos 0; from = pos 0; to = pos 0; shape = Ring }

pub returns : goal.returns
returns c =
    let window = ap (λ (r : Rect). map item_of (filter (is_at c.args.net r) c.args.index.now)) (c.window_of.ensures ∙ ap window_of c.point.ensures) in
    IfOk-weaker c.found.result (λ f. f.items ≡ map item_of (filter (is_at c.args.net c.window_of.result) c.args.index.now)) (λ f. ArePiecesAt c.args.grid.now.pieces c.args.net c.args.spot f.items)
    (λ f is. pieces_found c.args.grid.now.pieces c.args.index.now c.args.net c.args.spot f.items nothing c.requires (is ∙ window))
    c.found.ensures
