use Rattle.std.proofs.Common.{◌≡◌, get_or, pos, ◌∙◌}
use Rattle.std.proofs.lemmas.List.{get_or_default}
use Rattle.std.proofs.lemmas.Result.{IfOk-weaker}
use Rattle.geom_rect.specs.declared.direction.Axis.TheVariants.{X}
use Rattle.geom_rect.specs.declared.drawn.Shape.TheVariants.{Ring}
use Rattle.grid_pieces.specs.declared.piece.Piece.{Piece}
use Rattle.grid_taps.specs.Naming.{At}
use Rattle.grid_taps.specs.inside.Steps.{ArePieceEntries}
use Rattle.grid_taps.proofs.PadLemmas.{entries_more, entries_all}
use Rattle.grid_taps.proofs.on_piece.index_of.Goals as goal

nothing : Piece
nothing = record { net = 0; layer = 0; axis = X; centre = pos 0; width = pos 0; from = pos 0; to = pos 0; shape = Ring }

pub loop-number-preserved : goal.loop-number-preserved
unfolding nothing
loop-number-preserved c =
    let pieces = c.args.pieces.now in
    let i = c.loop-number.number in
    let p : Piece = get_or pieces i nothing in
    let at : At pieces i p = (c.loop-number-test.true, get_or_default pieces i p nothing c.loop-number-test.true) in
    rw c.in_ok-push.ensures.items (rw c.piece_entry.ensures (entries_more pieces c.loop-number.entries.items i p at c.loop-number.invariant))

pub returns : goal.returns
returns c =
    IfOk-weaker c.new.result (λ index. index ≡ c.deref.result.now) (λ index. ArePieceEntries c.args.pieces.now index)
    (λ index is. entries_all c.args.pieces.now c.loop-number.entries.items index c.loop-number.number c.loop-number-test.false (is ∙ c.deref.ensures.value) c.loop-number.invariant)
    c.new.ensures
