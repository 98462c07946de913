use Rattle.std.proofs.Common.{◌≡◌, get_or, pos, ◌∙◌, subst, sym, List}
use Rattle.std.proofs.lemmas.List.{get_or_default}
use Rattle.std.proofs.lemmas.Result.{IfOk-weaker}
use Rattle.geom_rect.specs.declared.direction.Axis.TheVariants.{X}
use Rattle.geom_rect.specs.declared.drawn.Shape.TheVariants.{Ring}
use Rattle.grid_pieces.specs.declared.piece.Piece.{Piece}
use Rattle.grid_stacks.specs.Crossing.{At}
use Rattle.rect_index.specs.declared.entry.Entry.{Entry}
use Rattle.pin_pieces.specs.inside.Steps.{ListsAll, IsPieceEntry}
use Rattle.pin_pieces.proofs.Indexed.{entries_more, entries_all}
use Rattle.pin_pieces.proofs.found.index_of.Goals as goal

nothing : Piece
nothing = record { net = 0; layer = 0; axis = X; centre = pos 0; width = pos 0; from = pos 0; to = pos 0; shape = Ring }

pub loop-number-preserved : goal.loop-number-preserved
unfolding nothing
loop-number-preserved c =
    let pieces = c.args.pieces.now in
    let i = c.loop-number.number in
    let piece : Piece = get_or pieces i nothing in
    let at : At pieces i piece = (c.loop-number-test.true, get_or_default pieces i piece nothing c.loop-number-test.true) in
    rw c.in_ok-push.ensures.items (rw c.piece_entry.ensures (entries_more pieces c.loop-number.entries.items i piece at c.loop-number.invariant))

pub returns : goal.returns
returns c =
    let pieces = c.args.pieces.now in
    let all = entries_all pieces c.loop-number.entries.items c.loop-number.number c.loop-number-test.false c.loop-number.invariant in
    IfOk-weaker c.new.result (λ index. index ≡ c.deref.result.now) (λ index. ListsAll (IsPieceEntry pieces) index)
    (λ index is. subst (λ (es : List (Entry _)). ListsAll (IsPieceEntry pieces) es) (sym (is ∙ c.deref.ensures.value)) all)
    c.new.ensures
