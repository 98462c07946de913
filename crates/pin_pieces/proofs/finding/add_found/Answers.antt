use Rattle.std.proofs.Common.{◌<◌, ℕ, List, [], ◌∷◌, ◌++◌, length, get_or, pos, sym, ◌∙◌}
use Rattle.std.proofs.lemmas.Bool.{false≢true}
use Rattle.std.proofs.lemmas.List.{get_or_default}
use Rattle.geom_rect.specs.declared.direction.Axis.TheVariants.{X}
use Rattle.geom_rect.specs.declared.drawn.Drawn.{Drawn}
use Rattle.geom_rect.specs.declared.drawn.Shape.TheVariants.{Ring}
use Rattle.grid_pieces.specs.declared.piece.Piece.{Piece}
use Rattle.grid_stacks.specs.Crossing.{At}
use Rattle.pin_pieces.specs.declared.pin.PinPiece.{PinPiece}
use Rattle.pin_pieces.specs.inside.Steps.{ListsAll, IsPieceAt}
use Rattle.pin_pieces.proofs.Growing.{over_more, over_all}
use Rattle.pin_pieces.proofs.Touching.{Gives, one_more, none_more, all_found}
use Rattle.pin_pieces.proofs.finding.add_found.Goals as goal
use Rattle.pin_pieces.proofs.finding.add_found.Goals.{then-share_cell+in_ok-push, else-share_cell}

nothing : Piece
nothing = record { net = 0; layer = 0; axis = X; centre = pos 0; width = pos 0; from = pos 0; to = pos 0; shape = Ring }

-- the number that is next is that of a piece
found_there : (pieces : List Piece) (shape : Drawn) (found : List ℕ) (i : ℕ) → ListsAll (IsPieceAt pieces shape) found → i < length found → get_or found i 0 < length pieces
found_there pieces shape found i lists within =
    ((lists (get_or found i 0)).0 (i, within, get_or_default found i (get_or found i 0) 0 within)).at.0

pub bounds-pieces-number : goal.bounds-pieces-number
bounds-pieces-number c = found_there c.args.pieces.now c.args.shape.now c.args.found.now c.loop-number.number-index c.requires.found c.loop-number-test.true

pub loop-number-preserved : goal.loop-number-preserved
unfolding nothing
loop-number-preserved c =
    let pieces = c.args.pieces.now in
    let shape = c.args.shape.now in
    let found = c.args.found.now in
    let i = c.loop-number.number-index in
    let n : ℕ = get_or found i 0 in
    let piece : Piece = get_or pieces n nothing in
    let within : n < length pieces = found_there pieces shape found i c.requires.found c.loop-number-test.true in
    let at : At pieces n piece = (within, get_or_default pieces n piece nothing within) in
    let old : List PinPiece = c.args.pins.now.items in
    let mid : List PinPiece = c.loop-number.pins.items in
    elim c.if-share_cell.branch [
      | then-share_cell+in_ok-push w ↦
          rw w.pins-is
          (rw w.in_ok-push.ensures.items
          (over_more (Gives c.args.component pieces shape) found i 0 old mid (mid ++ record { component = c.args.component; piece = n } ∷ []) c.loop-number-test.true c.loop-number.invariant
          (one_more c.args.component pieces shape n piece mid at (c.share_cell.ensures.0 w.if-share_cell.true))))
      | else-share_cell w ↦
          rw w.pins-is
          (over_more (Gives c.args.component pieces shape) found i 0 old mid mid c.loop-number-test.true c.loop-number.invariant
          (none_more c.args.component pieces shape n piece mid at (λ shares. false≢true (sym w.if-share_cell.false ∙ c.share_cell.ensures.1 shares))))
    ]

pub returns : goal.returns
returns c =
    let gives = Gives c.args.component c.args.pieces.now c.args.shape.now in
    all_found c.args.component c.args.pieces.now c.args.shape.now c.args.found.now c.args.pins.now.items c.loop-number.pins.items c.requires.keep c.requires.found
    (over_all gives c.args.found.now c.loop-number.number-index c.args.pins.now.items c.loop-number.pins.items c.loop-number-test.false c.loop-number.invariant)
