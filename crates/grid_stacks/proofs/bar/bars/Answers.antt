use Rattle.std.proofs.Common.{◌≡◌, ◌<◌, pos, length, get_or, sym, ◌∙◌}
use Rattle.std.proofs.lemmas.Bool.{false≢true}
use Rattle.geom_rect.specs.declared.direction.Axis.TheVariants.{X}
use Rattle.geom_rect.specs.declared.drawn.Shape.TheVariants.{Ring}
use Rattle.grid_pieces.specs.declared.piece.Piece.{Piece}
use Rattle.grid_stacks.proofs.RunSteps.{at_get}
use Rattle.grid_stacks.proofs.Barred.{bars_none, bars_kept, bars_more, bars_all}
use Rattle.grid_stacks.proofs.bar.bars.Goals as goal
use Rattle.grid_stacks.proofs.bar.bars.Goals.{then-is_on+in_ok-push, else-is_on}

nothing : Piece
nothing = record { net = 0; layer = 0; axis = X; centre = pos 0; width = pos 0; from = pos 0; to = pos 0; shape = Ring }

pub loop-piece-preserved : goal.loop-piece-preserved
unfolding nothing
loop-piece-preserved c =
    let pieces = c.args.pieces.now in
    let i = c.loop-piece.piece-index in
    let within : i < length pieces = c.loop-piece-test.true in
    elim c.if-is_on.branch [
      | then-is_on+in_ok-push w ↦
          rw w.bars-is
          (rw w.in_ok-push.ensures.items
          (rw w.bar_of.ensures
          (bars_more c.args.connect.now c.args.axis pieces i (get_or pieces i nothing) c.loop-piece.bars.items c.requires.keep c.requires.even c.requires.apart (at_get pieces i nothing within) c.loop-piece.invariant
          (c.is_on.ensures.0 w.if-is_on.true))))
      | else-is_on w ↦
          rw w.bars-is
          (bars_kept c.args.connect.now c.args.axis pieces i (get_or pieces i nothing) c.loop-piece.bars.items (at_get pieces i nothing within) c.loop-piece.invariant
          (λ on. false≢true (sym w.if-is_on.false ∙ c.is_on.ensures.1 on)))
    ]

pub returns : goal.returns
returns c = bars_all c.args.connect.now c.args.axis c.args.pieces.now c.loop-piece.piece-index c.loop-piece.bars.items c.loop-piece-test.false c.loop-piece.invariant
