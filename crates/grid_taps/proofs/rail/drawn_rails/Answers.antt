use Rattle.std.proofs.Common.{pos, get_or, sym, ◌∙◌}
use Rattle.std.proofs.lemmas.Bool.{false≢true}
use Rattle.std.proofs.lemmas.List.{get_or_default}
use Rattle.geom_rect.specs.declared.direction.Axis.TheVariants.{X}
use Rattle.geom_rect.specs.declared.drawn.Shape.TheVariants.{Ring}
use Rattle.grid_pieces.specs.declared.piece.Piece.{Piece}
use Rattle.grid_taps.specs.Naming.{At}
use Rattle.grid_taps.proofs.RailSteps.{rails_more, rails_kept}
use Rattle.grid_taps.proofs.rail.drawn_rails.Goals as goal
use Rattle.grid_taps.proofs.rail.drawn_rails.Goals.{then-is_rail+in_ok-push, else-is_rail}

nothing : Piece
nothing = record { net = 0; layer = 0; axis = X; centre = pos 0; width = pos 0; from = pos 0; to = pos 0; shape = Ring }

pub loop-number-preserved : goal.loop-number-preserved
unfolding nothing
loop-number-preserved c =
    let pieces = c.args.pieces.now in
    let i = c.loop-number.number in
    let p : Piece = get_or pieces i nothing in
    let at : At pieces i p = (c.loop-number-test.true, get_or_default pieces i p nothing c.loop-number-test.true) in
    elim c.if-is_rail.branch [
      | then-is_rail+in_ok-push w ↦
          rw w.rails-is
          (rw w.in_ok-push.ensures.items
          (rw w.rail_of.ensures
          (rails_more pieces i p c.loop-number.rails.items at (c.is_rail.ensures.0 w.if-is_rail.true) c.loop-number.invariant)))
      | else-is_rail w ↦
          rw w.rails-is
          (rails_kept pieces i p c.loop-number.rails.items at (λ on. false≢true (sym w.if-is_rail.false ∙ c.is_rail.ensures.1 on)) c.loop-number.invariant)
    ]
