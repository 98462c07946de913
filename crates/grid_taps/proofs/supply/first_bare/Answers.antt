use Rattle.std.proofs.Common.{List, pos, sym, ◌∙◌, subst}
use Rattle.std.proofs.lemmas.Bool.{false≢true}
use Rattle.std.proofs.lemmas.List.{take_all}
use Rattle.geom_rect.specs.declared.direction.Axis.TheVariants.{X}
use Rattle.geom_rect.specs.declared.drawn.Shape.TheVariants.{Ring}
use Rattle.grid_pieces.specs.declared.piece.Piece.{Piece}
use Rattle.grid_taps.specs.Naming.{IsFirst}
use Rattle.grid_taps.specs.Refusals.{HasNoSupply}
use Rattle.grid_taps.specs.inside.Steps.{NumberAmong}
use Rattle.grid_taps.proofs.Firsts.{first_more, first_kept}
use Rattle.grid_taps.proofs.supply.first_bare.Goals as goal
use Rattle.grid_taps.proofs.supply.first_bare.Goals.{then-is_bare, else-is_bare}

nothing : Piece
nothing = record { net = 0; layer = 0; axis = X; centre = pos 0; width = pos 0; from = pos 0; to = pos 0; shape = Ring }

pub loop-piece-preserved : goal.loop-piece-preserved
unfolding nothing
loop-piece-preserved c =
    let pieces = c.as_slice-piece-items.result.now in
    let i = c.loop-piece.piece-index in
    elim c.if-is_bare.branch [
      | then-is_bare w ↦
          rw w.first-is
          (rw w.lesser_net-first.ensures
          (first_more (λ (p : Piece). p.net) (λ (p : Piece). HasNoSupply c.args.grid.now c.args.bias.now p.net) pieces i nothing c.loop-piece.first c.loop-piece-test.true
          c.loop-piece.invariant (c.is_bare.ensures.0 w.if-is_bare.true)))
      | else-is_bare w ↦
          rw w.first-is
          (first_kept (λ (p : Piece). p.net) (λ (p : Piece). HasNoSupply c.args.grid.now c.args.bias.now p.net) pieces i nothing c.loop-piece.first c.loop-piece-test.true
          c.loop-piece.invariant (λ none. false≢true (sym w.if-is_bare.false ∙ c.is_bare.ensures.1 none)))
    ]

pub returns : goal.returns
returns c =
    subst (λ (ps : List Piece). IsFirst (NumberAmong (λ (p : Piece). p.net) (λ (p : Piece). HasNoSupply c.args.grid.now c.args.bias.now p.net) ps) c.loop-piece.first)
    (take_all c.loop-piece.piece-index c.as_slice-piece-items.result.now c.loop-piece-test.false ∙ c.as_slice-piece-items.ensures) c.loop-piece.invariant
