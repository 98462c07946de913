use Rattle.std.proofs.Common.{pos, sym, ap, ◌∙◌, Some}
use Rattle.geom_rect.specs.declared.direction.Axis.TheVariants.{X}
use Rattle.geom_rect.specs.declared.drawn.Drawn.{Drawn}
use Rattle.geom_rect.specs.declared.drawn.Shape.TheVariants.{Ring}
use Rattle.grid_shapes.proofs.Reaches.{reach_more, reach_kept}
use Rattle.grid_shapes.proofs.reach.ring_reach.Goals as goal
use Rattle.grid_shapes.proofs.reach.ring_reach.Goals.{then-is_side, else-is_side}

-- What a read past a list gives.
abbrev nothing : Drawn
nothing = record { net = 0; layer = 0; axis = X; centre = pos 0; width = pos 0; from = pos 0; to = pos 0; shape = Ring }

pub loop-side-preserved : goal.loop-side-preserved
loop-side-preserved c =
    let sides = c.args.sides.now in
    let i = c.loop-side.side-index in
    let more = reach_more c.args.axis c.args.net sides i nothing c.loop-side-test.true in
    let kept = reach_kept c.args.axis c.args.net sides i nothing c.loop-side-test.true in
    elim c.if-is_side.branch [
      | then-is_side w ↦ w.reach-is ∙ ap Some w.run_of.ensures ∙ sym (more (sym c.is_side.ensures ∙ w.if-is_side.true))
      | else-is_side w ↦ w.reach-is ∙ c.loop-side.invariant ∙ sym (kept (sym c.is_side.ensures ∙ w.if-is_side.false))
    ]
