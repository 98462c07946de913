use Rattle.std.proofs.Common.{◌≡◌, ◌⊎◌, pos, inl, inr}
use Rattle.geom_rect.specs.declared.rect.Rect.{Rect}
use Rattle.grid_pieces.specs.declared.error.Counted.TheVariants.{Lines}
use Rattle.grid_pieces.specs.declared.error.DrawError.{DrawError}
use Rattle.grid_pieces.specs.declared.error.DrawError.TheVariants.{TooMany, Want}
use Rattle.grid_shapes.specs.Shapes.{most_lines}
use Rattle.block_stripes.specs.Straps.{DrawOver, DrawsMoreOver}
use Rattle.block_stripes.proofs.Joined.{joined_more}
use Rattle.block_stripes.proofs.Many.{many_at}
use Rattle.block_stripes.proofs.Passed.{err_on}
use Rattle.block_stripes.proofs.straps.straps_over.Goals as goal

-- What a read past a list gives.
abbrev nothing : Rect
nothing = record { x1 = pos 0; y1 = pos 0; x2 = pos 0; y2 = pos 0 }

pub loop-core-preserved : goal.loop-core-preserved
loop-core-preserved c =
    let straps = c.args.straps.now in
    let before = c.loop-core.shapes.items in
    let after = c.add_box.new.shapes.items in (
      joined_more (DrawOver straps) c.args.cores.now c.loop-core.core-index nothing before after c.loop-core-test.true c.loop-core.invariant.0
          c.in_ok-add_box.ensures.added,
      c.in_ok-add_box.ensures.few,
    )

pub returns-in_err-add_box-clause-refused : goal.returns-in_err-add_box-clause-refused
returns-in_err-add_box-clause-refused c =
    let straps = c.args.straps.now in
    let shapes = c.loop-core.shapes.items in
    let Q = λ (error : DrawError). (error ≡ Want) ⊎ ((error ≡ TooMany Lines) × DrawsMoreOver most_lines straps.rule c.args.cores.now) in
    err_on Q c.from_residual.result c.in_err-add_box.field-0.0 c.from_residual.ensures.1
    (elim c.in_err-add_box.ensures.refused [
      | inl want ↦ inl want
      | inr many ↦ inr (
        many.0,
        many_at straps most_lines c.args.cores.now c.loop-core.core-index nothing shapes c.loop-core-test.true c.loop-core.invariant.0
            c.loop-core.invariant.1 many.1,
      )
    ])
