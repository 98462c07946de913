use Rattle.std.proofs.Common.{pos}
use Rattle.geom_rect.specs.declared.direction.Axis.TheVariants.{X}
use Rattle.geom_rect.specs.declared.drawn.Shape.TheVariants.{Ring}
use Rattle.halo_cuts.specs.declared.shape.GridShape.{GridShape}
use Rattle.halo_cuts.proofs.Steps.{cut_more}
use Rattle.halo_cuts.proofs.cutting.cut_shapes.Goals as goal

-- What a read past a list gives.
abbrev nothing : GridShape
nothing = record {
  grid = 0;
  shape = record { net = 0; layer = 0; axis = X; centre = pos 0; width = pos 0; from = pos 0; to = pos 0; shape = Ring };
}

pub loop-shape-preserved : goal.loop-shape-preserved
loop-shape-preserved c =
    cut_more c.args.blocks.now c.args.shapes.now c.loop-shape.shape-index nothing c.loop-shape.left.items c.add_left.new.left.items
    c.loop-shape-test.true c.loop-shape.invariant c.in_ok-add_left.ensures
