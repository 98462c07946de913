use Rattle.std.proofs.Common.{pos}
use Rattle.geom_rect.specs.declared.direction.Axis.TheVariants.{X}
use Rattle.geom_rect.specs.declared.drawn.Drawn.{Drawn}
use Rattle.geom_rect.specs.declared.drawn.Shape.TheVariants.{Ring}
use Rattle.grid_cores.proofs.Lines.{lines_more}
use Rattle.grid_cores.proofs.line.add_runs.Goals as goal

-- What a read past a list gives.
abbrev nothing : Drawn
nothing = record { net = 0; layer = 0; axis = X; centre = pos 0; width = pos 0; from = pos 0; to = pos 0; shape = Ring }

pub loop-line-preserved : goal.loop-line-preserved
loop-line-preserved c =
    lines_more c.args.regions.now c.args.lines.now c.loop-line.line-index nothing c.args.shapes.now.items c.loop-line.shapes.items c.add_line.new.shapes.items
    c.loop-line-test.true c.loop-line.invariant c.in_ok-add_line.ensures
