use Rattle.std.proofs.Common.{pos, ◌∙◌}
use Rattle.geom_rect.specs.declared.direction.Axis.TheVariants.{X}
use Rattle.geom_rect.specs.declared.drawn.Drawn.{Drawn}
use Rattle.geom_rect.specs.declared.drawn.Shape.TheVariants.{Ring}
use Rattle.pin_pieces.specs.inside.Steps.{IsOnShape}
use Rattle.pin_pieces.proofs.Growing.{over_more, over_all}
use Rattle.pin_pieces.proofs.Indexed.{pieces_found}
use Rattle.pin_pieces.proofs.finding.add_shapes.Goals as goal

nothing : Drawn
nothing = record { net = 0; layer = 0; axis = X; centre = pos 0; width = pos 0; from = pos 0; to = pos 0; shape = Ring }

pub add_found-requires-clause-found : goal.add_found-requires-clause-found
add_found-requires-clause-found c =
    pieces_found c.args.pieces.now c.args.index.now _ c.deref.result.now c.requires.index (c.deref.ensures.value ∙ c.in_ok-found.ensures)

pub loop-shape-preserved : goal.loop-shape-preserved
unfolding nothing
loop-shape-preserved c =
    over_more (IsOnShape c.args.component c.args.pieces.now) c.args.shapes.now c.loop-shape.shape-index nothing c.args.pins.now.items c.loop-shape.pins.items c.add_found.new.pins.items
    c.loop-shape-test.true c.loop-shape.invariant c.in_ok-add_found.ensures

pub returns : goal.returns
returns c =
    over_all (IsOnShape c.args.component c.args.pieces.now) c.args.shapes.now c.loop-shape.shape-index c.args.pins.now.items c.loop-shape.pins.items c.loop-shape-test.false c.loop-shape.invariant
