use Rattle.std.proofs.Common.{pos}
use Rattle.geom_rect.specs.declared.direction.Axis.TheVariants.{X}
use Rattle.geom_rect.specs.declared.drawn.Shape.TheVariants.{Ring}
use Rattle.grid_pieces.specs.declared.piece.Piece.{Piece}
use Rattle.plain_drawing.proofs.Sited.{flat_none, flat_more, flat_all}
use Rattle.plain_drawing.proofs.sites.add_by.Goals as goal

nothing : Piece
nothing = record { net = 0; layer = 0; axis = X; centre = pos 0; width = pos 0; from = pos 0; to = pos 0; shape = Ring }

pub loop-flat-init : goal.loop-flat-init
loop-flat-init c = flat_none c.args.tech.now c.args.pieces.now c.args.connects.now c.args.blocks.now c.args.connect c.args.sites.now.items

pub loop-flat-preserved : goal.loop-flat-preserved
unfolding nothing
loop-flat-preserved c =
    flat_more c.args.tech.now c.args.pieces.now c.args.connects.now c.args.blocks.now c.args.connect c.loop-flat.flat-index nothing c.args.sites.now.items c.loop-flat.sites.items c.add_on.new.sites.items
    c.loop-flat-test.true c.loop-flat.invariant c.in_ok-add_on.ensures

pub returns : goal.returns
returns c =
    flat_all c.args.tech.now c.args.pieces.now c.args.connects.now c.args.blocks.now c.args.connect c.loop-flat.flat-index c.args.sites.now.items c.loop-flat.sites.items c.loop-flat-test.false
    c.loop-flat.invariant
