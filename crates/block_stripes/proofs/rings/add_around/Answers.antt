use Rattle.std.proofs.Common.{pos}
use Rattle.geom_rect.specs.declared.rect.Rect.{Rect}
use Rattle.block_stripes.specs.Rings.{ring_over}
use Rattle.block_stripes.proofs.Flat.{flat_more}
use Rattle.block_stripes.proofs.rings.add_around.Goals as goal

-- What a read past a list gives.
abbrev nothing : Rect
nothing = record { x1 = pos 0; y1 = pos 0; x2 = pos 0; y2 = pos 0 }

pub add_sides-requires-clause-fits : goal.add_sides-requires-clause-fits
add_sides-requires-clause-fits c = c.requires.fits c.loop-core.core-index nothing c.loop-core-test.true

pub loop-core-preserved : goal.loop-core-preserved
loop-core-preserved c =
    flat_more (ring_over c.args.ring.now) c.args.cores.now c.loop-core.core-index nothing c.args.shapes.now.items c.loop-core.shapes.items c.add_sides.new.shapes.items
    c.loop-core-test.true c.loop-core.invariant c.in_ok-add_sides.ensures
