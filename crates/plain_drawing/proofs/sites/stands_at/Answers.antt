use Rattle.plain_drawing.proofs.Sited.{stands_if}
use Rattle.plain_drawing.proofs.sites.stands_at.Goals as goal

pub returns-then-is_crossing : goal.returns-then-is_crossing
returns-then-is_crossing c =
    stands_if c.args.tech.now c.args.blocks.now c.args.connect c.args.flat.now c.args.upright.now c.crossing_of.result c.is_obstructed.result (c.is_crossing.ensures.0 c.if-is_crossing.true)
    c.crossing_of.ensures c.is_obstructed.ensures
