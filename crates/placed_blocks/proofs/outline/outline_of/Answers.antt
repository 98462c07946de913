use Rattle.std.proofs.Common.{sym, subst}
use Rattle.placed_blocks.specs.inside.Near.{IsOutline}
use Rattle.placed_blocks.proofs.Outlines.{is_outline}
use Rattle.placed_blocks.proofs.outline.outline_of.Goals as goal

pub returns-clause-outline : goal.returns-clause-outline
returns-clause-outline c = subst IsOutline (sym c.box_in_place.ensures.corners) (is_outline c.args.placed c.requires)
