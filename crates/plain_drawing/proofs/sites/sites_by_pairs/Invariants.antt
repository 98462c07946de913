use Rattle.std.proofs.Common.{[]}
use Rattle.grid_stacks.specs.Crossing.{Stands}
use Rattle.plain_drawing.specs.inside.Adding.{Adds}
use Rattle.plain_drawing.specs.inside.Sites.{StandsTo}
use Rattle.plain_drawing.proofs.sites.sites_by_pairs.Given as goal

abbrev pub invariant-loop-place : goal.invariant-loop-place
invariant-loop-place l = Adds (Stands l.tech l.pieces l.connects l.blocks) (StandsTo l.tech l.pieces l.connects l.blocks l.place) [] l.sites.items
