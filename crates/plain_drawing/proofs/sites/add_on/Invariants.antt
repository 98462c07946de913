use Rattle.std.proofs.Common.{take}
use Rattle.grid_stacks.specs.Crossing.{Stands}
use Rattle.plain_drawing.specs.inside.Adding.{Adds}
use Rattle.plain_drawing.specs.inside.Sites.{StandsOn}
use Rattle.plain_drawing.proofs.sites.add_on.Given as goal

abbrev pub invariant-loop-upright : goal.invariant-loop-upright
invariant-loop-upright l =
    Adds (Stands l.tech l.pieces l.connects l.blocks) (StandsOn l.tech (take l.upright-index l.pieces) l.blocks l.connect l.flat) l.initial.sites.items l.sites.items
