use Rattle.std.proofs.Common.{take}
use Rattle.grid_pieces.specs.Piece.{Among}
use Rattle.grid_stacks.specs.Crossing.{Stands}
use Rattle.plain_drawing.specs.inside.Adding.{Adds}
use Rattle.plain_drawing.specs.inside.Sites.{StandsOn}
use Rattle.plain_drawing.proofs.sites.add_by.Given as goal

abbrev pub invariant-loop-flat : goal.invariant-loop-flat
invariant-loop-flat l =
    Adds (Stands l.tech l.pieces l.connects l.blocks) (λ site. Among (λ flat. StandsOn l.tech l.pieces l.blocks l.connect flat site) (take l.flat-index l.pieces))
    l.initial.sites.items l.sites.items
