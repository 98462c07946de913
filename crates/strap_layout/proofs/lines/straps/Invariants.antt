use Rattle.strap_layout.specs.Lines.{line_at}
use Rattle.strap_layout.specs.inside.Lines.{AreStrapsBefore}
use Rattle.strap_layout.proofs.lines.straps.Given as goal

abbrev pub invariant-loop-place : goal.invariant-loop-place
invariant-loop-place l = AreStrapsBefore l.rule l.core l.reach (line_at l.place 0) l.straps.items
