use Rattle.strap_layout.specs.Lines.{line_at}
use Rattle.strap_layout.specs.inside.Lines.{AreStrapsBefore}
use Rattle.strap_layout.proofs.lines.add_lines.Given as goal

abbrev pub invariant-loop-number : goal.invariant-loop-number
invariant-loop-number l = AreStrapsBefore l.rule l.core l.reach (line_at l.place l.number) l.straps.items
