use Rattle.strap_layout.specs.Lines.{line_at}
use Rattle.strap_layout.specs.inside.Lines.{AreFewBefore}
use Rattle.strap_layout.proofs.lines.add_lines_up_to.Given as goal

abbrev pub invariant-loop-number : goal.invariant-loop-number
invariant-loop-number l = AreFewBefore l.most l.rule l.core l.reach (line_at l.place l.number) l.straps.items
