use Rattle.strap_layout.specs.Lines.{line_at}
use Rattle.strap_layout.specs.inside.Lines.{AreFewBefore}
use Rattle.strap_layout.proofs.lines.straps_up_to.Given as goal

abbrev pub invariant-loop-net_place : goal.invariant-loop-net_place
invariant-loop-net_place l = AreFewBefore l.most l.rule l.core l.reach (line_at l.net_place 0) l.straps.items
