use Rattle.one_wired_grid.proofs.Refused.{want}
use Rattle.one_wired_grid.proofs.laws.wired_or_refused.Goals as goal

pub returns : goal.returns
returns s = record { want = λ tech design wires grid e. want s.one_resistance.ensures tech design wires grid e }
