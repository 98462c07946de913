use Rattle.one_wired_grid.proofs.Refused.{one_grid}
use Rattle.one_wired_grid.proofs.laws.one_wired_grid.Goals as goal

pub returns : goal.returns
returns s = record { one = λ tech design wires a b. one_grid s.one_resistance.ensures tech design wires a b }
