use Rattle.one_wired_grid.proofs.Refused.{one_cause}
use Rattle.one_wired_grid.proofs.laws.one_refusal_of_wiring.Goals as goal

pub returns : goal.returns
returns s = record { one = λ tech design wires e f. one_cause s.one_resistance.ensures tech design wires e f }
