use Rattle.std.proofs.Common.{subst}
use Rattle.def_wiring.specs.inside.Held.{IsLate}
use Rattle.def_wiring.proofs.Late.{none_late}
use Rattle.def_wiring.proofs.fault.late_fault.Goals as goal

pub returns-in-None : goal.returns-in-None
returns-in-None c = λ vias asked h shown k.
    none_late vias asked k.0 (subst (λ z. IsLate vias asked z) c.in-None.is h) k.1
