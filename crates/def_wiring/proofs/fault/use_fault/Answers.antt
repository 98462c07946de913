use Rattle.std.proofs.Common.{None, sym, subst}
use Rattle.def_wiring.specs.Fault.{NetFault}
use Rattle.reading.specs.Fault.{Finds}
use Rattle.def_wiring.proofs.fault.use_fault.Goals as goal

pub returns-in-Some : goal.returns-in-Some
returns-in-Some c = λ vias before asked h.
    subst (λ z. Finds (NetFault None z vias before asked) c.late_fault.result) (sym c.in-Some.is) (c.late_fault.ensures vias before h)
