use Rattle.std.proofs.Common.{sym, subst}
use Rattle.def_wiring.specs.Fault.{SlantFault}
use Rattle.reading.specs.Fault.{Finds}
use Rattle.def_wiring.proofs.fault.slant_fault.Goals as goal

pub returns-in-Some : goal.returns-in-Some
returns-in-Some c =
    subst (λ z. Finds (SlantFault z c.args.x.now c.args.y.now) c.slanted.result) (sym c.in-Some.is) c.slanted.ensures
