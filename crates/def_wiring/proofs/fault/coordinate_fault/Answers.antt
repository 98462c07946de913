use Rattle.std.proofs.Common.{sym, subst}
use Rattle.def_wiring.specs.declared.sort.Sort.{Sort}
use Rattle.def_wiring.specs.Fault.{CoordinateFault}
use Rattle.def_wiring.proofs.Faults.{not_star}
use Rattle.reading.specs.Fault.{Finds}
use Rattle.def_wiring.proofs.fault.coordinate_fault.Goals as goal

pub returns-in-Star : goal.returns-in-Star
returns-in-Star c =
    subst (λ (z : Sort). Finds (CoordinateFault c.args.last.now z c.args.text.now) c.star_fault.result) (sym c.in-Star.is) (c.star_fault.ensures c.args.text.now)

pub returns-in_default : goal.returns-in_default
returns-in_default c =
    not_star c.args.last.now c.args.sort c.in_default.not-Star c.args.text.now c.number_fault.result c.number_fault.ensures
