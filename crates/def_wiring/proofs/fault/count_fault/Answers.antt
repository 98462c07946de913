use Rattle.std.proofs.Common.{sym, subst}
use Rattle.def_wiring.specs.declared.sort.Sort.{Sort}
use Rattle.def_wiring.specs.Fault.{CountFault}
use Rattle.reading.specs.Fault.{Finds}
use Rattle.reading.specs.Word.{token}
use Rattle.def_wiring.proofs.fault.count_fault.Goals as goal

pub returns-in-Vias : goal.returns-in-Vias
returns-in-Vias c =
    subst (λ (z : Sort). Finds (CountFault z (token c.args.count.now)) c.number_fault.result) (sym c.in-Vias.is) c.number_fault.ensures

pub returns-in-SpecialNets : goal.returns-in-SpecialNets
returns-in-SpecialNets c =
    subst (λ (z : Sort). Finds (CountFault z (token c.args.count.now)) c.number_fault-in-SpecialNets.result) (sym c.in-SpecialNets.is)
    c.number_fault-in-SpecialNets.ensures
