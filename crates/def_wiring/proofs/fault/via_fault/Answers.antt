use Rattle.std.proofs.Common.{sym, subst}
use Rattle.def_wiring.specs.declared.act.Act.{Act}
use Rattle.def_wiring.specs.Fault.{ViaFault}
use Rattle.reading.specs.Fault.{Finds}
use Rattle.def_wiring.proofs.fault.via_fault.Goals as goal

pub returns-in-EndsVia : goal.returns-in-EndsVia
returns-in-EndsVia c = λ vias asked h.
    subst (λ (z : Act). Finds (ViaFault z vias asked c.args.words.now) c.via_end_fault.result) (sym c.in-EndsVia.is) (c.via_end_fault.ensures vias asked h)

pub returns-in-NoVia : goal.returns-in-NoVia
returns-in-NoVia c = λ vias asked h.
    subst (λ (z : Act). Finds (ViaFault z vias asked c.args.words.now) c.via_part_fault.result) (sym c.in-NoVia.is) (c.via_part_fault.ensures vias asked h)
