use Rattle.std.proofs.Common.{sym, ◌∙◌, ap, subst}
use Rattle.def_wiring.specs.declared.act.Act.{Act}
use Rattle.def_wiring.specs.declared.section.Section.{Section}
use Rattle.def_wiring.specs.declared.section.Section.TheVariants.{Via}
use Rattle.def_wiring.specs.Fault.{ViaFault, FirstFault}
use Rattle.def_wiring.specs.Record.{known_vias}
use Rattle.def_wiring.specs.Standing.{act_in}
use Rattle.reading.specs.Fault.{Finds}
use Rattle.reading.specs.Word.{token}
use Rattle.def_wiring.proofs.fault.first_fault.Goals as goal

pub returns-in-Via : goal.returns-in-Via
returns-in-Via c = λ before h same.
    let there = c.args.standing.now in
    let word = token c.args.word.now in
    subst (λ (z : Section). Finds (FirstFault z there before word) c.via_fault.result) (sym c.in-Via.is)
    (subst (λ (z : Act). Finds (ViaFault z (known_vias before) before.asked there.entry) c.via_fault.result)
    (c.act-act.ensures ∙ ap (act_in Via there) same) (c.via_fault.ensures (known_vias before) before.asked h.late))

pub returns-in-Net : goal.returns-in-Net
returns-in-Net c = λ before h same.
    subst (λ (z : Section). Finds (FirstFault z c.args.standing.now before (token c.args.word.now)) c.net_fault.result) (sym c.in-Net.is)
    (c.net_fault.ensures before h same)
