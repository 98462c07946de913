use Rattle.std.proofs.Common.{None, sym, ◌∙◌, ap, subst}
use Rattle.def_wiring.specs.Act.{net_act}
use Rattle.def_wiring.specs.Fault.{NetFault}
use Rattle.def_wiring.specs.Record.{Asked, known_vias}
use Rattle.def_wiring.specs.Sort.{sort_of}
use Rattle.def_wiring.specs.Standing.{told}
use Rattle.reading.specs.Fault.{Finds}
use Rattle.reading.specs.Word.{token}
use Rattle.def_wiring.proofs.fault.net_fault.Goals as goal

pub returns-in-None : goal.returns-in-None
returns-in-None c = λ before h same.
    let there = c.args.standing.now in
    let word = token c.args.word.now in
    let asked : Asked = record { act = net_act there.stage (sort_of word); path = there.path; word = word } in
    subst (λ z. Finds (NetFault z (told there.cue (sort_of word)) (known_vias before) before.asked asked) c.use_fault.result) (sym c.in-None.is)
    (subst (λ z. Finds (NetFault None z (known_vias before) before.asked asked) c.use_fault.result) (c.told.ensures ∙ ap (told there.cue) same)
    (c.use_fault.ensures (known_vias before) before.asked asked h.late))
