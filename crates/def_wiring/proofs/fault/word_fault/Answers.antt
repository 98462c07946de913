use Rattle.std.proofs.Common.{refl, sym, subst}
use Rattle.def_wiring.specs.declared.act.Act.{Act}
use Rattle.def_wiring.specs.Fault.{CoordinateFault, WordFault}
use Rattle.def_wiring.specs.declared.sort.Sort.{Sort}
use Rattle.reading.specs.Fault.{Finds}
use Rattle.reading.specs.Word.{token}
use Rattle.def_wiring.proofs.fault.word_fault.Goals as goal

pub returns-in-Number : goal.returns-in-Number
returns-in-Number c = λ same.
    subst (λ (z : Act). Finds (WordFault c.args.vias.now.names z c.args.path.now (token c.args.word.now)) c.number_fault.result) (sym c.in-Number.is) c.number_fault.ensures

pub returns-in-Width : goal.returns-in-Width
returns-in-Width c = λ same.
    subst (λ (z : Act). Finds (WordFault c.args.vias.now.names z c.args.path.now (token c.args.word.now)) c.number_fault-in-Width.result) (sym c.in-Width.is) c.number_fault-in-Width.ensures

pub returns-in-Reach : goal.returns-in-Reach
returns-in-Reach c = λ same.
    subst (λ (z : Act). Finds (WordFault c.args.vias.now.names z c.args.path.now (token c.args.word.now)) c.number_fault-in-Reach.result) (sym c.in-Reach.is) c.number_fault-in-Reach.ensures

pub returns-in-Y : goal.returns-in-Y
returns-in-Y c = λ same.
    subst (λ (z : Act). Finds (WordFault c.args.vias.now.names z c.args.path.now (token c.args.word.now)) c.second_fault_of.result) (sym c.in-Y.is)
    (c.second_fault_of.ensures c.args.vias.now.names (token c.args.word.now) same refl)

pub returns-in-X : goal.returns-in-X
returns-in-X c = λ same.
    let word = token c.args.word.now in
    subst (λ (z : Act). Finds (WordFault c.args.vias.now.names z c.args.path.now word) c.coordinate_fault.result) (sym c.in-X.is)
    (subst (λ (z : Sort). Finds (CoordinateFault c.args.path.now.last z word.text) c.coordinate_fault.result) same c.coordinate_fault.ensures)

pub returns-in-Place : goal.returns-in-Place
returns-in-Place c = λ same.
    subst (λ (z : Act). Finds (WordFault c.args.vias.now.names z c.args.path.now (token c.args.word.now)) c.unknown_fault.result) (sym c.in-Place.is) c.unknown_fault.ensures
