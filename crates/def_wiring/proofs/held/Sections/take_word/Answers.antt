use Rattle.std.proofs.Common.{subst}
use Rattle.def_wiring.specs.inside.Held.{Tells}
use Rattle.def_wiring.specs.Record.{said_word}
use Rattle.def_wiring.proofs.Taking.{took}
use Rattle.reading.specs.Word.{token}
use Rattle.def_wiring.proofs.held.Sections.take_word.Goals as goal

pub returns : goal.returns
returns c =
    let there = c.args.standing.now in
    let word = token c.args.word.now in
    took c.take_act.result _ _ (λ leads same said h.
    subst (λ z. Tells (said_word z there word said) c.take_act.new.self) c.act-act.ensures
    (leads _ (c.note.ensures same said h))) c.take_act.ensures
