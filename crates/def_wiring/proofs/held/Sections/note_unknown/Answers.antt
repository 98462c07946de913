use Rattle.def_wiring.proofs.Taking.{noted_after}
use Rattle.reading.specs.Word.{token}
use Rattle.def_wiring.proofs.held.Sections.note_unknown.Goals as goal

pub returns-in-Some : goal.returns-in-Some
returns-in-Some c = λ same.
    noted_after (record { act = c.args.act; path = c.args.path.now; word = token c.args.word.now }) c.args.self.now c.in-Some.field-0 c.in-Some.is
