use Rattle.std.proofs.Common.{refl}
use Rattle.def_wiring.proofs.Taking.{noted_late, noted_fine}
use Rattle.reading.specs.Word.{token}
use Rattle.def_wiring.proofs.held.Sections.note_word.Goals as goal

pub returns-in-Some : goal.returns-in-Some
returns-in-Some c = λ same.
    noted_late (record { act = c.args.act; path = c.args.path.now; word = token c.args.word.now }) c.args.self.now
    (record { place = c.args.word.now.place; kind = c.in-Some.kind }) c.requires (c.in-Some.ensures same) refl

pub returns-in_default : goal.returns-in_default
returns-in_default c = λ same.
    noted_fine (record { act = c.args.act; path = c.args.path.now; word = token c.args.word.now }) c.args.self.now c.requires (c.in_default.ensures same)
