use Rattle.std.proofs.Common.{subst}
use Rattle.reading.specs.Outcome.{IsReadAs}
use Rattle.spice_cards.specs.Format.{format}
use Rattle.spice_cards.proofs.Reading.{error_told}
use Rattle.spice_cards.proofs.read.read_cards.Goals as goal

pub returns-in-Ok-read_words-clause-reads : goal.returns-in-Ok-read_words-clause-reads
returns-in-Ok-read_words-clause-reads c =
    let g = c.in-Ok-read_words.ensures in
    (g.0, subst (λ z. IsReadAs format z g.0) c.new-words.ensures.words g.1, c.into_cards.ensures.says g.0 g.2)

pub returns-clause-reads : goal.returns-clause-reads
returns-clause-reads c = error_told c.args.text.now c.new-words.result c.in-Err.refusal c.error_of.result c.new-words.ensures.words c.in-Err.ensures c.error_of.ensures

pub returns-in-Ok-read_words-clause-farads : goal.returns-in-Ok-read_words-clause-farads
returns-in-Ok-read_words-clause-farads c =
    let g = c.in-Ok-read_words.ensures in c.into_cards.ensures.farads g.0 g.2
