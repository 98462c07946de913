use Rattle.reading.proofs.Words.{last-found}
use Rattle.reading.proofs.word.last_word.Goals as goal

pub returns-clause-some : goal.returns-clause-some
returns-clause-some c = last-found c.args.unit.now c.last.result c.last.ensures.value
