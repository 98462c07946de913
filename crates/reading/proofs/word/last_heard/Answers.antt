use Rattle.reading.proofs.Words.{heard-last-found}
use Rattle.reading.proofs.word.last_heard.Goals as goal

pub returns-clause-some : goal.returns-clause-some
returns-clause-some g c = heard-last-found c.args.unit.now c.last.result c.last.ensures.value
