use Rattle.statements.proofs.Law.{regular}
use Rattle.statements.proofs.format.StatementsGrammar.regular.Goals as goal

pub returns : goal.returns
returns c = regular
