use Rattle.em_rules.proofs.Ends.{verdict_unique}
use Rattle.em_rules.proofs.laws.one_verdict.Goals as goal

pub returns : goal.returns
returns c = verdict_unique
