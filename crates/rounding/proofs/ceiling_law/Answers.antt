use Rattle.rounding.specs.Laws.{ceiling_is, ceiling_unique}
use Rattle.rounding.proofs.ceiling_law.Goals as goal

pub returns-clause-holds : goal.returns-clause-holds
returns-clause-holds c = ceiling_is

pub returns-clause-unique : goal.returns-clause-unique
returns-clause-unique c = ceiling_unique
