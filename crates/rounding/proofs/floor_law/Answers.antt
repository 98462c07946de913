use Rattle.rounding.specs.Laws.{floor_unique}
use Rattle.rounding.proofs.floor_law.Goals as goal

pub returns-clause-unique : goal.returns-clause-unique
returns-clause-unique c = floor_unique
