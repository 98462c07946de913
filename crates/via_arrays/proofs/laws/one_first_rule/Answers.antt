use Rattle.via_arrays.proofs.Single.{first_rule_unique, some_or_none}
use Rattle.via_arrays.proofs.laws.one_first_rule.Goals as goal

pub returns-clause-one : goal.returns-clause-one
returns-clause-one c = first_rule_unique

pub returns-clause-or_none : goal.returns-clause-or_none
returns-clause-or_none c = some_or_none
