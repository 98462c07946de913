use Rattle.one_network.proofs.Limited.{first_one, none_first}
use Rattle.one_network.proofs.laws.one_first_unsupplied.Goals as goal

pub returns-clause-one : goal.returns-clause-one
returns-clause-one s net m n p q = first_one net m n p q

pub returns-clause-none : goal.returns-clause-none
returns-clause-none s net n each p = none_first net n each p
