use Rattle.em_rules.proofs.One.{density_unique, wire_unique, cut_unique}
use Rattle.em_rules.proofs.laws.one_limit.Goals as goal

pub returns-clause-densities : goal.returns-clause-densities
returns-clause-densities c = λ points n d a b rise some x y. density_unique points n d rise some a b x y

pub returns-clause-wires : goal.returns-clause-wires
returns-clause-wires c = wire_unique

pub returns-clause-arrays : goal.returns-clause-arrays
returns-clause-arrays c = cut_unique
