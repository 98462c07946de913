use Rattle.bound_check.proofs.Worked.{example_is_network, example_has_solution, example_passes}
use Rattle.bound_check.proofs.laws.worked_example.Goals as goal

pub returns-clause-network : goal.returns-clause-network
returns-clause-network s = example_is_network

pub returns-clause-solution : goal.returns-clause-solution
returns-clause-solution s = example_has_solution

pub returns-clause-certificate : goal.returns-clause-certificate
returns-clause-certificate s = example_passes
