use Rattle.bound_check.proofs.Failing.{passes_from_none, none_from_passes}
use Rattle.bound_check.proofs.laws.no_failing_test.Goals as goal

pub returns-clause-holds : goal.returns-clause-holds
returns-clause-holds s net high low e = passes_from_none net high low e

pub returns-clause-none : goal.returns-clause-none
returns-clause-none s net high low cert = none_from_passes net high low cert
