use Rattle.em_rules.proofs.Ends.{safe_tells, unsafe_tells, ends_tell}
use Rattle.em_rules.proofs.laws.ends_tell.Goals as goal

pub returns-clause-safe : goal.returns-clause-safe
returns-clause-safe c = safe_tells

pub returns-clause-not_safe : goal.returns-clause-not_safe
returns-clause-not_safe c = unsafe_tells

pub returns-clause-exact : goal.returns-clause-exact
returns-clause-exact c = ends_tell
