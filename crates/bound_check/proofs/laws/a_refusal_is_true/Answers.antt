use Rattle.grid_net.specs.Network.{entry_of}
use Rattle.bound_check.proofs.Refused.{rounds_named}
use Rattle.bound_check.proofs.laws.a_refusal_is_true.Goals as goal

pub returns : goal.returns
returns s net high low f e = rounds_named net (entry_of high) (entry_of low) f e
