use Rattle.grid_network.proofs.Ended.{never_bad}
use Rattle.grid_network.proofs.laws.ends_are_nodes.Goals as goal

pub returns : goal.returns
returns s d tech at is refused = never_bad d tech at is refused
