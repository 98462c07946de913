use Rattle.grid_network.proofs.Ruled.{ruled}
use Rattle.grid_network.proofs.laws.one_rule_of_resistance.Goals as goal

pub returns : goal.returns
returns s layers piece square long width sheet wide some = ruled layers piece square long width sheet wide some
