use Rattle.grid_net.proofs.Built.{kept_pad, loads_of_network, network_is_built}
use Rattle.grid_net.proofs.laws.built_network.Goals as goal

pub returns-clause-kept_pads : goal.returns-clause-kept_pads
returns-clause-kept_pads s nodes resistors pads loads i l = kept_pad pads nodes i l

pub returns-clause-loads_add_up : goal.returns-clause-loads_add_up
returns-clause-loads_add_up s nodes resistors pads loads = loads_of_network nodes resistors pads loads

pub returns-clause-is_built : goal.returns-clause-is_built
returns-clause-is_built s nodes resistors pads loads keeps ranges = network_is_built nodes resistors pads loads keeps ranges
