use Rattle.std.proofs.Common.{length}
use Rattle.grid_network.specs.Network.{resistors_of, pads_of, loads_of}
use Rattle.grid_network.proofs.OneNetwork.{one_network, refused_not}
use Rattle.grid_network.proofs.laws.one_network_or_refusal.Goals as goal

pub returns-clause-one : goal.returns-clause-one
returns-clause-one s d tech a b p q = one_network d tech a b p q

pub returns-clause-or_refused : goal.returns-clause-or_refused
returns-clause-or_refused s d tech a error is refused =
    refused_not d tech a error is (s.no_net_refusal.ensures.limits (length a.keys) (resistors_of a.keys is.segments) (pads_of d a.keys) (loads_of d a.keys) is.not_refused).few_nodes refused
