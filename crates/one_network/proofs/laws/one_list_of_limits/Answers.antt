use Rattle.one_network.proofs.Limited.{limits_one}
use Rattle.one_network.proofs.laws.one_list_of_limits.Goals as goal

pub returns : goal.returns
returns s tech grid keys branches bias a b keeps p q =
    limits_one tech grid keeps s.one_limit.ensures.wires s.one_limit.ensures.arrays keys branches bias a b p q
