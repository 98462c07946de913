use Rattle.group_net.proofs.Solutions.{by_groups, at_nodes}
use Rattle.group_net.proofs.laws.solutions_by_groups.Goals as goal

pub returns-clause-merged : goal.returns-clause-merged
returns-clause-merged k net shorts group firsts q p c l s built nodes h sol =
    by_groups net shorts group firsts q p c l s h sol built nodes k.built_network.ensures.kept_pads

pub returns-clause-at_nodes : goal.returns-clause-at_nodes
returns-clause-at_nodes k net shorts group firsts q p c l s h sol = at_nodes net shorts group firsts q p c l s h sol
