use Rattle.node_groups.specs.inside.Forest.{AreNumbered}
use Rattle.node_groups.proofs.groups.number.Given as goal

abbrev pub invariant-loop-node : goal.invariant-loop-node
invariant-loop-node l = AreNumbered l.parents l.node l.group.items l.firsts.items
