use Rattle.node_groups.proofs.Steps.{climb_on}
use Rattle.node_groups.proofs.forest.first_of.Goals as goal

pub up-preserved : goal.up-preserved
up-preserved c = climb_on c.args.parents.now c.up.parents c.args.node c.up.at c.up.invariant c.up-test.true
