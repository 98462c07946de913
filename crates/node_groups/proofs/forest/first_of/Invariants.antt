use Rattle.node_groups.specs.inside.Forest.{IsClimbing}
use Rattle.node_groups.proofs.forest.first_of.Given as goal

abbrev pub invariant-up : goal.invariant-up
invariant-up l = IsClimbing l.initial.parents l.parents l.node l.at

abbrev pub decreases-up : goal.decreases-up
decreases-up l = l.at
