use Rattle.grid_stacks.specs.inside.Standing.{AreUsedTo}
use Rattle.grid_stacks.proofs.places.used.Given as goal

abbrev pub invariant-loop-connect : goal.invariant-loop-connect
invariant-loop-connect l = AreUsedTo l.connects l.connect-index l.used.items
