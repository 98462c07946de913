use Rattle.grid_stacks.specs.inside.Standing.{IsFlatTo}
use Rattle.grid_stacks.proofs.crossed.cross_flat.Given as goal

abbrev pub invariant-loop-run : goal.invariant-loop-run
invariant-loop-run l = IsFlatTo l.connect l.fn.flat l.run-items l.uprights l.run-index l.initial.lying l.lying l.initial.sites.items l.sites.items
