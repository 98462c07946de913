use Rattle.grid_stacks.specs.inside.Standing.{IsAllTo}
use Rattle.grid_stacks.proofs.crossed.cross_all.Given as goal

abbrev pub invariant-loop-flat : goal.invariant-loop-flat
invariant-loop-flat l = IsAllTo l.connect l.inner l.flats l.uprights l.starts l.flat-index l.next l.lying l.initial.sites.items l.sites.items
