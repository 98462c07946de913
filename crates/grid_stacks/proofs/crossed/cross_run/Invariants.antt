use Rattle.std.proofs.Common.{◌-◌, length}
use Rattle.grid_stacks.specs.inside.Standing.{IsRunTo}
use Rattle.grid_stacks.proofs.crossed.cross_run.Given as goal

abbrev pub invariant-loop-place : goal.invariant-loop-place
invariant-loop-place l = IsRunTo l.connect l.fn.flat l.fn.run l.uprights l.from l.initial.lying l.lying l.initial.sites.items l.sites.items

abbrev pub decreases-loop-place : goal.decreases-loop-place
decreases-loop-place l = length l.uprights - l.from
