use Rattle.std.proofs.Common.{◌≡◌, ◌++◌, drop}
use Rattle.grid_shapes.specs.Site.{others_from}
use Rattle.grid_shapes.proofs.shaping.others.Given as goal

abbrev pub invariant-loop-place : goal.invariant-loop-place
invariant-loop-place l = l.others.items ++ others_from l.place l.domain (drop l.place l.regions) ≡ others_from 0 l.domain l.regions
