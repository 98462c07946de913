use Rattle.std.proofs.Common.{◌≡◌, take}
use Rattle.grid_cores.specs.Line.{regions_over}
use Rattle.grid_cores.proofs.line.regions_over.Given as goal

abbrev pub invariant-loop-region : goal.invariant-loop-region
invariant-loop-region l = l.over.items ≡ regions_over (take l.region-index l.regions) l.line
