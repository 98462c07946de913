use Rattle.std.proofs.Common.{◌≡◌, drop}
use Rattle.grid_plan.specs.Regions.{first_bare_from}
use Rattle.grid_plan.proofs.regions.first_bare.Given as goal

abbrev pub invariant-loop-k : goal.invariant-loop-k
invariant-loop-k l = first_bare_from l.regions l.boxes l.grids 0 l.regions ≡ first_bare_from l.regions l.boxes l.grids l.k (drop l.k l.regions)
