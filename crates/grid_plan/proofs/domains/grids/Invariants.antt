use Rattle.std.proofs.Common.{◌≡◌, map, take}
use Rattle.grid_plan.specs.Resolved.{grid_at}
use Rattle.grid_plan.specs.inside.Tables.{names_in}
use Rattle.grid_plan.proofs.domains.grids.Given as goal

abbrev pub invariant-loop-grid : goal.invariant-loop-grid
invariant-loop-grid l = l.grids.items ≡ map (grid_at (names_in l.tables)) (take l.grid-index l.script.grids)
