use Rattle.std.proofs.Common.{◌≡◌, map, take}
use Rattle.pdn_script.specs.declared.record.GridRule.{GridRule}
use Rattle.grid_plan.proofs.tables.grids.Given as goal

abbrev pub invariant-loop-grid : goal.invariant-loop-grid
invariant-loop-grid l = map (λ n. n.now) l.names.items ≡ map (λ (grid : GridRule). grid.name) (take l.grid-index l.script.grids)
