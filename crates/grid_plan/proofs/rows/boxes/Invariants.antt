use Rattle.std.proofs.Common.{◌≡◌, map, take}
use Rattle.grid_plan.specs.Rows.{row_box}
use Rattle.grid_plan.specs.inside.Tables.{names_in}
use Rattle.grid_plan.proofs.rows.boxes.Given as goal

abbrev pub invariant-loop-row : goal.invariant-loop-row
invariant-loop-row l = l.boxes.items ≡ map (row_box l.cells (names_in l.tables) l.design.units) (take l.row-index l.design.rows)
