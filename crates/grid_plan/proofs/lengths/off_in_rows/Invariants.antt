use Rattle.std.proofs.Common.{◌≡◌, take, None}
use Rattle.def_design.specs.declared.record.Row.{Row}
use Rattle.grid_plan.specs.Lengths.{first_off, row_lengths}
use Rattle.grid_plan.specs.Order.{first_some}
use Rattle.grid_plan.specs.inside.Tables.{names_in}
use Rattle.grid_plan.proofs.lengths.off_in_rows.Given as goal

abbrev pub invariant-loop-row : goal.invariant-loop-row
invariant-loop-row l = first_some (λ (row : Row). first_off l.fn.units (row_lengths l.cells (names_in l.tables) row)) (take l.row-index l.rows) ≡ None
