use Rattle.std.proofs.Common.{◌≡◌, take, None}
use Rattle.def_design.specs.declared.record.Row.{Row}
use Rattle.grid_plan.specs.Order.{first_some}
use Rattle.grid_plan.specs.Unknown.{unknown}
use Rattle.grid_plan.proofs.resolve.unknown_site.Given as goal

abbrev pub invariant-loop-row : goal.invariant-loop-row
invariant-loop-row l = first_some (λ (row : Row). unknown l.sites row.site) (take l.row-index l.rows) ≡ None
