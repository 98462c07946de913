use Rattle.std.proofs.Common.{◌≡◌, take, None}
use Rattle.def_design.specs.declared.record.Component.{Component}
use Rattle.grid_plan.specs.Order.{first_some}
use Rattle.grid_plan.specs.Unknown.{unknown}
use Rattle.grid_plan.proofs.resolve.unknown_cell.Given as goal

abbrev pub invariant-loop-component : goal.invariant-loop-component
invariant-loop-component l = first_some (λ (c : Component). unknown l.macros c.cell) (take l.component-index l.components) ≡ None
