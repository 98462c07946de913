use Rattle.std.proofs.Common.{◌≡◌, take, None}
use Rattle.grid_plan.specs.Order.{first_some}
use Rattle.grid_plan.specs.Unknown.{unknown}
use Rattle.grid_plan.proofs.resolve.first_unknown_of.Given as goal

abbrev pub invariant-loop-name : goal.invariant-loop-name
invariant-loop-name l = first_some (unknown l.names) (take l.name-index l.stated) ≡ None
