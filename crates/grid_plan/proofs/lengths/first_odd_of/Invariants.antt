use Rattle.std.proofs.Common.{◌≡◌, take, None}
use Rattle.grid_plan.specs.Lengths.{odd}
use Rattle.grid_plan.specs.Order.{first_some}
use Rattle.grid_plan.proofs.lengths.first_odd_of.Given as goal

abbrev pub invariant-loop-width : goal.invariant-loop-width
invariant-loop-width l = first_some (odd l.fn.units) (take l.width-index l.widths) ≡ None
