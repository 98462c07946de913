use Rattle.std.proofs.Common.{◌≡◌, take, None}
use Rattle.grid_plan.specs.Order.{first_place}
use Rattle.grid_plan.specs.Regions.{is_block}
use Rattle.grid_plan.specs.inside.Tables.{names_in}
use Rattle.grid_plan.proofs.regions.first_block_of.Given as goal

abbrev pub invariant-loop-k : goal.invariant-loop-k
invariant-loop-k l = first_place (is_block l.cells (names_in l.tables)) (take l.k l.components) ≡ None
