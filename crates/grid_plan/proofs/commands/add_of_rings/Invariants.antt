use Rattle.std.proofs.Common.{◌≡◌, ◌++◌, take}
use Rattle.grid_plan.specs.Planning.{added_in}
use Rattle.grid_plan.specs.inside.Tables.{names_in}
use Rattle.grid_plan.proofs.commands.add_of_rings.Given as goal

abbrev pub invariant-loop-ring : goal.invariant-loop-ring
invariant-loop-ring l = l.placed.items ≡ l.initial.placed.items ++ added_in (names_in l.tables) (take l.ring-index l.rings)
