use Rattle.std.proofs.Common.{◌≡◌, ◌++◌, take}
use Rattle.grid_plan.specs.Planning.{stated_in}
use Rattle.grid_plan.specs.inside.Tables.{names_in}
use Rattle.grid_plan.proofs.commands.add_stated.Given as goal

abbrev pub invariant-loop-connect : goal.invariant-loop-connect
invariant-loop-connect l = l.placed.items ≡ l.initial.placed.items ++ stated_in (names_in l.tables) (take l.connect-index l.connects)
