use Rattle.std.proofs.Common.{◌≡◌, take, None}
use Rattle.grid_plan.specs.Turned.{first_upended}
use Rattle.grid_plan.specs.inside.Tables.{names_in}
use Rattle.grid_plan.proofs.turned.first_upended.Given as goal

abbrev pub invariant-loop-stripe : goal.invariant-loop-stripe
invariant-loop-stripe l = first_upended l.tech (names_in l.tables) (take l.stripe-index l.stripes) ≡ None
