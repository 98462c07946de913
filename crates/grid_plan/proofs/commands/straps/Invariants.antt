use Rattle.std.proofs.Common.{◌≡◌, map, filter, take, not}
use Rattle.pdn_script.specs.declared.record.Stripe.{Stripe}
use Rattle.grid_plan.specs.Resolved.{straps_of}
use Rattle.grid_plan.specs.inside.Tables.{names_in}
use Rattle.grid_plan.proofs.commands.straps.Given as goal

abbrev pub invariant-loop-stripe : goal.invariant-loop-stripe
invariant-loop-stripe l = l.straps.items ≡ map (straps_of l.tech (names_in l.tables) l.nets l.script l.fn.units) (filter (λ (s : Stripe). not s.followpins) (take l.stripe-index l.script.stripes))
