use Rattle.std.proofs.Common.{◌≡◌, map, filter, take}
use Rattle.pdn_script.specs.declared.record.Stripe.{Stripe}
use Rattle.grid_plan.specs.Resolved.{rails_of}
use Rattle.grid_plan.specs.inside.Tables.{names_in}
use Rattle.grid_plan.proofs.commands.rails.Given as goal

abbrev pub invariant-loop-stripe : goal.invariant-loop-stripe
invariant-loop-stripe l = l.rails.items ≡ map (rails_of l.tech (names_in l.tables) l.fn.units) (filter (λ (s : Stripe). s.followpins) (take l.stripe-index l.script.stripes))
