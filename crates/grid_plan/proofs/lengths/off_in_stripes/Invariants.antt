use Rattle.std.proofs.Common.{◌≡◌, take, None}
use Rattle.pdn_script.specs.declared.record.Stripe.{Stripe}
use Rattle.grid_plan.specs.Lengths.{first_off, stripe_lengths}
use Rattle.grid_plan.specs.Order.{first_some, placed}
use Rattle.grid_plan.proofs.lengths.off_in_stripes.Given as goal

abbrev pub invariant-loop-stripe : goal.invariant-loop-stripe
invariant-loop-stripe l = first_some (λ (s : Stripe). placed s.place (first_off l.fn.units (stripe_lengths s))) (take l.stripe-index l.stripes) ≡ None
