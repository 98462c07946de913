use Rattle.std.proofs.Common.{◌≡◌, take, None}
use Rattle.pdn_script.specs.declared.record.Stripe.{Stripe}
use Rattle.grid_plan.specs.Lengths.{odd}
use Rattle.grid_plan.specs.Order.{first_some, placed}
use Rattle.grid_plan.proofs.lengths.odd_in_stripes.Given as goal

abbrev pub invariant-loop-stripe : goal.invariant-loop-stripe
invariant-loop-stripe l = first_some (λ (s : Stripe). placed s.place (odd l.fn.units s.width)) (take l.stripe-index l.stripes) ≡ None
