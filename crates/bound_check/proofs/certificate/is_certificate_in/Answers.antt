use Rattle.std.proofs.Common.{◌≡◌, ◌∙◌, refl, sym, Option, Some, None}
use Rattle.bound_check.specs.declared.fails.Fails.{Fails}
use Rattle.grid_net.specs.Network.{entry_of}
use Rattle.bound_check.proofs.Failing.{passes_from_none, none_from_passes}
use Rattle.bound_check.proofs.Refused.{rounds_named}
use Rattle.bound_check.proofs.Principle.{solution_at_most_high, solution_at_least_low}
use Rattle.bound_check.proofs.certificate.is_certificate_in.Goals as goal

pub returns-in-None-clause-bounds : goal.returns-in-None-clause-bounds
returns-in-None-clause-bounds c = λ _ q p c' drawn sol i l.
    let net = c.args.net.now in
    let passes = passes_from_none net c.args.high.now c.args.low.now (sym c.in-None.ensures) in
    let wf = c.nodes-nodes.ensures.built.is_network in
    (solution_at_least_low net q p c' drawn (entry_of c.args.low.now) wf sol passes.low_half.holds i l, solution_at_most_high net q p c' drawn (entry_of c.args.high.now) wf sol passes.high_half.holds i l)

pub returns-in-None-clause-ok : goal.returns-in-None-clause-ok
returns-in-None-clause-ok c = (λ _. passes_from_none c.args.net.now c.args.high.now c.args.low.now (sym c.in-None.ensures), λ _. refl)

pub returns-in-Some-clause-ok : goal.returns-in-Some-clause-ok
returns-in-Some-clause-ok c = (
  λ e. cc,
  λ cert. absurd (let none : ◌≡◌ {A = Option Fails} (Some c.in-Some.fails) None = c.in-Some.ensures ∙ none_from_passes c.args.net.now c.args.high.now c.args.low.now cert in cc),
)

pub returns-in-Some-clause-fails : goal.returns-in-Some-clause-fails
returns-in-Some-clause-fails c = rounds_named c.args.net.now (entry_of c.args.high.now) (entry_of c.args.low.now) c.in-Some.fails (sym c.in-Some.ensures)
