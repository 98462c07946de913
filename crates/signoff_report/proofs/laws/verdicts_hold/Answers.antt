use Rattle.std.proofs.Common.{◌≡◌, ℕ, ℤ, Option, Some, sym, ap, ◌∙◌, subst}
use Rattle.grid_net.specs.Network.{Network, IsNetwork}
use Rattle.bound_check.specs.Certified.{Certificate}
use Rattle.em_rules.specs.declared.words.Verdict.{Verdict}
use Rattle.signoff_report.specs.Limits.{net_at, branch_at}
use Rattle.signoff_report.specs.Judged.{verdict_of_drop}
use Rattle.signoff_report.proofs.Solved.{AreBounds, EndsTell, voltage_within, current_within, safe_branch, unsafe_branch, safe_net, unsafe_net}
use Rattle.signoff_report.proofs.laws.verdicts_hold.Goals as goal

abbrev bounds_at : goal.After-ends_tell → Type 0
bounds_at c = AreBounds c.args.certified.now

bounds : (c : goal.After-ends_tell) → bounds_at c
bounds c = record {
  high = c.high-high.ensures.bounds;
  low = c.low-low.ensures.bounds;
  well_formed = subst (λ (net : Network). IsNetwork net) c.net.ensures c.nodes-nodes.ensures.built.is_network;
}

tell : goal.After-ends_tell → EndsTell
tell c = record { safe = c.ends_tell.ensures.safe; not_safe = c.ends_tell.ensures.not_safe }

pub returns-clause-voltages : goal.returns-clause-voltages
returns-clause-voltages c = λ q p cs drawn sol node l. voltage_within c.args.certified.now (bounds c) q p cs drawn sol node l

pub returns-clause-currents : goal.returns-clause-currents
returns-clause-currents c = λ q p cs drawn sol k l. current_within c.args.certified.now (bounds c) q p cs drawn sol k l

pub returns-clause-safe_branches : goal.returns-clause-safe_branches
returns-clause-safe_branches c = λ k limit l e safe q p cs drawn sol.
    safe_branch c.args.certified.now (bounds c) q p cs drawn sol (tell c) k limit (branch_at c.args.certified.now c.args.limits.now k).1 l e safe

pub returns-clause-unsafe_branches : goal.returns-clause-unsafe_branches
returns-clause-unsafe_branches c = λ k limit l e safe q p cs drawn sol.
    unsafe_branch c.args.certified.now (bounds c) q p cs drawn sol (tell c) k limit (branch_at c.args.certified.now c.args.limits.now k).1 l e safe

pub returns-clause-safe_nets : goal.returns-clause-safe_nets
returns-clause-safe_nets c = λ k drop l e safe q p cs drawn sol.
    let limits = c.args.limits.now in
    let net = net_at limits k in
    let at = ap (λ (o : Option ℤ). verdict_of_drop c.args.certified.now limits k net.supply o) (sym e) ∙ safe in
    safe_net c.args.certified.now (bounds c) q p cs drawn sol (tell c) limits k net.supply drop at

pub returns-clause-unsafe_nets : goal.returns-clause-unsafe_nets
returns-clause-unsafe_nets c = λ k drop l e safe q p cs drawn sol.
    let limits = c.args.limits.now in
    let net = net_at limits k in
    let at = ap (λ (o : Option ℤ). verdict_of_drop c.args.certified.now limits k net.supply o) (sym e) ∙ safe in
    unsafe_net c.args.certified.now (bounds c) q p cs drawn sol (tell c) limits k net.supply drop at
