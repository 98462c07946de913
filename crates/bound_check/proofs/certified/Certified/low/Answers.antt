use Rattle.std.proofs.Common.{subst}
use Rattle.grid_net.specs.Network.{IsNetwork}
use Rattle.bound_check.specs.Certified.{Certificate, IsKept}
use Rattle.bound_check.proofs.Kept.{at_least_low, gap}
use Rattle.bound_check.proofs.certified.Certified.low.Goals as goal

pub returns-clause-bounds : goal.returns-clause-bounds
returns-clause-bounds c =
    let kept = subst IsKept c.self.view_is c.self.invariant in
    let wf = subst (λ (v : Certificate). IsNetwork v.net) c.self.view_is c.nodes-nodes.ensures.built.is_network in
    at_least_low c.args.self.now kept wf

pub returns-clause-width : goal.returns-clause-width
returns-clause-width c =
    let kept = subst IsKept c.self.view_is c.self.invariant in
    let wf = subst (λ (v : Certificate). IsNetwork v.net) c.self.view_is c.nodes-nodes.ensures.built.is_network in
    gap c.args.self.now kept wf
