use Rattle.std.proofs.Common.{◌≡◌, subst, to_z, of_z, pos, arith}
use Rattle.std.proofs.lemmas.Grind.{common_steps}
use mir.Syntax.{w128}
use Rattle.rounding.specs.Rounding.{floor_div, ceil_div}
use Rattle.grid_net.specs.Network.{IsNetwork, entry_of}
use Rattle.bound_check.specs.Certified.{Certificate, IsKept, nanovolt}
use Rattle.bound_check.proofs.Kept.{voltage_bounds, voltage_width}
use Rattle.bound_check.proofs.certified.Certified.voltage.Goals as goal

pub returns-clause-bounds : goal.returns-clause-bounds
returns-clause-bounds c =
    let kept = subst IsKept c.self.view_is c.self.invariant in
    let wf = subst (λ (v : Certificate). IsNetwork v.net) c.self.view_is c.nodes-nodes.ensures.built.is_network in
    let from = to_z w128 (of_z w128 c.div_floor-low.result) in
    let to = to_z w128 (of_z w128 c.div_ceil-high.result) in
    let is_from : from ≡ floor_div (entry_of c.args.self.now.low c.args.node) (pos nanovolt) = grind (arith, common_steps) in
    let is_to : to ≡ ceil_div (entry_of c.args.self.now.high c.args.node) (pos nanovolt) = grind (arith, common_steps) in
    voltage_bounds c.args.self.now kept wf c.args.node c.requires from to is_from is_to

pub returns-clause-width : goal.returns-clause-width
returns-clause-width c =
    let kept = subst IsKept c.self.view_is c.self.invariant in
    let wf = subst (λ (v : Certificate). IsNetwork v.net) c.self.view_is c.nodes-nodes.ensures.built.is_network in
    let from = to_z w128 (of_z w128 c.div_floor-low.result) in
    let to = to_z w128 (of_z w128 c.div_ceil-high.result) in
    let is_from : from ≡ floor_div (entry_of c.args.self.now.low c.args.node) (pos nanovolt) = grind (arith, common_steps) in
    let is_to : to ≡ ceil_div (entry_of c.args.self.now.high c.args.node) (pos nanovolt) = grind (arith, common_steps) in
    voltage_width c.args.self.now kept wf c.args.node c.requires from to is_from is_to
