use Rattle.std.proofs.Common.{◌≡◌, ◌<◌, ◌≢◌, ℕ, List, get_or, slice_index, ◌==◌, Bool, true, false, not, ◌&&◌, ◌||◌, refl, sym, ap, ◌∙◌, SFits, to_z-of_z, rules, arith}
use mir.Syntax.{w128}
use Rattle.std.proofs.lemmas.Grind.{common_steps}
use Rattle.em_rules.specs.declared.words.Verdict.{Verdict}
use Rattle.em_rules.specs.declared.words.Verdict.TheVariants.{Safe, Unsafe}
use Rattle.grid_net.specs.Network.{Network}
use Rattle.signoff_report.specs.Judged.{some_below, each_below, is_of_net, is_safe, is_unsafe, node_verdict}
use Rattle.signoff_report.proofs.Nets.{none_more, each_same, each_not, silent, elsewhere, content, not_concerned, concerned, fails_here, unless_safe, unless_unsafe, is_unsafe_net, of_net, not_of_net}
use Rattle.signoff_report.proofs.judging.drop_verdict.Goals as goal
use Rattle.signoff_report.proofs.judging.drop_verdict.Goals.{then-net_of-node+in-Safe, then-net_of-node+in_default, else-net_of-node}

pub returns-in-Unsafe : goal.returns-in-Unsafe
returns-in-Unsafe c =
    let of_this = of_net c.as_slice-net_of.result.now c.args.limits.now.net_of c.loop-node.node c.args.net c.as_slice-net_of.ensures c.if-net_of-node.true in
    let nodes = c.nodes-node-end.ensures.nodes in
    let same = ap (λ (net : Network). net.nodes) c.net.ensures in
    let within : c.loop-node.node < c.args.certified.now.net.nodes = omega (arith, nodes, same, c.loop-node-test.true) in
    let f : SFits w128 c.args.supply = search rules in
    let g : SFits w128 c.args.drop = search rules in
    let told = simp to_z-of_z at c.node_verdict.ensures in
    is_unsafe_net c.args.certified.now.net.nodes
    (λ node. is_of_net c.args.limits.now c.args.net node && is_unsafe (node_verdict c.args.certified.now node c.args.supply c.args.drop))
    (λ node. not (is_of_net c.args.limits.now c.args.net node) || is_safe (node_verdict c.args.certified.now node c.args.supply c.args.drop))
    c.loop-node.node within (fails_here (is_of_net c.args.limits.now c.args.net c.loop-node.node) (node_verdict c.args.certified.now c.loop-node.node c.args.supply c.args.drop) of_this (ap is_unsafe (sym told ∙ c.in-Unsafe.is)))

pub loop-node-preserved : goal.loop-node-preserved
loop-node-preserved c =
    let xs : List ℕ = c.as_slice-net_of.result.now in
    let ys : List ℕ = c.args.limits.now.net_of in
    let node = c.loop-node.node in
    elim c.if-net_of-node.branch [
      | then-net_of-node+in-Safe w ↦ record {
        none_unsafe = none_more node _ c.loop-node.invariant.none_unsafe (silent _ _ _ (sym w.node_verdict.ensures ∙ w.in-Safe.is) refl);
        flag = w.each_keeps-is ∙ (c.loop-node.invariant.flag ∙ sym (each_same node _ (content _ _ _ (sym w.node_verdict.ensures ∙ w.in-Safe.is) refl)));
      }
      | then-net_of-node+in_default w ↦
          let of_this = of_net xs ys node c.args.net c.as_slice-net_of.ensures w.if-net_of-node.true in record {
            none_unsafe = none_more node _ c.loop-node.invariant.none_unsafe (silent _ _ _ (sym w.node_verdict.ensures) (unless_unsafe w.node_verdict.result w.in_default.not-Unsafe));
            flag = w.each_keeps-is ∙ sym (each_not node _ (concerned _ _ of_this (ap is_safe (sym w.node_verdict.ensures) ∙ unless_safe w.node_verdict.result w.in_default.not-Safe)));
          }
      | else-net_of-node w ↦
          let of_other = not_of_net xs ys node c.args.net c.as_slice-net_of.ensures w.if-net_of-node.false in record {
            none_unsafe = none_more node _ c.loop-node.invariant.none_unsafe (elsewhere _ _ of_other);
            flag = w.each_keeps-is ∙ (c.loop-node.invariant.flag ∙ sym (each_same node _ (not_concerned _ _ of_other)));
          }
    ]
