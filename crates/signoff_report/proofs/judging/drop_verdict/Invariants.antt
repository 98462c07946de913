use Rattle.std.proofs.Common.{◌≡◌, Bool, false, not, ◌&&◌, ◌||◌}
use Rattle.signoff_report.specs.Judged.{some_below, each_below, is_of_net, is_safe, is_unsafe, node_verdict}
use Rattle.signoff_report.proofs.judging.drop_verdict.Given as goal

-- No node of the net before this one is unsafe, and the flag says whether each of them is safe.
abbrev pub invariant-loop-node : goal.invariant-loop-node
invariant-loop-node l = record {
  none_unsafe : some_below l.node (λ node. is_of_net l.limits l.net node && is_unsafe (node_verdict l.certified node l.supply l.drop)) ≡ false;
  flag : l.each_keeps ≡ each_below l.node (λ node. not (is_of_net l.limits l.net node) || is_safe (node_verdict l.certified node l.supply l.drop));
}
