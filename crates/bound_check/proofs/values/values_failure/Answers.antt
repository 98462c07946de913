use Rattle.std.proofs.Common.{◌≡◌, ◌∙◌, sym, ℕ, length, subst, pos, get_or, SFits, rules, to_z-of_z}
use mir.Syntax.{w128}
use Rattle.grid_net.specs.Network.{entry_of}
use Rattle.bound_check.specs.Failing.{value_test}
use Rattle.grid_net.specs.Laws.Search.{found_answer}
use Rattle.bound_check.proofs.values.values_failure.Goals as goal

pub returns-then-is_some : goal.returns-then-is_some
returns-then-is_some c =
    let i = c.loop-value.value-index in
    let fh : SFits w128 (get_or c.args.high.now i (pos 0)) = search rules in
    let fl : SFits w128 (get_or c.args.low.now c.loop-value.node (pos 0)) = search rules in
    let at = simp to_z-of_z at c.value_failure-failure.ensures in
    let e = subst (λ (m : ℕ). c.value_failure-failure.result ≡ value_test (λ j. entry_of c.args.high.now i) (entry_of c.args.low.now) m) c.loop-value.invariant.at_node at in
    found_answer (length c.args.high.now) i (value_test (entry_of c.args.high.now) (entry_of c.args.low.now)) c.value_failure-failure.result c.loop-value-test.true c.loop-value.invariant.so_far e (sym c.is_some.ensures ∙ c.if-is_some.true)
