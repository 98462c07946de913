use Rattle.std.proofs.Common.{◌∙◌, sym, arith, ℕ, ◌<◌}
use Rattle.grid_net.specs.Network.{entry_of, pad_at}
use Rattle.bound_check.specs.Failing.{sum_test}
use Rattle.grid_net.specs.Laws.Search.{found_answer}
use Rattle.bound_check.proofs.by_resistor.sums_failure.Goals as goal

pub returns-then-is_some : goal.returns-then-is_some
returns-then-is_some c =
    let net = c.args.net.now in
    let test = λ (i : ℕ). sum_test net (entry_of c.args.high.now) (entry_of c.args.low.now) i (pad_at net i) in
    let here : c.loop-node.node < net.nodes = omega (arith, c.nodes-node-end.ensures.nodes, c.loop-node-test.true) in
    found_answer net.nodes c.loop-node.node test c.sum_failure-failure.result here c.loop-node.invariant.so_far c.sum_failure-failure.ensures (sym c.is_some.ensures ∙ c.if-is_some.true)
