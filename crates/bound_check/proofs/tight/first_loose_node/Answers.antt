use Rattle.std.proofs.Common.{◌∙◌, sym, arith, ◌<◌}
use Rattle.grid_net.specs.Network.{entry_of}
use Rattle.grid_net.specs.Laws.Search.{found_answer}
use Rattle.bound_check.specs.Loose.{loose_test}
use Rattle.bound_check.proofs.tight.first_loose_node.Goals as goal

pub returns-then-is_some : goal.returns-then-is_some
returns-then-is_some c =
    let net = c.args.net.now in
    let here : c.loop-node.node < net.nodes = omega (arith, c.nodes-node-end.ensures.nodes, c.loop-node-test.true) in
    found_answer net.nodes c.loop-node.node (loose_test net (entry_of c.args.high.now) (entry_of c.args.low.now)) c.loose_node-loose.result here c.loop-node.invariant.so_far c.loose_node-loose.ensures (sym c.is_some.ensures ∙ c.if-is_some.true)
