use Rattle.std.proofs.Common.{below_more}
use Rattle.grid_net.proofs.network.Net.supply.Goals as goal

pub loop-node-preserved : goal.loop-node-preserved
loop-node-preserved c = record {
  so_far = below_more _ _ c.loop-node.invariant.so_far (c.is_supplied.ensures.yes c.if-not-is_supplied.false);
}
