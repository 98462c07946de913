use Rattle.grid_network.proofs.Assembled.{ranged}
use Rattle.grid_network.proofs.extraction.net_of.Goals as goal

pub build-requires : goal.build-requires
build-requires c = record {
  ranges = ranged c.args.pieces.now c.requires.told.0 c.args.taps.now c.in_ok-loads.loads.items c.requires.ranges (c.in_ok-loads.ensures c.requires.told.0 c.requires.told.1);
}
