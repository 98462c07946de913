use Rattle.std.specs.BTreeMap.{btree_map_len}
use Rattle.grid_pieces.specs.inside.Sweep.{IsSweptTo}
use Rattle.grid_pieces.proofs.place.close.Given as goal

abbrev pub invariant-loop-edge : goal.invariant-loop-edge
invariant-loop-edge l = IsSweptTo l.metal l.lying l.first l.at

abbrev pub decreases-loop-edge : goal.decreases-loop-edge
decreases-loop-edge l = btree_map_len l.lying
