use Rattle.std.proofs.Common.{rules}
use Rattle.std.specs.Ordering.{is_lt}
use Rattle.std.proofs.lemmas.List.Sorted.{IsPartitionPoint-from_clause}
use Rattle.grid_network.specs.inside.Steps.{spot_cmp}
use Rattle.grid_network.proofs.Spots.{parted}
use Rattle.grid_network.proofs.junction.count_before.Goals as goal

pub returns-clause-before : goal.returns-clause-before
returns-clause-before c =
    (IsPartitionPoint-from_clause (λ s. is_lt (spot_cmp s c.args.limit)) c.args.spots.now c.partition_point.result c.partition_point.ensures.partitioned (parted c.args.limit c.args.spots.now c.requires) (λ a r q k. search rules)).0

pub returns-clause-behind : goal.returns-clause-behind
returns-clause-behind c =
    (IsPartitionPoint-from_clause (λ s. is_lt (spot_cmp s c.args.limit)) c.args.spots.now c.partition_point.result c.partition_point.ensures.partitioned (parted c.args.limit c.args.spots.now c.requires) (λ a r q k. search rules)).1
