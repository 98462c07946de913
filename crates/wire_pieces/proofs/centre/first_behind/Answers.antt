use Rattle.std.proofs.Common.{◌≡◌, true, false, not, get_or, rules}
use Rattle.std.specs.List.Sorted.{IsPartitionPoint}
use Rattle.std.specs.Ordering.{is_gt}
use Rattle.std.proofs.lemmas.List.Sorted.{IsPartitionPoint-from_clause}
use Rattle.grid_pieces.specs.declared.piece.Piece.{Piece}
use Rattle.wire_pieces.specs.inside.Centre.{reach_order}
use Rattle.wire_pieces.proofs.Reach.{by_point, not_true, not_false}
use Rattle.wire_pieces.proofs.centre.first_behind.Goals as goal

parted : (c : goal.After-partition_point) → IsPartitionPoint (λ (p : Piece). not (is_gt (reach_order p c.args.point.now)) ≡ true) (λ (p : Piece). not (is_gt (reach_order p c.args.point.now)) ≡ false) c.args.pieces.now
    c.partition_point.result
parted c =
    IsPartitionPoint-from_clause (λ (p : Piece). not (is_gt (reach_order p c.args.point.now))) c.args.pieces.now c.partition_point.result c.partition_point.ensures.partitioned
    (by_point c.args.pieces.now c.args.point.now c.requires) (λ a r f called. search rules)

pub returns-clause-before : goal.returns-clause-before
returns-clause-before c k d low below = not_true (is_gt (reach_order (get_or c.args.pieces.now k d) c.args.point.now)) ((parted c).0 k d low below)

pub returns-clause-behind : goal.returns-clause-behind
returns-clause-behind c k d low below = not_false (is_gt (reach_order (get_or c.args.pieces.now k d) c.args.point.now)) ((parted c).1 k d low below)
