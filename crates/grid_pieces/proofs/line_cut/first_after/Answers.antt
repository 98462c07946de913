use Rattle.std.proofs.Common.{◌≡◌, true, false, get_or, arith, rules}
use Rattle.std.specs.Int.Signed.{le_z}
use Rattle.std.specs.List.Sorted.{IsPartitionPoint}
use Rattle.std.proofs.lemmas.Int.{ints}
use Rattle.std.proofs.lemmas.List.Sorted.{IsPartitionPoint-from_clause}
use Rattle.geom_rect.specs.declared.run.Run.{Run}
use Rattle.grid_pieces.proofs.OneLine.{partitioned}
use Rattle.grid_pieces.proofs.line_cut.first_after.Goals as goal

point : (c : goal.After-partition_point) → IsPartitionPoint (λ (r : Run). le_z r.to c.args.from ≡ true) (λ (r : Run). le_z r.to c.args.from ≡ false) c.args.runs.now c.partition_point.result
point c =
    IsPartitionPoint-from_clause (λ (r : Run). le_z r.to c.args.from) c.args.runs.now c.partition_point.result c.partition_point.ensures.partitioned
    (partitioned c.args.runs.now c.args.from c.requires) (λ a r f called. search rules)

pub returns-clause-passed : goal.returns-clause-passed
returns-clause-passed c k d low below = let h : le_z (get_or c.args.runs.now k d).to c.args.from ≡ true = (point c).0 k d low below in omega (arith, ints)

pub returns-clause-behind : goal.returns-clause-behind
returns-clause-behind c k d low below = let h : le_z (get_or c.args.runs.now k d).to c.args.from ≡ false = (point c).1 k d low below in omega (arith, ints)
