use Rattle.std.proofs.Common.{◌-◌, ◌≤◌}
use Rattle.via_arrays.specs.inside.Stacks.{ArePairs}
use Rattle.via_arrays.proofs.stacks.stack.Given as goal

abbrev pub invariant-loop-layer : goal.invariant-loop-layer
invariant-loop-layer l = record {
  upto : l.layer ≤ l.to;
  pairs : ArePairs l.tech l.crossing l.units l.max_columns l.max_rows l.from (l.layer - l.from) l.arrays.items l.ohms.items;
}
