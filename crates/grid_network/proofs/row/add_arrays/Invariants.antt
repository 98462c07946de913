use Rattle.std.proofs.Common.{◌≡◌, ◌++◌, List, map}
use Rattle.grid_network.specs.declared.key.Key.{Key}
use Rattle.grid_network.specs.inside.Steps.{TellsNumbers, row_of_segment, arrays_below}
use Rattle.grid_network.proofs.row.add_arrays.Given as goal

abbrev pub invariant-loop-level : goal.invariant-loop-level
invariant-loop-level l = (keys : List Key) → TellsNumbers keys l.nodes.places.now l.nodes.numbers.now → l.rows.items ≡ l.initial.rows.items ++ map (row_of_segment keys) (arrays_below l.stack l.number l.level)
