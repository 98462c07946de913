use Rattle.std.proofs.Common.{◌≡◌, ◌++◌, List, map}
use Rattle.grid_network.specs.declared.key.Key.{Key}
use Rattle.grid_network.specs.inside.Steps.{TellsNumbers, row_of_segment, cuts_below}
use Rattle.grid_network.proofs.row.add_stacks.Given as goal

abbrev pub invariant-loop-stack : goal.invariant-loop-stack
invariant-loop-stack l = (l.number ≡ l.stack-index) × ((keys : List Key) → TellsNumbers keys l.nodes.places.now l.nodes.numbers.now → l.rows.items ≡ l.initial.rows.items ++ map (row_of_segment keys) (cuts_below l.stacks l.stack-index))
