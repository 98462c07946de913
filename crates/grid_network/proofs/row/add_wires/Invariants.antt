use Rattle.std.proofs.Common.{◌≡◌, ◌++◌, List, map}
use Rattle.grid_network.specs.declared.key.Key.{Key}
use Rattle.grid_network.specs.Drawing.{key_at}
use Rattle.grid_network.specs.Nodes.{number_of}
use Rattle.grid_network.specs.inside.Steps.{row_of_segment, wires_below}
use Rattle.grid_network.proofs.row.add_wires.Given as goal

abbrev pub invariant-loop-i : goal.invariant-loop-i
invariant-loop-i l = (keys : List Key) → l.ends ≡ map (λ j. number_of keys (key_at l.pieces j.piece j.along)) l.junctions → l.rows.items ≡ l.initial.rows.items ++ map (row_of_segment keys) (wires_below l.layers l.pieces l.junctions l.i)
