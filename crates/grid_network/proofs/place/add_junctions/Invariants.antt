use Rattle.std.proofs.Common.{take}
use Rattle.grid_network.specs.inside.Steps.{Adds, IsAtJunction}
use Rattle.grid_network.proofs.place.add_junctions.Given as goal

abbrev pub invariant-loop-junction : goal.invariant-loop-junction
invariant-loop-junction l = Adds (IsAtJunction l.pieces (take l.junction-index l.junctions)) l.initial.keys.items l.keys.items
