use Rattle.std.proofs.Common.{◌≡◌}
use Rattle.grid_network.specs.inside.Steps.{Adds, IsEndBelow}
use Rattle.grid_network.proofs.junction.add_ends.Given as goal

abbrev pub invariant-loop-piece : goal.invariant-loop-piece
invariant-loop-piece l = (l.number ≡ l.piece-index) × Adds (IsEndBelow l.stacks l.pieces l.piece-index) l.initial.places.items l.places.items
