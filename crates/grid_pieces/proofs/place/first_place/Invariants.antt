use Rattle.grid_pieces.specs.inside.Sweep.{IsSweptTo}
use Rattle.grid_pieces.proofs.place.first_place.Given as goal

abbrev pub invariant-loop-at : goal.invariant-loop-at
invariant-loop-at l = IsSweptTo l.metal l.lying l.first l.at
