use Rattle.std.proofs.Common.{pos, get_or}
use Rattle.grid_network.specs.inside.Steps.{Adds}
use Rattle.grid_network.proofs.Growing.{Ranged}
use Rattle.grid_network.proofs.junction.add_ends_on.Given as goal

abbrev pub invariant-loop-i : goal.invariant-loop-i
invariant-loop-i l = Adds (Ranged (λ k. record { piece = l.number; along = (get_or l.spots k (record { net = 0; layer = 0; across = pos 0; along = pos 0 })).along }) l.start l.end l.i) l.initial.places.items l.places.items
