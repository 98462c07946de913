use Rattle.std.proofs.Common.{◌≡◌, map, take}
use Rattle.grid_network.proofs.row.resistors_of.Given as goal

abbrev pub invariant-loop-row : goal.invariant-loop-row
invariant-loop-row l = l.resistors.items ≡ map (λ r. record { a = r.a; b = r.b; ohms = r.ohms }) (take l.row-index l.rows)
