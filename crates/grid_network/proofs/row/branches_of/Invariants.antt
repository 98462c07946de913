use Rattle.std.proofs.Common.{◌≡◌, map, take}
use Rattle.grid_network.proofs.row.branches_of.Given as goal

abbrev pub invariant-loop-row : goal.invariant-loop-row
invariant-loop-row l = l.branches.items ≡ map (λ r. r.branch) (take l.row-index l.rows)
