use Rattle.std.proofs.Common.{◌≡◌, ℕ, ◌<◌, get_or, false, None}
use Rattle.grid_cores.specs.Owner.{owns_place}
use Rattle.grid_cores.proofs.owner.domain_at.Given as goal

abbrev pub invariant-loop-k : goal.invariant-loop-k
invariant-loop-k l = (j : ℕ) → j < l.k → owns_place l.regions (get_or l.regions j None) (l.x, l.y) ≡ false
