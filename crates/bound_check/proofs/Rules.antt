-- What the sums around a node need of a rounding rule, whichever way it rounds.
use Rattle.std.proofs.Common.{◌≡◌, ℕ, ◌+◌, ℤ, pos, neg_ℤ, ◌≤ℤ◌}
use Rattle.rounding.specs.declared.Round.{Round}
use Rattle.rounding.specs.declared.Round.TheVariants.{Down, Up}
use Rattle.rounding.specs.Rounding.{quotient}
use Rattle.grid_net.specs.Limits.{IsInLimit}
use Rattle.grid_net.specs.Laws.Flows.{floor_nothing, floor_turned, ceiling_nothing, ceiling_turned}

-- Without a difference there is no flow.
pub nothing : (round : Round) (r : ℤ) → pos 1 ≤ℤ r → quotient round (pos 0) r ≡ pos 0
nothing Down r h = floor_nothing r h
nothing Up r h = ceiling_nothing r h

-- The flow from the other end of a resistor is as far from 0, or one unit farther.
pub turned : (round : Round) (limit : ℕ) (z r : ℤ) → pos 1 ≤ℤ r → IsInLimit limit (quotient round z r) → IsInLimit (limit + 1) (quotient round (neg_ℤ z) r)
turned Down limit z r h within = floor_turned limit z r h within
turned Up limit z r h within = ceiling_turned limit z r h within
