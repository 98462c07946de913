-- The intervals that are printed, in which every solution over the steps lies.
use Rattle.std.proofs.Common.{◌≡◌, ℕ, ◌<◌, ◌≤◌, ℤ, pos, ◌*ℤ◌, ◌≤ℤ◌, arith}
use Rattle.std.proofs.lemmas.Int.{ints}
use Rattle.bound_check.specs.Certified.{LiesWithin, nanovolt}
use Rattle.grid_net.specs.Network.{entry_of}
use Rattle.rounding.specs.Rounding.{floor_div, ceil_div}
use Rattle.rounding.specs.Laws.{times_le, floor_is, ceiling_is}
use Rattle.short_merge.specs.declared.merged.Merged.{Merged}
use Rattle.step_bounds.specs.declared.steps.Steps.{Steps}
use Rattle.step_bounds.specs.StepCertificate.{list_at}
use Rattle.step_bounds.specs.SteppedSolution.{SteppedSolutionsLieBetween}
use Rattle.wave_file.specs.declared.record.Waves.{Waves}
use Rattle.stepping.specs.Inputs.{companions_of}
use Rattle.stepping.specs.Stepped.{LieWithinSteps}

-- What lies between two numbers lies between the multiples of a unit around them.
between_units : (unit q : ℕ) (low high z : ℤ) → 1 ≤ unit → (pos q *ℤ low) ≤ℤ z → z ≤ℤ (pos q *ℤ high) → LiesWithin unit q z (floor_div low (pos unit), ceil_div high (pos unit))
between_units unit q low high z some from to =
    let h : pos 1 ≤ℤ pos unit = omega (arith, ints) in (
      omega (arith, ints, from, times_le (pos q) (pos unit *ℤ floor_div low (pos unit)) low (omega (arith, ints)) (floor_is low (pos unit) h).reached),
      omega (arith, ints, to, times_le (pos q) high (pos unit *ℤ ceil_div high (pos unit)) (omega (arith, ints)) (ceiling_is high (pos unit) h).reaches),
    )

pub within_report : (time steps : ℕ) (merged : Merged) (waves : Waves) (lists : Steps) → SteppedSolutionsLieBetween merged.net (companions_of merged time) waves.changes steps lists.high lists.low → LieWithinSteps time steps merged waves lists
within_report time steps merged waves lists between q p c k l solution t node reached below =
    let both = between q p c k l solution t node reached below in
    between_units nanovolt q (entry_of (list_at lists.low t) node) (entry_of (list_at lists.high t) node) (p t node) (omega arith) both.0 both.1
