use Rattle.std.proofs.Common.{pos, arith, ◌*◌}
use Rattle.std.proofs.lemmas.Int.{ints}
use Rattle.rounding.specs.Laws.{times_le_out}
use Rattle.grid_net.specs.Network.{low_load}
use Rattle.solution_exists.proofs.Plain.{plain, lows_are_drawn}
use Rattle.solution_exists.proofs.Supply.{each_supplied}
use Rattle.solution_exists.proofs.certified.bounds_are_in_order.Goals as goal

pub returns : goal.returns
returns s net high low wf highs lows i l =
    let found = plain net 1 (low_load net) wf (each_supplied net wf high low highs lows) (lows_are_drawn net wf) in
    let q = found.factor * 1 in
    let above = s.maximum_principle.ensures.at_least_low net low q found.potential found.current _ wf lows found.is_solution i l in
    let below = s.maximum_principle.ensures.at_most_high net high q found.potential found.current _ wf highs found.is_solution i l in
    let one = found.is_solution.denominator in
    times_le_out (pos q) (low i) (high i) (omega (arith, ints, one)) (omega (arith, ints, above, below))
