use Rattle.std.proofs.Common.{◌-ℤ◌, arith, pos, negsuc, to_z-of_z, SFits, rules}
use mir.Syntax.{w128}
use Rattle.std.proofs.lemmas.Int.{ints, clamps}
use Rattle.bound_check.proofs.tight.free_excess.Goals as goal

pub returns : goal.returns
returns c =
    let sums = c.node_sums-sums.result in
    let high_within = c.node_sums-sums.ensures.high_within in
    let low_within = c.node_sums-sums.ensures.low_within in
    let fh : SFits w128 sums.high = omega (arith, ints, high_within) in
    let fl : SFits w128 sums.low = omega (arith, ints, low_within) in
    let above : SFits w128 (sums.high -ℤ pos 1) = omega (arith, ints, high_within) in
    let below : SFits w128 (negsuc 0 -ℤ sums.low) = omega (arith, ints, low_within) in
    let fr : SFits w128 c.max.result = search rules in
    let value = simp to_z-of_z at c.max.ensures.value in
    omega (arith, ints, clamps, value, c.node_sums-sums.ensures.high, c.node_sums-sums.ensures.low)
