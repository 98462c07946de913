use Rattle.std.proofs.Common.{◌∙◌, ap, pos, ◌+ℤ◌, ◌*ℤ◌, arith, to_z-of_z, SFits, rules}
use mir.Syntax.{w128}
use Rattle.std.specs.Int.{int_max}
use Rattle.std.proofs.lemmas.Int.{ints}
use Rattle.step_bounds.proofs.Counted.{max_swaps}
use Rattle.step_bounds.proofs.companion.nearest_ohms.Goals as goal

pub returns : goal.returns
returns c =
    let t = c.args.twice in
    let f = c.args.farads in
    let ff = c.ranges.farads in
    let ft = c.ranges.twice in
    let fs : SFits w128 (t +ℤ f) = omega (arith, ints, c.requires) in
    let fd : SFits w128 (pos 2 *ℤ f) = omega (arith, ints, c.requires) in
    let fr : SFits w128 c.max.result = search rules in
    let fq : SFits w128 c.div_floor-nearest.result = search rules in
    let quotient = simp to_z-of_z at c.div_floor-nearest.ensures in
    let most = simp to_z-of_z at c.max.ensures.value in
    simp to_z-of_z (most ∙ max_swaps c.div_floor-nearest.result (pos 1) ∙ ap (int_max (pos 1)) quotient)
