use Rattle.std.proofs.Common.{◌∙◌, ap, ℤ, pos, ◌*◌, ◌^◌, ◌+ℤ◌, ◌*ℤ◌, ◌<ℤ◌, arith, to_z-of_z, SFits, rules}
use mir.Syntax.{w128}
use Rattle.std.specs.Int.{int_max}
use Rattle.std.proofs.lemmas.Int.{ints}
use Rattle.rounding.specs.Rounding.{floor_div}
use Rattle.step_bounds.proofs.Counted.{ohms_small}
use Rattle.step_bounds.proofs.companion.companion_ohms.Goals as goal

pub returns-then-twice-farads : goal.returns-then-twice-farads
returns-then-twice-farads c =
    let ft : SFits w128 c.twice_time-twice.result = search rules in
    let small : pos (2 * (c.args.time * 10 ^ 15)) <ℤ c.args.farads = omega (arith, ints, c.if-twice-farads.true, c.twice_time-twice.ensures) in
    ohms_small (2 * (c.args.time * 10 ^ 15)) c.args.farads small

pub returns : goal.returns
returns c =
    let ft : SFits w128 c.twice_time-twice.result = search rules in
    let ff = c.ranges.farads in
    let fr : SFits w128 c.nearest_ohms.result = search rules in
    let nearest = simp to_z-of_z at c.nearest_ohms.ensures in
    simp to_z-of_z (nearest ∙ ap (λ (z : ℤ). int_max (pos 1) (floor_div (z +ℤ c.args.farads) (pos 2 *ℤ c.args.farads))) c.twice_time-twice.ensures)
