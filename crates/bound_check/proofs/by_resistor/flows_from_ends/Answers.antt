use Rattle.std.proofs.Common.{◌≡◌, ◌∙◌, ◌^◌, ◌*◌, ◌-ℤ◌, pos, neg_ℤ, ap, sym, arith, to_z-of_z, SFits, ℤ}
use mir.Syntax.{w128}
use Rattle.std.proofs.lemmas.Int.{ints}
use Rattle.rounding.specs.declared.Round.{Round}
use Rattle.rounding.specs.Rounding.{quotient}
use Rattle.rounding.specs.Laws.{floor_in_limit}
use Rattle.bound_check.proofs.Adding.{up_from_b, down_from_b}
use Rattle.bound_check.proofs.by_resistor.flows_from_ends.Goals as goal

pub returns-in-Down : goal.returns-in-Down
returns-in-Down c =
    let z = c.args.difference in
    let r = c.args.ohms in
    let fz = c.ranges.difference in
    let fr = c.ranges.ohms in
    let down = simp to_z-of_z at c.floor_of-down.ensures in
    let up = simp to_z-of_z at c.rounded_up-up.ensures.value in
    let limit = floor_in_limit z r (2 * 10 ^ 37) c.requires.resists c.requires.difference.0 c.requires.difference.1 in
    let within = c.rounded_up-up.ensures.within in
    let fd : SFits w128 c.floor_of-down.result = omega (arith, ints, limit, down) in
    let fu : SFits w128 c.rounded_up-up.result = omega (arith, ints, within) in
    let turn : pos 0 -ℤ c.rounded_up-up.result ≡ neg_ℤ c.rounded_up-up.result = omega (arith, ints) in
    let fn : SFits w128 (pos 0 -ℤ c.rounded_up-up.result) = omega (arith, ints, within) in
    let round = λ (y : ℤ). ap (λ (d : Round). quotient d y r) (sym c.in-Down.is) in
    simp to_z-of_z (record {
      from_a = down ∙ round z;
      from_b = turn ∙ ap neg_ℤ up ∙ up_from_b z r ∙ round (neg_ℤ z);
      a_within = (omega (arith, ints, limit, down), omega (arith, ints, limit, down));
      b_within = (omega (arith, ints, within), omega (arith, ints, within));
    })

pub returns-in-Up : goal.returns-in-Up
returns-in-Up c =
    let z = c.args.difference in
    let r = c.args.ohms in
    let fz = c.ranges.difference in
    let fr = c.ranges.ohms in
    let down = simp to_z-of_z at c.floor_of-down.ensures in
    let up = simp to_z-of_z at c.rounded_up-up.ensures.value in
    let limit = floor_in_limit z r (2 * 10 ^ 37) c.requires.resists c.requires.difference.0 c.requires.difference.1 in
    let within = c.rounded_up-up.ensures.within in
    let fd : SFits w128 c.floor_of-down.result = omega (arith, ints, limit, down) in
    let fu : SFits w128 c.rounded_up-up.result = omega (arith, ints, within) in
    let turn : pos 0 -ℤ c.floor_of-down.result ≡ neg_ℤ c.floor_of-down.result = omega (arith, ints) in
    let fn : SFits w128 (pos 0 -ℤ c.floor_of-down.result) = omega (arith, ints, limit, down) in
    let round = λ (y : ℤ). ap (λ (d : Round). quotient d y r) (sym c.in-Up.is) in
    simp to_z-of_z (record {
      from_a = up ∙ round z;
      from_b = turn ∙ ap neg_ℤ down ∙ down_from_b z r ∙ round (neg_ℤ z);
      a_within = (omega (arith, ints, within), omega (arith, ints, within));
      b_within = (omega (arith, ints, limit, down), omega (arith, ints, limit, down));
    })
