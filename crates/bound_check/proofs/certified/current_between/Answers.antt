use Rattle.std.proofs.Common.{pos, get_or, ◌-ℤ◌, arith, to_z-of_z, SFits, rules, ◌∙◌}
use mir.Syntax.{w128}
use Rattle.std.proofs.lemmas.Int.{ints}
use Rattle.bound_check.proofs.certified.current_between.Goals as goal

pub returns-clause-least : goal.returns-clause-least
returns-clause-least c =
    let r = c.args.r.now in
    let high = c.args.high.now in
    let low = c.args.low.now in
    let hb = c.requires.high_values r.b c.requires.b_in in
    let la = c.requires.low_values r.a c.requires.a_in in
    let fb : SFits w128 (get_or high r.b (pos 0)) = search rules in
    let fa : SFits w128 (get_or low r.a (pos 0)) = search rules in
    let fo : SFits w128 r.ohms = search rules in
    let fd : SFits w128 (get_or low r.a (pos 0) -ℤ get_or high r.b (pos 0)) = omega (arith, ints, hb, la) in
    let fr : SFits w128 c.div_floor.result = search rules in
    let flow = simp to_z-of_z at c.div_floor.ensures in
    to_z-of_z fr ∙ flow

pub returns-clause-greatest : goal.returns-clause-greatest
returns-clause-greatest c =
    let r = c.args.r.now in
    let high = c.args.high.now in
    let low = c.args.low.now in
    let ha = c.requires.high_values r.a c.requires.a_in in
    let lb = c.requires.low_values r.b c.requires.b_in in
    let fa : SFits w128 (get_or high r.a (pos 0)) = search rules in
    let fb : SFits w128 (get_or low r.b (pos 0)) = search rules in
    let fo : SFits w128 r.ohms = search rules in
    let fd : SFits w128 (get_or high r.a (pos 0) -ℤ get_or low r.b (pos 0)) = omega (arith, ints, ha, lb) in
    let fr : SFits w128 c.div_ceil.result = search rules in
    let flow = simp to_z-of_z at c.div_ceil.ensures in
    to_z-of_z fr ∙ flow
