use Rattle.std.proofs.Common.{pos, get_or, ◌-ℤ◌, arith, to_z-of_z, SFits, rules}
use mir.Syntax.{w128}
use Rattle.std.proofs.lemmas.Int.{ints}
use Rattle.bound_check.proofs.flows.flow_failure.Goals as goal

pub returns : goal.returns
returns c =
    let a = c.args.r.now.a in
    let b = c.args.r.now.b in
    let high = c.args.high.now in
    let low = c.args.low.now in
    let ha = c.requires.high_values a (pos 0) c.requires.ends.a_is_node in
    let hb = c.requires.high_values b (pos 0) c.requires.ends.b_is_node in
    let la = c.requires.low_values a (pos 0) (omega (arith, c.requires.ends.a_is_node, c.requires.same)) in
    let lb = c.requires.low_values b (pos 0) (omega (arith, c.requires.ends.b_is_node, c.requires.same)) in
    let fha : SFits w128 (get_or high a (pos 0)) = search rules in
    let fhb : SFits w128 (get_or high b (pos 0)) = search rules in
    let fla : SFits w128 (get_or low a (pos 0)) = search rules in
    let flb : SFits w128 (get_or low b (pos 0)) = search rules in
    let fo : SFits w128 c.args.r.now.ohms = search rules in
    let fu : SFits w128 (get_or high a (pos 0) -ℤ get_or high b (pos 0)) = omega (arith, ints, ha, hb) in
    let fd : SFits w128 (get_or low a (pos 0) -ℤ get_or low b (pos 0)) = omega (arith, ints, la, lb) in
    simp to_z-of_z at c.difference_failure.ensures
