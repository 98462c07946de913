use Rattle.std.proofs.Common.{◌≡◌, ◌∙◌, ◌*◌, ◌≤◌, ◌^◌, pos, ◌*ℤ◌, ◌+ℤ◌, sym, ap, arith, SFits, length}
use mir.Syntax.{w128}
use Rattle.std.proofs.lemmas.Int.{ints}
use Rattle.grid_net.specs.Network.{degree}
use Rattle.grid_net.specs.Laws.Flows.{degree_from, degree_at_most}
use Rattle.bound_check.proofs.tight.excess_limit.Goals as goal

pub returns : goal.returns
returns c =
    let rs = c.args.net.now.resistors in
    let node = c.args.node in
    let count : length c.around.result.now ≡ degree rs node = ap length c.around.ensures ∙ sym (degree_from 0 rs node) in
    let most = degree_at_most rs node in
    let few = c.requires.built.few_resistors in
    let small : length c.around.result.now ≤ 4 * 10 ^ 6 = omega (arith, count, most, few) in
    let a : SFits w128 (pos (length c.around.result.now)) = omega (arith, ints, small) in
    let b : SFits w128 (pos (length c.around.result.now) +ℤ pos 1) = omega (arith, ints, small) in
    let d : SFits w128 (pos 64 *ℤ (pos (length c.around.result.now) +ℤ pos 1)) = omega (arith, ints, small) in
    omega (arith, ints, count, small)
