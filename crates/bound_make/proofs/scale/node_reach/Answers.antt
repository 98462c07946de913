use Rattle.std.proofs.Common.{◌≡◌, ◌∙◌, ◌≤◌, ◌+◌, ◌*◌, ◌^◌, ◌*ℤ◌, ◌+ℤ◌, pos, sym, ap, arith, length, to_z, of_z, unsigned_abs}
use mir.Syntax.{w128}
use Rattle.std.proofs.lemmas.Int.{ints}
use Rattle.grid_net.specs.Network.{degree, load_size}
use Rattle.grid_net.specs.Laws.Flows.{degree_from, degree_at_most}
use Rattle.bound_make.proofs.scale.node_reach.Goals as goal

pub returns : goal.returns
returns c =
    let net = c.args.net.now in
    let node = c.args.node in
    let around = c.around.result.now in
    let count : length around ≡ degree net.resistors node = ap length c.around.ensures ∙ sym (degree_from 0 net.resistors node) in
    let most = degree_at_most net.resistors node in
    let few : length around ≤ 4 * 10 ^ 6 = omega (arith, count, most, c.requires.built.few_resistors) in
    let low = ap unsigned_abs c.load-low.ensures.low in
    let high = ap unsigned_abs c.load-low.ensures.high in
    let size : c.max-size.result ≡ load_size net node = omega (arith, ints, c.max-size.ensures, c.unsigned_abs.ensures, c.unsigned_abs-2.ensures, low, high) in
    let small : c.max-size.result ≤ 2 ^ 63 = omega (arith, ints, c.max-size.ensures, c.unsigned_abs.ensures, c.unsigned_abs-2.ensures) in
    let sized : to_z w128 (of_z w128 (to_z w128 c.max-size.result +ℤ to_z w128 (of_z w128 (pos 130 *ℤ to_z w128 (of_z w128 (to_z w128 (length around) +ℤ pos 1)))))) ≡ pos (c.max-size.result + 130 * (degree net.resistors node + 1)) = omega (arith, ints, few, count, small) in
    record {
      value = omega (arith, ints, sized, size);
      within = omega (arith, ints, sized, few, count, small);
    }
