use Rattle.std.proofs.Common.{pos, get_or, ◌-ℤ◌, ◌<◌, arith, to_z-of_z, SFits, rules, ap, ◌∙◌, length}
use mir.Syntax.{w128}
use Rattle.std.proofs.lemmas.Int.{ints}
use Rattle.rounding.specs.Rounding.{quotient}
use Rattle.grid_net.specs.Network.{entry_of}
use Rattle.grid_net.specs.Laws.Flows.{other_is_node}
use Rattle.bound_check.proofs.sums.flow_at.Goals as goal

pub returns : goal.returns
returns c =
    let x = c.args.x.now in
    let r = get_or c.args.resistors.now c.args.place (record { a = 0; b = 0; ohms = pos 0 }) in
    let of_r = c.requires.ends c.args.place (record { a = 0; b = 0; ohms = pos 0 }) c.requires.place_in in
    let e = c.end_across-other.ensures in
    let there = other_is_node (length x) r c.args.node of_r in
    let other : c.end_across-other.result < length x = omega (arith, e, there) in
    let at = c.requires.values c.args.node (pos 0) c.requires.node_in in
    let to = c.requires.values c.end_across-other.result (pos 0) other in
    let fa : SFits w128 (get_or x c.args.node (pos 0)) = search rules in
    let fb : SFits w128 (get_or x c.end_across-other.result (pos 0)) = search rules in
    let fo : SFits w128 r.ohms = search rules in
    let fd : SFits w128 (get_or x c.args.node (pos 0) -ℤ get_or x c.end_across-other.result (pos 0)) = omega (arith, ints, at, to) in
    let flow = simp to_z-of_z at c.divide.ensures in
    let fr : SFits w128 c.divide.result = search rules in
    to_z-of_z fr ∙ flow ∙ ap (λ n. quotient c.args.round (entry_of x c.args.node -ℤ entry_of x n) r.ohms) e
