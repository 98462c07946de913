use Rattle.std.proofs.Common.{pos, get_or, ◌-ℤ◌, ◌<◌, arith, SFits, rules, length}
use mir.Syntax.{w128}
use Rattle.std.proofs.lemmas.Int.{ints}
use Rattle.grid_net.specs.Laws.Flows.{other_is_node}
use Rattle.bound_make.proofs.flow.difference_at.Goals as goal

pub returns-clause-within : goal.returns-clause-within
returns-clause-within c =
    let x = c.args.x.now in
    let r = get_or c.args.resistors.now c.args.place (record { a = 0; b = 0; ohms = pos 0 }) in
    let of_r = c.requires.ends c.args.place (record { a = 0; b = 0; ohms = pos 0 }) c.requires.place_in in
    let e = c.end_across-other.ensures in
    let there = other_is_node (length x) r c.args.node of_r in
    let other : c.end_across-other.result < length x = omega (arith, e, there) in
    let at = c.requires.values c.args.node (pos 0) c.requires.node_in in
    let to = c.requires.values c.end_across-other.result (pos 0) other in
    let fa : SFits w128 (get_or x c.args.node (pos 0)) = search rules in
    let fb : SFits w128 (get_or x c.end_across-other.result (pos 0)) = search rules in
    let fd : SFits w128 (get_or x c.args.node (pos 0) -ℤ get_or x c.end_across-other.result (pos 0)) = omega (arith, ints, at, to) in
    (omega (arith, ints, at, to, fa, fb, fd), omega (arith, ints, at, to, fa, fb, fd))
