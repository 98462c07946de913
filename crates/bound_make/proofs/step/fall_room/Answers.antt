use Rattle.std.proofs.Common.{◌∙◌, ap, subst, ◌-ℤ◌, ◌*ℤ◌, ◌<ℤ◌, ◌≤ℤ◌, neg_ℤ, arith, to_z-of_z, SFits, rules}
use mir.Syntax.{w128}
use Rattle.std.specs.Int.{int_min}
use Rattle.std.proofs.lemmas.Int.{ints}
use Rattle.rounding.specs.Rounding.{floor_div}
use Rattle.bound_make.specs.inside.Moving.{held_rule}
use Rattle.bound_make.proofs.Room.{far, limit, IsEnd, fall_end, fall_some, fall_room_is}
use Rattle.bound_make.proofs.step.fall_room.Goals as goal

-- What each goal below rests on.
ends : (c : goal.After-min-less) → IsEnd c.args.difference c.args.ohms c.held_flow-flow.result (c.held_flow-flow.result -ℤ c.min-less.result) (held_rule c.args.difference c.args.ohms -ℤ int_min c.args.units (floor_div far c.args.ohms))
ends c =
    let fz = c.ranges.difference in
    let fr = c.ranges.ohms in
    let fu = c.ranges.units in
    let fd : SFits w128 c.div_floor.result = search rules in
    fall_end c.args.difference c.args.ohms c.args.units c.requires.ohms.0 c.requires.ohms.1 c.requires.difference c.requires.units c.held_flow-flow.result c.min-less.result
    (simp to_z-of_z at c.held_flow-flow.ensures.value)
    (simp to_z-of_z at c.min-less.ensures.value ∙ ap (int_min c.args.units) (simp to_z-of_z at c.div_floor.ensures))

pub overflow_sub-result : goal.overflow_sub-result
overflow_sub-result c =
    let a : SFits w128 c.held_flow-flow.result = search rules in
    let b : SFits w128 c.min-less.result = search rules in
    omega (arith, ints, a, b, (ends c).within)

pub overflow_mul-result : goal.overflow_mul-result
overflow_mul-result c =
    let r = c.args.ohms in
    let end = ends c in
    let to = c.held_flow-flow.result -ℤ c.min-less.result in
    let fr = c.ranges.ohms in
    let a : SFits w128 c.held_flow-flow.result = search rules in
    let b : SFits w128 c.min-less.result = search rules in
    let x : SFits w128 to = omega (arith, ints, end.within) in
    let x2 : SFits w128 (r *ℤ to) = omega (arith, ints, end.volts_within) in
    simp to_z-of_z (omega (arith, ints, x2))

pub overflow_sub-result-2 : goal.overflow_sub-result-2
overflow_sub-result-2 c =
    let z = c.args.difference in
    let r = c.args.ohms in
    let end = ends c in
    let to = c.held_flow-flow.result -ℤ c.min-less.result in
    let fz = c.ranges.difference in
    let fr = c.ranges.ohms in
    let a : SFits w128 c.held_flow-flow.result = search rules in
    let b : SFits w128 c.min-less.result = search rules in
    let x : SFits w128 to = omega (arith, ints, end.within) in
    let x2 : SFits w128 (r *ℤ to) = omega (arith, ints, end.volts_within) in
    let x3 : SFits w128 (z -ℤ (r *ℤ to)) = omega (arith, ints, end.volts_within, c.requires.difference) in
    simp to_z-of_z (omega (arith, ints, x3))

pub returns-clause-positive : goal.returns-clause-positive
returns-clause-positive c =
    let z = c.args.difference in
    let r = c.args.ohms in
    let end = ends c in
    let to = c.held_flow-flow.result -ℤ c.min-less.result in
    let fz = c.ranges.difference in
    let fr = c.ranges.ohms in
    let a : SFits w128 c.held_flow-flow.result = search rules in
    let b : SFits w128 c.min-less.result = search rules in
    let x : SFits w128 to = omega (arith, ints, end.within) in
    let x2 : SFits w128 (r *ℤ to) = omega (arith, ints, end.volts_within) in
    let x3 : SFits w128 (z -ℤ (r *ℤ to)) = omega (arith, ints, end.volts_within, c.requires.difference) in
    let held : neg_ℤ limit <ℤ held_rule z r = omega (arith, ints, a, end.from_is, c.if-flow.false) in
    let some = fall_some z r c.args.units c.requires.ohms.0 c.requires.ohms.1 c.requires.difference c.requires.units held in
    simp to_z-of_z (omega (arith, ints, end.volts_are, some))

pub returns-clause-room : goal.returns-clause-room
returns-clause-room c = λ i least less.
    let z = c.args.difference in
    let r = c.args.ohms in
    let end = ends c in
    let to = c.held_flow-flow.result -ℤ c.min-less.result in
    let fz = c.ranges.difference in
    let fr = c.ranges.ohms in
    let a : SFits w128 c.held_flow-flow.result = search rules in
    let b : SFits w128 c.min-less.result = search rules in
    let x : SFits w128 to = omega (arith, ints, end.within) in
    let x2 : SFits w128 (r *ℤ to) = omega (arith, ints, end.volts_within) in
    let x3 : SFits w128 (z -ℤ (r *ℤ to)) = omega (arith, ints, end.volts_within, c.requires.difference) in
    let held : neg_ℤ limit <ℤ held_rule z r = omega (arith, ints, a, end.from_is, c.if-flow.false) in
    let small : i ≤ℤ (z -ℤ (r *ℤ to)) = simp to_z-of_z at less in
    fall_room_is z r c.args.units c.requires.ohms.0 c.requires.ohms.1 c.requires.difference c.requires.units held i least (subst (λ n. i ≤ℤ n) (ap (λ n. z -ℤ n) end.volts_are) small)
