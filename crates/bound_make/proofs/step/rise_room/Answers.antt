use Rattle.std.proofs.Common.{◌∙◌, ap, subst, ◌+ℤ◌, ◌-ℤ◌, ◌*ℤ◌, ◌<ℤ◌, arith, to_z-of_z, SFits, rules}
use mir.Syntax.{w128}
use Rattle.std.specs.Int.{int_min}
use Rattle.std.proofs.lemmas.Int.{ints}
use Rattle.rounding.specs.Rounding.{floor_div}
use Rattle.bound_make.specs.inside.Moving.{held_rule}
use Rattle.bound_make.proofs.Room.{far, limit, IsEnd, rise_end, rise_some, rise_room_is}
use Rattle.bound_make.proofs.step.rise_room.Goals as goal

-- What each goal below rests on.
ends : (c : goal.After-min-more) → IsEnd c.args.difference c.args.ohms c.held_flow-flow.result (c.held_flow-flow.result +ℤ c.min-more.result) (held_rule c.args.difference c.args.ohms +ℤ int_min c.args.units (floor_div far c.args.ohms))
ends c =
    let fz = c.ranges.difference in
    let fr = c.ranges.ohms in
    let fu = c.ranges.units in
    let fd : SFits w128 c.div_floor.result = search rules in
    rise_end c.args.difference c.args.ohms c.args.units c.requires.ohms.0 c.requires.ohms.1 c.requires.difference c.requires.units c.held_flow-flow.result c.min-more.result
    (simp to_z-of_z at c.held_flow-flow.ensures.value)
    (simp to_z-of_z at c.min-more.ensures.value ∙ ap (int_min c.args.units) (simp to_z-of_z at c.div_floor.ensures))

pub overflow_add-result : goal.overflow_add-result
overflow_add-result c =
    let a : SFits w128 c.held_flow-flow.result = search rules in
    let b : SFits w128 c.min-more.result = search rules in
    omega (arith, ints, a, b, (ends c).within)

pub overflow_mul-result : goal.overflow_mul-result
overflow_mul-result c =
    let r = c.args.ohms in
    let end = ends c in
    let to = c.held_flow-flow.result +ℤ c.min-more.result in
    let fr = c.ranges.ohms in
    let a : SFits w128 c.held_flow-flow.result = search rules in
    let b : SFits w128 c.min-more.result = search rules in
    let x : SFits w128 to = omega (arith, ints, end.within) in
    let x2 : SFits w128 (r *ℤ to) = omega (arith, ints, end.volts_within) in
    simp to_z-of_z (omega (arith, ints, x2))

pub overflow_sub-result : goal.overflow_sub-result
overflow_sub-result c =
    let z = c.args.difference in
    let r = c.args.ohms in
    let end = ends c in
    let to = c.held_flow-flow.result +ℤ c.min-more.result in
    let fz = c.ranges.difference in
    let fr = c.ranges.ohms in
    let a : SFits w128 c.held_flow-flow.result = search rules in
    let b : SFits w128 c.min-more.result = search rules in
    let x : SFits w128 to = omega (arith, ints, end.within) in
    let x2 : SFits w128 (r *ℤ to) = omega (arith, ints, end.volts_within) in
    let x3 : SFits w128 ((r *ℤ to) -ℤ z) = omega (arith, ints, end.volts_within, c.requires.difference) in
    simp to_z-of_z (omega (arith, ints, x3))

pub returns-clause-positive : goal.returns-clause-positive
returns-clause-positive c =
    let z = c.args.difference in
    let r = c.args.ohms in
    let end = ends c in
    let to = c.held_flow-flow.result +ℤ c.min-more.result in
    let fz = c.ranges.difference in
    let fr = c.ranges.ohms in
    let a : SFits w128 c.held_flow-flow.result = search rules in
    let b : SFits w128 c.min-more.result = search rules in
    let x : SFits w128 to = omega (arith, ints, end.within) in
    let x2 : SFits w128 (r *ℤ to) = omega (arith, ints, end.volts_within) in
    let x3 : SFits w128 ((r *ℤ to) -ℤ z) = omega (arith, ints, end.volts_within, c.requires.difference) in
    let held : held_rule z r <ℤ limit = omega (arith, ints, a, end.from_is, c.if-flow-ge-GREATEST_FLOW.false) in
    let some = rise_some z r c.args.units c.requires.ohms.0 c.requires.ohms.1 c.requires.difference c.requires.units held in
    simp to_z-of_z (omega (arith, ints, end.volts_are, some))

pub returns-clause-room : goal.returns-clause-room
returns-clause-room c = λ i least less.
    let z = c.args.difference in
    let r = c.args.ohms in
    let end = ends c in
    let to = c.held_flow-flow.result +ℤ c.min-more.result in
    let fz = c.ranges.difference in
    let fr = c.ranges.ohms in
    let a : SFits w128 c.held_flow-flow.result = search rules in
    let b : SFits w128 c.min-more.result = search rules in
    let x : SFits w128 to = omega (arith, ints, end.within) in
    let x2 : SFits w128 (r *ℤ to) = omega (arith, ints, end.volts_within) in
    let x3 : SFits w128 ((r *ℤ to) -ℤ z) = omega (arith, ints, end.volts_within, c.requires.difference) in
    let held : held_rule z r <ℤ limit = omega (arith, ints, a, end.from_is, c.if-flow-ge-GREATEST_FLOW.false) in
    let small : i <ℤ ((r *ℤ to) -ℤ z) = simp to_z-of_z at less in
    rise_room_is z r c.args.units c.requires.ohms.0 c.requires.ohms.1 c.requires.difference c.requires.units held i least (subst (λ n. i <ℤ n) (ap (λ n. n -ℤ z) end.volts_are) small)
