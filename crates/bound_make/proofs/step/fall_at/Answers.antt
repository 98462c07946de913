use Rattle.std.proofs.Common.{ℤ, ◌-ℤ◌, ◌≤ℤ◌, subst, to_z-of_z, SFits, rules, get_or}
use mir.Syntax.{w128}
use Rattle.bound_make.specs.inside.Moving.{held_rule}
use Rattle.grid_net.specs.inside.Flows.{no_resistor}
use Rattle.bound_make.proofs.step.fall_at.Goals as goal

pub returns-clause-room : goal.returns-clause-room
returns-clause-room c =
    let r = get_or c.args.resistors.now c.args.place no_resistor in
    let u = c.args.units in
    let fr : SFits w128 c.fall_room.result = search rules in
    let fd : SFits w128 c.difference_at-difference.result = search rules in
    let fo : SFits w128 r.ohms = search rules in
    let fu : SFits w128 u = search rules in
    let room = simp to_z-of_z at c.fall_room.ensures.room in
    simp to_z-of_z (λ e least less. subst (λ (d : ℤ). (held_rule d r.ohms -ℤ held_rule (d -ℤ e) r.ohms) ≤ℤ u) c.difference_at-difference.ensures.value (room e least less))
