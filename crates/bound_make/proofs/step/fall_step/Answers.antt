use Rattle.std.proofs.Common.{◌≡◌, ◌∙◌, ◌<◌, ℕ, pos, ◌≤ℤ◌, ap, subst, arith, length, get_or, to_z, to_z-of_z, SFits, rules, List}
use mir.Syntax.{w128}
use Rattle.std.specs.Int.{int_max}
use Rattle.std.proofs.lemmas.Int.{ints}
use Rattle.grid_net.specs.declared.part.Resistor.{Resistor}
use Rattle.grid_net.specs.Network.{places_at}
use Rattle.bound_make.specs.inside.Moving.{FallsAtMost}
use Rattle.bound_make.proofs.Steps.{around_count, fallen, shares_down}
use Rattle.bound_make.proofs.step.fall_step.Goals as goal

pub least_fall-requires-clause-units : goal.least_fall-requires-clause-units
least_fall-requires-clause-units c =
    let rs = c.args.net.now.resistors in
    let node = c.args.node in
    let around = c.around-around.result.now in
    let is_around : around ≡ places_at rs node = c.around-around.ensures in
    let count = around_count rs node around is_around c.requires.built.few_resistors in
    let fa : SFits w128 (pos (length around)) = omega (arith, ints, count) in
    let fm : SFits w128 c.max-count.result = search rules in
    let fs : SFits w128 c.args.spare = search rules in
    let fd : SFits w128 c.div_floor.result = search rules in
    let tn : to_z w128 (length around) ≡ pos (length around) = omega (arith, ints, count) in
    let m = c.max-count.ensures.value ∙ ap (λ z. int_max z (pos 1)) tn in
    let u = simp to_z-of_z at c.div_floor.ensures in
    let share = shares_down (length around) c.max-count.result c.args.spare c.div_floor.result m u (omega (arith, ints, count, c.requires.spare)) in
    simp to_z-of_z (share.0)

pub returns-clause-room : goal.returns-clause-room
returns-clause-room c =
    let net = c.args.net.now in
    let rs = net.resistors in
    let x = c.args.x.now in
    let node = c.args.node in
    let around = c.around-around.result.now in
    let is_around : around ≡ places_at rs node = c.around-around.ensures in
    let count = around_count rs node around is_around c.requires.built.few_resistors in
    let fa : SFits w128 (pos (length around)) = omega (arith, ints, count) in
    let fm : SFits w128 c.max-count.result = search rules in
    let fs : SFits w128 c.args.spare = search rules in
    let fd : SFits w128 c.div_floor.result = search rules in
    let fl : SFits w128 c.least_fall.result = search rules in
    let tn : to_z w128 (length around) ≡ pos (length around) = omega (arith, ints, count) in
    let m = c.max-count.ensures.value ∙ ap (λ z. int_max z (pos 1)) tn in
    let u = simp to_z-of_z at c.div_floor.ensures in
    let share = shares_down (length around) c.max-count.result c.args.spare c.div_floor.result m u (omega (arith, ints, count, c.requires.spare)) in
    let room = simp to_z-of_z at c.least_fall.ensures.room in
    let ours = subst (λ (all : List Resistor). (k : ℕ) → k < length around → FallsAtMost all x node c.div_floor.result c.least_fall.result (get_or around k 0)) c.resistors.ensures room in
    let least : pos 0 ≤ℤ c.least_fall.result = omega (arith, ints, c.least_fall.ensures.positive) in
    simp to_z-of_z (λ y move.
    (let down = fallen net.nodes rs c.requires.built.is_network.each_resistor x node around is_around c.div_floor.result c.least_fall.result share.0 least ours y move in
    omega (arith, ints, down, share)))
