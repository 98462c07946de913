use Rattle.std.proofs.Common.{◌≡◌, ◌∙◌, ℕ, pos, ap, subst, arith, length, get_or, ◌<◌, to_z, to_z-of_z, SFits, rules, List}
use mir.Syntax.{w128}
use Rattle.std.specs.Int.{int_max}
use Rattle.std.proofs.lemmas.Int.{ints}
use Rattle.grid_net.specs.declared.part.Resistor.{Resistor}
use Rattle.grid_net.specs.Network.{places_at}
use Rattle.bound_make.specs.inside.Moving.{GrowsLess}
use Rattle.bound_make.proofs.Steps.{around_count, grown, shares_up}
use Rattle.bound_make.proofs.step.rise_step.Goals as goal

pub returns-clause-room : goal.returns-clause-room
returns-clause-room c =
    let net = c.args.net.now in
    let rs = net.resistors in
    let x = c.args.x.now in
    let node = c.args.node in
    let around = c.around-around.result.now in
    let is_around : around ≡ places_at rs node = c.around-around.ensures in
    let count = around_count rs node around is_around c.requires.built.few_resistors in
    let fa : SFits w128 (pos (length around)) = omega (arith, ints, count) in
    let fm : SFits w128 c.max-count.result = search rules in
    let fs : SFits w128 c.args.missing = search rules in
    let fd : SFits w128 c.div_ceil.result = search rules in
    let fl : SFits w128 c.least_rise.result = search rules in
    let tn : to_z w128 (length around) ≡ pos (length around) = omega (arith, ints, count) in
    let m = c.max-count.ensures.value ∙ ap (λ z. int_max z (pos 1)) tn in
    let u = simp to_z-of_z at c.div_ceil.ensures in
    let share = shares_up (length around) c.max-count.result c.args.missing c.div_ceil.result m u c.requires.missing in
    let room = simp to_z-of_z at c.least_rise.ensures.room in
    let ours = subst (λ (all : List Resistor). (k : ℕ) → k < length around → GrowsLess all x node c.div_ceil.result c.least_rise.result (get_or around k 0)) c.resistors.ensures room in
    simp to_z-of_z (λ e y least less move.
    (let up = grown net.nodes rs c.requires.built.is_network.each_resistor x node around is_around c.div_ceil.result c.least_rise.result share.0 ours y e least less move in
    omega (arith, ints, up, share)))
