use Rattle.std.proofs.Common.{◌≤◌, ◌<◌, ◌*◌, ◌^◌, ◌∙◌, sym, ap, length, ℤ, ℕ, arith, subst, List, All}
use Rattle.std.proofs.lemmas.Int.{ints}
use Rattle.std.proofs.Math.Seq.{take_all}
use Rattle.grid_net.specs.declared.part.Resistor.{Resistor}
use Rattle.grid_net.specs.Network.{total, entry_of}
use Rattle.grid_net.specs.inside.Flows.{flow_over}
use Rattle.grid_net.specs.Laws.Sums.{total_more}
use Rattle.grid_net.specs.Laws.Flows.{degree_from, degree_at_most}
use Rattle.grid_net.specs.Laws.Flows.{around_is_outflow, places_are_places}
use Rattle.bound_make.specs.inside.Moving.{held_rule}
use Rattle.grid_net.specs.inside.Flows.{no_resistor}
use Rattle.bound_make.proofs.Steps.{held_nothing}
use Rattle.bound_make.proofs.flow.held_outflow.Goals as goal

abbrev IsPlaceOf : List Resistor → List ℕ → Type 0
IsPlaceOf rs ks = All (λ p. p < length rs) ks

pub flow_at-flow-requires-clause-place_in : goal.flow_at-flow-requires-clause-place_in
flow_at-flow-requires-clause-place_in c =
    let rs = c.args.resistors.now in
    let all = subst (IsPlaceOf rs) (sym c.requires.around_is) (places_are_places rs c.args.node) in
    all c.loop-place.place-index 0 c.loop-place-test.true

pub overflow_add-sum : goal.overflow_add-sum
overflow_add-sum c =
    let rs = c.args.resistors.now in
    let k = c.loop-place.place-index in
    let few = ap length c.requires.around_is ∙ sym (degree_from 0 rs c.args.node) in
    let most = degree_at_most rs c.args.node in
    let size : k < 4 * 10 ^ 6 = omega (arith, few, most, c.requires.few, c.loop-place-test.true) in
    omega (arith, ints, c.loop-place.invariant.at_least, c.loop-place.invariant.at_most, c.flow_at-flow.ensures.within)

pub loop-place-preserved : goal.loop-place-preserved
loop-place-preserved c =
    let rs = c.args.resistors.now in
    let x = entry_of c.args.x.now in
    let k = c.loop-place.place-index in
    let step = total_more (flow_over held_rule rs x c.args.node no_resistor) c.args.around.now k 0 c.loop-place-test.true in
    let few = ap length c.requires.around_is ∙ sym (degree_from 0 rs c.args.node) in
    let most = degree_at_most rs c.args.node in
    let flow = c.flow_at-flow.ensures.value in
    let within = c.flow_at-flow.ensures.within in
    let size : k < 4 * 10 ^ 6 = omega (arith, few, most, c.requires.few, c.loop-place-test.true) in
    record {
      so_far = omega (arith, ints, step, c.loop-place.invariant.so_far, flow, within);
      at_least = omega (arith, ints, within);
      at_most = omega (arith, ints, within);
    }

pub returns : goal.returns
returns c =
    let rs = c.args.resistors.now in
    let x = entry_of c.args.x.now in
    let f : ℕ → ℤ = flow_over held_rule rs x c.args.node no_resistor in
    let whole = ap (total f) (take_all c.loop-place.place-index c.args.around.now (omega arith)) in
    let places = ap (total f) c.requires.around_is in
    let around = around_is_outflow held_rule held_nothing (length c.args.x.now) rs c.requires.ends x c.args.node no_resistor in
    let few = ap length c.requires.around_is ∙ sym (degree_from 0 rs c.args.node) in
    let most = degree_at_most rs c.args.node in
    let size : c.loop-place.place-index ≤ 4 * 10 ^ 6 = omega (arith, few, most, c.requires.few) in
    record {
      value = omega (arith, ints, c.loop-place.invariant.so_far, whole, places, around);
      within = (omega (arith, ints), omega (arith, ints));
    }
