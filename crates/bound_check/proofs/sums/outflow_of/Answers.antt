use Rattle.std.proofs.Common.{neg_ℤ, ◌≤ℤ◌, ◌≤◌, ◌<◌, ◌*◌, ◌+◌, ◌^◌, ◌∙◌, sym, ap, length, pos, ℤ, ℕ, arith, subst, List, All}
use Rattle.std.proofs.lemmas.Int.{ints}
use Rattle.std.proofs.Math.Seq.{take_all}
use Rattle.rounding.specs.declared.Round.{Round}
use Rattle.rounding.specs.Rounding.{quotient}
use Rattle.grid_net.specs.declared.part.Resistor.{Resistor}
use Rattle.grid_net.specs.Limits.{IsInLimit}
use Rattle.grid_net.specs.Certificate.{flow_limit}
use Rattle.grid_net.specs.Network.{total, entry_of}
use Rattle.grid_net.specs.inside.Flows.{flow_over}
use Rattle.grid_net.specs.Laws.Sums.{total_more}
use Rattle.grid_net.specs.Laws.Flows.{degree_from, degree_at_most}
use Rattle.grid_net.specs.Laws.Flows.{around_is_outflow, places_are_places, flows_around}
use Rattle.bound_check.proofs.Rules.{nothing, turned}
use Rattle.bound_check.proofs.sums.outflow_of.Goals as goal

abbrev none : Resistor
none = record { a = 0; b = 0; ohms = pos 0 }

abbrev IsPlaceOf : List Resistor → List ℕ → Type 0
IsPlaceOf rs ks = All (λ p. p < length rs) ks

abbrev IsSmall : Round → List Resistor → (ℕ → ℤ) → ℕ → List ℕ → Type 0
IsSmall round rs x i ks = All (λ k. IsInLimit (flow_limit + 1) (flow_over (quotient round) rs x i none k)) ks

pub flow_at-flow-requires-clause-place_in : goal.flow_at-flow-requires-clause-place_in
flow_at-flow-requires-clause-place_in c =
    let rs = c.args.resistors.now in
    let all = subst (IsPlaceOf rs) (sym c.requires.around_is) (places_are_places rs c.args.node) in
    all c.loop-place.place-index 0 c.loop-place-test.true

pub overflow_add-sum : goal.overflow_add-sum
overflow_add-sum c =
    let rs = c.args.resistors.now in
    let x = entry_of c.args.x.now in
    let k = c.loop-place.place-index in
    let small = subst (IsSmall c.args.round rs x c.args.node) (sym c.requires.around_is) (flows_around (quotient c.args.round) flow_limit (turned c.args.round flow_limit) (length c.args.x.now) rs c.requires.ends x c.requires.flows c.args.node none) k 0 c.loop-place-test.true in
    let few = ap length c.requires.around_is ∙ sym (degree_from 0 rs c.args.node) in
    let most = degree_at_most rs c.args.node in
    let flow = c.flow_at-flow.ensures in
    let size : k < 4 * 10 ^ 6 = omega (arith, few, most, c.requires.few, c.loop-place-test.true) in
    let least : neg_ℤ (pos (10 ^ 31 + 1)) ≤ℤ c.flow_at-flow.result = omega (arith, ints, flow, small) in
    let greatest : c.flow_at-flow.result ≤ℤ pos (10 ^ 31 + 1) = omega (arith, ints, flow, small) in
    omega (arith, ints, c.loop-place.invariant.at_least, c.loop-place.invariant.at_most)

pub loop-place-preserved : goal.loop-place-preserved
loop-place-preserved c =
    let rs = c.args.resistors.now in
    let x = entry_of c.args.x.now in
    let k = c.loop-place.place-index in
    let step = total_more (flow_over (quotient c.args.round) rs x c.args.node none) c.args.around.now k 0 c.loop-place-test.true in
    let small = subst (IsSmall c.args.round rs x c.args.node) (sym c.requires.around_is) (flows_around (quotient c.args.round) flow_limit (turned c.args.round flow_limit) (length c.args.x.now) rs c.requires.ends x c.requires.flows c.args.node none) k 0 c.loop-place-test.true in
    let few = ap length c.requires.around_is ∙ sym (degree_from 0 rs c.args.node) in
    let most = degree_at_most rs c.args.node in
    let flow = c.flow_at-flow.ensures in
    let size : k < 4 * 10 ^ 6 = omega (arith, few, most, c.requires.few, c.loop-place-test.true) in
    let least : neg_ℤ (pos (10 ^ 31 + 1)) ≤ℤ c.flow_at-flow.result = omega (arith, ints, flow, small) in
    let greatest : c.flow_at-flow.result ≤ℤ pos (10 ^ 31 + 1) = omega (arith, ints, flow, small) in
    record {
      so_far = omega (arith, ints, step, c.loop-place.invariant.so_far, flow);
      at_least = omega (arith, ints);
      at_most = omega (arith, ints);
    }

pub returns : goal.returns
returns c =
    let rs = c.args.resistors.now in
    let x = entry_of c.args.x.now in
    let f : ℕ → ℤ = flow_over (quotient c.args.round) rs x c.args.node none in
    let whole = ap (total f) (take_all c.loop-place.place-index c.args.around.now (omega arith)) in
    let places = ap (total f) c.requires.around_is in
    let around = around_is_outflow (quotient c.args.round) (nothing c.args.round) (length c.args.x.now) rs c.requires.ends x c.args.node none in
    let few = ap length c.requires.around_is ∙ sym (degree_from 0 rs c.args.node) in
    let most = degree_at_most rs c.args.node in
    let size : c.loop-place.place-index ≤ 4 * 10 ^ 6 = omega (arith, few, most, c.requires.few) in
    record {
      value = omega (arith, ints, c.loop-place.invariant.so_far, whole, places, around);
      within = (omega (arith, ints), omega (arith, ints));
    }
