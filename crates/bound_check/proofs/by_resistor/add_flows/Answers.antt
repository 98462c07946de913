use Rattle.std.proofs.Common.{ℕ, ◌-ℤ◌, arith}
use Rattle.std.proofs.lemmas.Int.{ints}
use Rattle.rounding.specs.Rounding.{floor_div, ceil_div}
use Rattle.grid_net.specs.declared.part.Resistor.{Resistor}
use Rattle.grid_net.specs.Network.{entry_of, taken_by}
use Rattle.grid_net.specs.inside.Flows.{no_resistor}
use Rattle.grid_net.specs.Laws.Sums.{total_more}
use Rattle.grid_net.specs.Laws.Search.{none_next}
use Rattle.bound_check.specs.Failing.{flow_test}
use Rattle.bound_check.proofs.Adding.{flow_passes}
use Rattle.bound_check.proofs.by_resistor.add_flows.Goals as goal

pub loop-r-preserved : goal.loop-r-preserved
loop-r-preserved c =
    let rs = c.args.resistors.now in
    let x = entry_of c.args.high.now in
    let y = entry_of c.args.low.now in
    let k = c.loop-r.r-index in
    let inv = c.loop-r.invariant in
    let by_high = λ (i : ℕ) (r : Resistor). taken_by r i (floor_div (x r.a -ℤ x r.b) r.ohms) (floor_div (x r.b -ℤ x r.a) r.ohms) in
    let by_low = λ (i : ℕ) (r : Resistor). taken_by r i (ceil_div (y r.a -ℤ y r.b) r.ohms) (ceil_div (y r.b -ℤ y r.a) r.ohms) in
    record {
      of_high = λ i l. (let step = total_more (by_high i) rs k no_resistor c.loop-r-test.true in let now = c.add_flow.ensures.sums c.if-not-add_flow.false i l in omega (arith, ints, step, now, inv.of_high i l));
      of_low = λ i l. (let step = total_more (by_low i) rs k no_resistor c.loop-r-test.true in let now = c.add_flow-in-loop-r.ensures.sums c.if-not-add_flow-2.false i (omega (arith, l, c.requires.same)) in omega (arith, ints, step, now, inv.of_low i l));
      flows = none_next (flow_test x y) rs k no_resistor c.loop-r-test.true inv.flows (flow_passes x y _ (c.add_flow.ensures.within c.if-not-add_flow.false) (c.add_flow-in-loop-r.ensures.within c.if-not-add_flow-2.false));
    }
