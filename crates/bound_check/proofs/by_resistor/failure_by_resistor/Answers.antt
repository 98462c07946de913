use Rattle.std.proofs.Common.{◌∙◌, sym, ap, arith, List}
use Rattle.std.proofs.lemmas.Int.{ints}
use Rattle.rounding.specs.Rounding.{floor_div, ceil_div}
use Rattle.grid_net.specs.declared.part.Resistor.{Resistor}
use Rattle.grid_net.specs.Network.{entry_of, outflow}
use Rattle.grid_net.specs.Search.{first_below}
use Rattle.bound_check.specs.Failing.{value_test}
use Rattle.grid_net.specs.Laws.Search.{none_when_not_some}
use Rattle.bound_check.proofs.Failing.{values_of_high, values_of_low}
use Rattle.bound_check.proofs.by_resistor.failure_by_resistor.Goals as goal

pub add_flows-requires-clause-high_values : goal.add_flows-requires-clause-high_values
add_flows-requires-clause-high_values c =
    let net = c.args.net.now in
    let high = c.args.high.now in
    let low = c.args.low.now in
    let values = ap (λ n. first_below n (value_test (entry_of high) (entry_of low))) (sym c.requires.high_size) ∙ sym c.values_failure-value.ensures ∙ none_when_not_some c.values_failure-value.result (sym c.is_some.ensures ∙ c.if-is_some.false) in
    values_of_high net high low c.requires.high_size values

pub add_flows-requires-clause-low_values : goal.add_flows-requires-clause-low_values
add_flows-requires-clause-low_values c =
    let net = c.args.net.now in
    let high = c.args.high.now in
    let low = c.args.low.now in
    let values = ap (λ n. first_below n (value_test (entry_of high) (entry_of low))) (sym c.requires.high_size) ∙ sym c.values_failure-value.ensures ∙ none_when_not_some c.values_failure-value.result (sym c.is_some.ensures ∙ c.if-is_some.false) in
    values_of_low net high low c.requires.low_size values

pub sums_failure-requires-clause-high_values : goal.sums_failure-requires-clause-high_values
sums_failure-requires-clause-high_values c =
    let net = c.args.net.now in
    let high = c.args.high.now in
    let low = c.args.low.now in
    let values = ap (λ n. first_below n (value_test (entry_of high) (entry_of low))) (sym c.requires.high_size) ∙ sym c.values_failure-value.ensures ∙ none_when_not_some c.values_failure-value.result (sym c.is_some.ensures ∙ c.if-is_some.false) in
    values_of_high net high low c.requires.high_size values

pub sums_failure-requires-clause-low_values : goal.sums_failure-requires-clause-low_values
sums_failure-requires-clause-low_values c =
    let net = c.args.net.now in
    let high = c.args.high.now in
    let low = c.args.low.now in
    let values = ap (λ n. first_below n (value_test (entry_of high) (entry_of low))) (sym c.requires.high_size) ∙ sym c.values_failure-value.ensures ∙ none_when_not_some c.values_failure-value.result (sym c.is_some.ensures ∙ c.if-is_some.false) in
    values_of_low net high low c.requires.low_size values

pub sums_failure-requires-clause-of_high : goal.sums_failure-requires-clause-of_high
sums_failure-requires-clause-of_high c =
    let x = entry_of c.args.high.now in
    record {
      size = omega arith;
      each = λ i l. (let added = c.add_flows.ensures.high c.if-not-add_flows.false i (omega (arith, l, c.requires.high_size)) in let rs = ap (λ (rs : List Resistor). outflow floor_div rs x i) c.resistors.ensures in omega (arith, ints, added, rs, c.requires.of_high i l));
    }

pub sums_failure-requires-clause-of_low : goal.sums_failure-requires-clause-of_low
sums_failure-requires-clause-of_low c =
    let y = entry_of c.args.low.now in
    record {
      size = omega arith;
      each = λ i l. (let added = c.add_flows.ensures.low c.if-not-add_flows.false i (omega (arith, l, c.requires.high_size)) in let rs = ap (λ (rs : List Resistor). outflow ceil_div rs y i) c.resistors.ensures in omega (arith, ints, added, rs, c.requires.of_low i l));
    }
