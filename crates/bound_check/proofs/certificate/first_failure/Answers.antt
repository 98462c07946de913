use Rattle.std.proofs.Common.{◌∙◌, sym, ap}
use Rattle.grid_net.specs.Network.{entry_of}
use Rattle.grid_net.specs.Search.{first_below, first_of}
use Rattle.bound_check.specs.Failing.{value_test, flow_test}
use Rattle.grid_net.specs.Laws.Search.{none_when_not_some}
use Rattle.bound_check.proofs.Failing.{values_of_high, values_of_low, flows_of_high, flows_of_low}
use Rattle.bound_check.proofs.certificate.first_failure.Goals as goal

pub flows_failure-flow-requires-clause-high_values : goal.flows_failure-flow-requires-clause-high_values
flows_failure-flow-requires-clause-high_values c =
    let net = c.args.net.now in
    let high = c.args.high.now in
    let low = c.args.low.now in
    let values = ap (λ n. first_below n (value_test (entry_of high) (entry_of low))) (sym c.requires.high_size) ∙ sym c.values_failure-value.ensures ∙ none_when_not_some c.values_failure-value.result (sym c.is_some.ensures ∙ c.if-is_some.false) in
    values_of_high net high low c.requires.high_size values

pub flows_failure-flow-requires-clause-low_values : goal.flows_failure-flow-requires-clause-low_values
flows_failure-flow-requires-clause-low_values c =
    let net = c.args.net.now in
    let high = c.args.high.now in
    let low = c.args.low.now in
    let values = ap (λ n. first_below n (value_test (entry_of high) (entry_of low))) (sym c.requires.high_size) ∙ sym c.values_failure-value.ensures ∙ none_when_not_some c.values_failure-value.result (sym c.is_some.ensures ∙ c.if-is_some.false) in
    values_of_low net high low c.requires.low_size values

pub sums_failure-requires-clause-high_values : goal.sums_failure-requires-clause-high_values
sums_failure-requires-clause-high_values c =
    let net = c.args.net.now in
    let high = c.args.high.now in
    let low = c.args.low.now in
    let values = ap (λ n. first_below n (value_test (entry_of high) (entry_of low))) (sym c.requires.high_size) ∙ sym c.values_failure-value.ensures ∙ none_when_not_some c.values_failure-value.result (sym c.is_some.ensures ∙ c.if-is_some.false) in
    values_of_high net high low c.requires.high_size values

pub sums_failure-requires-clause-low_values : goal.sums_failure-requires-clause-low_values
sums_failure-requires-clause-low_values c =
    let net = c.args.net.now in
    let high = c.args.high.now in
    let low = c.args.low.now in
    let values = ap (λ n. first_below n (value_test (entry_of high) (entry_of low))) (sym c.requires.high_size) ∙ sym c.values_failure-value.ensures ∙ none_when_not_some c.values_failure-value.result (sym c.is_some.ensures ∙ c.if-is_some.false) in
    values_of_low net high low c.requires.low_size values

pub sums_failure-requires-clause-high_flows : goal.sums_failure-requires-clause-high_flows
sums_failure-requires-clause-high_flows c =
    let net = c.args.net.now in
    let high = c.args.high.now in
    let low = c.args.low.now in
    let flows = ap (first_of (flow_test (entry_of high) (entry_of low))) (sym c.resistors.ensures) ∙ sym c.flows_failure-flow.ensures ∙ none_when_not_some c.flows_failure-flow.result (sym c.is_some-2.ensures ∙ c.if-is_some-2.false) in
    flows_of_high net high low flows

pub sums_failure-requires-clause-low_flows : goal.sums_failure-requires-clause-low_flows
sums_failure-requires-clause-low_flows c =
    let net = c.args.net.now in
    let high = c.args.high.now in
    let low = c.args.low.now in
    let flows = ap (first_of (flow_test (entry_of high) (entry_of low))) (sym c.resistors.ensures) ∙ sym c.flows_failure-flow.ensures ∙ none_when_not_some c.flows_failure-flow.result (sym c.is_some-2.ensures ∙ c.if-is_some-2.false) in
    flows_of_low net high low flows
