use Rattle.std.proofs.Common.{◌∙◌, sym, pos}
use Rattle.grid_net.specs.Network.{entry_of}
use Rattle.bound_check.specs.Failing.{flow_test}
use Rattle.grid_net.specs.Laws.Search.{found_entry, none_next, none_when_not_some}
use Rattle.bound_check.proofs.flows.flows_failure.Goals as goal

pub returns-then-is_some : goal.returns-then-is_some
returns-then-is_some c =
    found_entry (flow_test (entry_of c.args.high.now) (entry_of c.args.low.now)) c.args.resistors.now c.loop-r.r-index (record { a = 0; b = 0; ohms = pos 0 }) c.flow_failure-failure.result c.loop-r-test.true c.loop-r.invariant.so_far c.flow_failure-failure.ensures (sym c.is_some.ensures ∙ c.if-is_some.true)

pub loop-r-preserved : goal.loop-r-preserved
loop-r-preserved c =
    record {
      so_far = none_next (flow_test (entry_of c.args.high.now) (entry_of c.args.low.now)) c.args.resistors.now c.loop-r.r-index (record { a = 0; b = 0; ohms = pos 0 }) c.loop-r-test.true c.loop-r.invariant.so_far (sym c.flow_failure-failure.ensures ∙ none_when_not_some c.flow_failure-failure.result (sym c.is_some.ensures ∙ c.if-is_some.false));
    }
