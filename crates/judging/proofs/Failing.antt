-- A test of a certificate that fails names a node.
use Rattle.std.proofs.Common.{◌<◌, ℕ, ℤ, pos, subst}
use Rattle.grid_net.specs.declared.part.Resistor.{Resistor}
use Rattle.grid_net.specs.Network.{Network, IsNetwork, FlowRule}
use Rattle.rounding.specs.Rounding.{floor_div, ceil_div}
use Rattle.bound_check.specs.declared.fails.Side.{Side}
use Rattle.bound_check.specs.declared.fails.Side.TheVariants.{HighValue, LowValue, HighFlow, LowFlow, High, Low}
use Rattle.bound_check.specs.Failing.{IsFailing, IsFlowFrom}

-- The end of a resistor is a node.
flow_node : (net : Network) (rule : FlowRule) (x : ℕ → ℤ) (i : ℕ) (z : ℤ) → IsNetwork net → IsFlowFrom net rule x i z → i < net.nodes
flow_node net rule x i z network flow =
    let d : Resistor = record { a = 0; b = 0; ohms = pos 1 } in
    subst (λ n. n < net.nodes) (flow.2 d).0 (network.each_resistor flow.0 d flow.1).a_is_node

pub failing_node : (net : Network) (high low : ℕ → ℤ) (i : ℕ) (side : Side) (z : ℤ) → IsNetwork net → IsFailing net high low i side z → i < net.nodes
failing_node net high low i HighValue z network fails = fails.0
failing_node net high low i LowValue z network fails = fails.0
failing_node net high low i HighFlow z network fails = flow_node net floor_div high i z network fails.0
failing_node net high low i LowFlow z network fails = flow_node net ceil_div low i z network fails.0
failing_node net high low i High z network fails = fails.0
failing_node net high low i Low z network fails = fails.0
