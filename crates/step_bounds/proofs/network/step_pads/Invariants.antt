use Rattle.std.proofs.Common.{◌≡◌, ◌++◌, take, map}
use Rattle.step_bounds.specs.StepNetwork.{memory_pad}
use Rattle.step_bounds.proofs.network.step_pads.Given as goal

abbrev pub invariant-loop-node : goal.invariant-loop-node
invariant-loop-node l =
    l.pads.items ≡ l.net.pads ++ map (memory_pad l.extension.companions.items l.net.nodes l.before) (take l.node-index l.extension.memories.nodes.items)
