use Rattle.std.proofs.Common.{ap, length, arith}
use Rattle.step_bounds.specs.StepNetwork.{has_memory}
use Rattle.step_bounds.proofs.Memory.{few_below}
use Rattle.step_bounds.proofs.network.step_nodes.Goals as goal

pub overflow_cast-result : goal.overflow_cast-result
overflow_cast-result c =
    let long = ap length c.requires.memories_are.nodes_are in
    let few = few_below (has_memory c.args.extension.now.companions.items) c.args.net.now.nodes in
    omega (arith, long, few, c.len.ensures, c.nodes.ensures.built.few_nodes)

pub overflow_add-result : goal.overflow_add-result
overflow_add-result c =
    let long = ap length c.requires.memories_are.nodes_are in
    let few = few_below (has_memory c.args.extension.now.companions.items) c.args.net.now.nodes in
    omega (arith, long, few, c.len.ensures, c.nodes.ensures.nodes, c.nodes.ensures.built.few_nodes)
