use Rattle.std.proofs.Common.{◌≡◌, map}
use Rattle.std.specs.List.{range_with_len}
use Rattle.step_bounds.specs.StepNetwork.{nodes_with_memory, memory_of}
use Rattle.step_bounds.proofs.extension.memories_of.Given as goal

abbrev pub invariant-loop-node : goal.invariant-loop-node
invariant-loop-node l = record {
  with_memory : l.with_memory.items ≡ nodes_with_memory l.companions l.node;
  numbers : l.numbers.items ≡ map (memory_of l.companions l.nodes) (range_with_len 0 l.node);
}
