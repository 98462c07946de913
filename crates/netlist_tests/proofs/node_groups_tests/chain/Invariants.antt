use Rattle.std.proofs.Common.{ℕ, ◌<◌, All}
use Rattle.netlist_tests.proofs.node_groups_tests.chain.Given as goal

abbrev pub invariant-loop-node : goal.invariant-loop-node
invariant-loop-node l = All (λ (s : ℕ × ℕ). (s.0 < l.nodes) × (s.1 < l.nodes)) l.shorts.items
