use Rattle.std.proofs.Common.{◌≡◌, ◌++◌, take}
use Rattle.std.specs.List.{flat_map, enumerate_from}
use Rattle.step_texts.specs.Texts.{node_line}
use Rattle.step_texts.proofs.report.append_nodes.Given as goal

-- The nodes before this one are written.
abbrev pub invariant-loop-node : goal.invariant-loop-node
invariant-loop-node l = l.out.items ≡ l.initial.out.items ++ flat_map (node_line l.high l.low) (enumerate_from 0 (take l.node l.names))
