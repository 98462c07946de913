use Rattle.std.proofs.Common.{◌≡◌, ◌++◌, take}
use Rattle.std.specs.List.{flat_map, enumerate_from}
use Rattle.signoff_report.specs.Report.{node_line}
use Rattle.signoff_report.proofs.text.append_nodes.Given as goal

-- The nodes before this one are written.
abbrev pub invariant-loop-place : goal.invariant-loop-place
invariant-loop-place l = l.out.items ≡ l.initial.out.items ++ flat_map (node_line l.certified) (enumerate_from 0 (take l.place l.names))
