use Rattle.std.proofs.Common.{◌≡◌, ◌++◌, take}
use Rattle.std.specs.List.{flat_map, enumerate_from}
use Rattle.signoff_report.specs.Report.{net_line}
use Rattle.signoff_report.proofs.text.append_nets.Given as goal

-- The nets before this one are written.
abbrev pub invariant-loop-place : goal.invariant-loop-place
invariant-loop-place l = l.out.items ≡ l.initial.out.items ++ flat_map (net_line l.certified l.limits) (enumerate_from 0 (take l.place l.limits.nets))
