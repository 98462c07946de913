use Rattle.std.proofs.Common.{◌≡◌, ◌++◌, take}
use Rattle.std.specs.List.{flat_map, enumerate_from, zip}
use Rattle.signoff_report.specs.Report.{branch_line}
use Rattle.signoff_report.proofs.text.append_branches.Given as goal

-- The branches before this one are written.
abbrev pub invariant-loop-branch : goal.invariant-loop-branch
invariant-loop-branch l =
    l.out.items ≡ l.initial.out.items ++ flat_map (branch_line l.certified l.names) (enumerate_from 1 (take l.branch (zip l.certified.net.resistors l.limits.branches)))
