use Rattle.std.proofs.Common.{take, map, ◌++◌}
use Rattle.std.specs.List.{zip}
use Rattle.signoff_report.specs.Judged.{branch_verdict}
use Rattle.signoff_report.specs.Counted.{IsTally, net_verdicts}
use Rattle.signoff_report.proofs.counting.count_branches.Given as goal

-- The nets are counted, and the branches before this one.
abbrev pub invariant-loop-branch : goal.invariant-loop-branch
invariant-loop-branch l =
    IsTally (net_verdicts l.certified l.limits ++ map (branch_verdict l.certified) (take l.branch (zip l.certified.net.resistors l.limits.branches))) l.tally
