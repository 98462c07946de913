use Rattle.std.proofs.Common.{take, map}
use Rattle.std.specs.List.{enumerate_from}
use Rattle.signoff_report.specs.Judged.{net_verdict}
use Rattle.signoff_report.specs.Counted.{IsTally}
use Rattle.signoff_report.proofs.counting.count_nets.Given as goal

-- The nets before this one are counted.
abbrev pub invariant-loop-net : goal.invariant-loop-net
invariant-loop-net l = IsTally (map (λ net. net_verdict l.certified l.limits net.0 net.1) (enumerate_from 0 (take l.net l.limits.nets))) l.tally
