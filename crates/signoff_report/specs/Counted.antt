-- The summary: the sizes of a network, and how many verdicts of each kind its nets and branches have.
use Rattle.std.specs.Prelude.{◌≡◌, ◌<◌, ◌^◌, ℕ, List, ◌++◌, length, map, count_by}
use Rattle.std.specs.List.{enumerate_from, zip}
use Rattle.bound_check.specs.Certified.{Certificate}
use Rattle.em_rules.specs.declared.words.Verdict.{Verdict}
use Rattle.signoff_report.specs.declared.records.Limits.{Limits}
use Rattle.signoff_report.specs.declared.counts.Summary.{Summary}
use Rattle.signoff_report.specs.declared.counting.Tally.{Tally}
use Rattle.signoff_report.specs.Judged.{branch_verdict, net_verdict, is_safe, is_unsafe, is_undecided, has_no_limit}

-- The verdicts of the nets, in their order.
abbrev pub net_verdicts : Certificate → Limits → List Verdict
net_verdicts c limits = map (λ net. net_verdict c limits net.0 net.1) (enumerate_from 0 limits.nets)

-- The verdicts of the branches, in the order of the resistors.
abbrev pub branch_verdicts : Certificate → Limits → List Verdict
branch_verdicts c limits = map (branch_verdict c) (zip c.net.resistors limits.branches)

-- The numbers of the summary line.
abbrev pub summary_of : Certificate → Limits → Summary
summary_of c limits = let verdicts = net_verdicts c limits ++ branch_verdicts c limits in record {
  nodes = c.net.nodes;
  resistors = length c.net.resistors;
  pads = length c.net.pads;
  safe = count_by is_safe verdicts;
  unsafe_ = count_by is_unsafe verdicts;
  undecided = count_by is_undecided verdicts;
  no_limit = count_by has_no_limit verdicts;
  sweeps = c.sweeps;
}

-- The tally counts the verdicts of each kind.
pub record IsTally (verdicts : List Verdict) (tally : Tally) : Type 0 where
  pub safe : tally.safe ≡ count_by is_safe verdicts
  pub unsafe_ : tally.unsafe_ ≡ count_by is_unsafe verdicts
  pub undecided : tally.undecided ≡ count_by is_undecided verdicts
  pub no_limit : tally.no_limit ≡ count_by has_no_limit verdicts

-- One verdict more of any kind can be counted.
pub record HasRoom (tally : Tally) : Type 0 where
  pub safe : tally.safe < 2 ^ 63
  pub unsafe_ : tally.unsafe_ < 2 ^ 63
  pub undecided : tally.undecided < 2 ^ 63
  pub no_limit : tally.no_limit < 2 ^ 63
