use Rattle.std.proofs.Common.{◌≡◌, ◌++◌, ◌∷◌, [], take, codes}
use Rattle.std.specs.List.{flat_map, enumerate_from, zip}
use Rattle.signoff_report.specs.Report.{line_of}
use Rattle.step_texts.specs.Texts.{reported_step}
use Rattle.step_texts.proofs.report.report_of_steps.Given as goal

-- The first line and the steps before this one are written.
abbrev pub invariant-loop-step : goal.invariant-loop-step
invariant-loop-step l = l.out.items ≡ line_of (codes "pdn steps 1" ∷ []) ++ flat_map (reported_step l.names) (enumerate_from 0 (take l.step (zip l.high l.low)))
