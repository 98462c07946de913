-- The parts of a line, inside this crate.
use Rattle.std.specs.Prelude.{ℕ, ℤ, pos, ◌*ℤ◌, Option, List, [], ◌∷◌, ◌++◌}
use Rattle.fixed_decimal.specs.Printed.{printed}
use Rattle.bound_check.specs.Certified.{nanoampere}
use Rattle.em_rules.specs.Verdict.{verdict_by_ends}
use Rattle.signoff_report.specs.Report.{word_of, stated_limit}

-- The current of a branch, its limit and its verdict, each after a blank, and the end of the line.
abbrev pub flow_text : ℤ × ℤ → Option ℕ → List ℕ
flow_text shown limit =
    32 ∷ (printed shown.0 9 ++ (32 ∷ (printed shown.1 9 ++ (32 ∷ (stated_limit limit ++ (32 ∷ (word_of
    (verdict_by_ends (shown.0 *ℤ pos nanoampere) (shown.1 *ℤ pos nanoampere) limit) ++ 10 ∷ [])))))))
