use Rattle.std.proofs.Common.{◌≡◌, ◌+◌, ◌<◌, ◌≤◌, ℕ, List, length, take, get_or, Option, None, pos, ap, ◌++◌, ◌∙◌, sym, arith}
use Rattle.std.specs.List.{flat_map, enumerate_from, zip}
use Rattle.std.proofs.lemmas.List.{take_all}
use Rattle.grid_net.specs.declared.part.Resistor.{Resistor}
use Rattle.grid_net.specs.Network.{Network}
use Rattle.signoff_report.specs.Report.{branch_line}
use Rattle.signoff_report.proofs.Lines.{line_more, grown_by_line, get_or-zip, length-zip}
use Rattle.signoff_report.proofs.text.append_branches.Goals as goal

pub loop-branch-preserved : goal.loop-branch-preserved
loop-branch-preserved c =
    let none : Resistor = record { a = 0; b = 0; ohms = pos 0 } in
    let rs : List Resistor = c.args.certified.now.net.resistors in
    let bs : List (Option ℕ) = c.args.limits.now.branches in
    let i = c.loop-branch.branch in
    let test = c.loop-branch-test.true in
    let same : length rs ≡ length bs = sym c.requires.limits.one_a_branch in
    let within : i < length rs = omega (arith, test, c.branch_count-branch-end.ensures) in
    let in_both : i < length (zip rs bs) = omega (arith, length-zip rs bs same, within) in
    let line = branch_line c.args.certified.now c.args.names.now in
    let at = ap (λ (b : Resistor × Option ℕ). line (i + 1, b)) (get_or-zip rs bs i none None within same) in
    let k : 1 + i ≡ i + 1 = omega arith in
    grown_by_line _ _ _ (flat_map line (enumerate_from 1 (take i (zip rs bs)))) _ _ c.loop-branch.invariant
    (c.in_ok-append_branch.ensures ∙ ap (λ l. c.loop-branch.out.items ++ l) (sym at))
    (line_more line 1 (i + 1) (zip rs bs) i (none, None) in_both k)

pub returns : goal.returns
returns c =
    let rs : List Resistor = c.args.certified.now.net.resistors in
    let bs : List (Option ℕ) = c.args.limits.now.branches in
    let line = branch_line c.args.certified.now c.args.names.now in
    let past : length (zip rs bs) ≤ c.loop-branch.branch = omega (arith, length-zip rs bs (sym c.requires.limits.one_a_branch), c.loop-branch-test.false, c.branch_count-branch-end.ensures) in
    c.loop-branch.invariant ∙ ap (λ (l : List (Resistor × Option ℕ)). c.args.out.now.items ++ flat_map line (enumerate_from 1 l)) (take_all c.loop-branch.branch (zip rs bs) past)
