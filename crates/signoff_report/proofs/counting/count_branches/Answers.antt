use Rattle.std.proofs.Common.{◌≡◌, ℕ, ◌<◌, ◌≤◌, ◌+◌, ◌^◌, List, [], ◌++◌, length, take, map, get_or, pos, Option, None, ap, sym, ◌∙◌, subst, rules, arith}
use Rattle.std.specs.List.{enumerate_from, zip}
use Rattle.std.proofs.lemmas.List.{take_all}
use Rattle.grid_net.specs.declared.part.Resistor.{Resistor}
use Rattle.em_rules.specs.declared.words.Verdict.{Verdict}
use Rattle.signoff_report.specs.declared.records.NetLimit.{NetLimit}
use Rattle.signoff_report.specs.Judged.{branch_verdict, net_verdict}
use Rattle.signoff_report.specs.Counted.{IsTally, net_verdicts}
use Rattle.signoff_report.proofs.Lines.{get_or-zip, length-zip}
use Rattle.signoff_report.proofs.Tallies.{room, one_more, pushed, few, numbered_all}
use Rattle.signoff_report.proofs.counting.count_branches.Goals as goal

pub add-tally-requires : goal.add-tally-requires
add-tally-requires c =
    let rs : List Resistor = c.args.certified.now.net.resistors in
    let bs : List (Option ℕ) = c.args.limits.now.branches in
    let nets : List NetLimit = c.args.limits.now.nets in
    let i = c.loop-branch.branch in
    let before = net_verdicts c.args.certified.now c.args.limits.now in
    let f = branch_verdict c.args.certified.now in
    let within : i ≤ length (zip rs bs) = omega (arith, length-zip rs bs (sym c.requires.limits.one_a_branch), c.loop-branch-test.true, c.branch_count-branch-end.ensures) in
    let count = few before f (zip rs bs) i within in
    let first = numbered_all (λ (net : ℕ × NetLimit). net_verdict c.args.certified.now c.args.limits.now net.0 net.1) nets in
    let small : i < 2 ^ 32 = search rules in
    room (before ++ map f (take i (zip rs bs))) c.loop-branch.tally c.loop-branch.invariant (omega (arith, count, first, c.requires.limits.few_nets))

pub loop-branch-preserved : goal.loop-branch-preserved
loop-branch-preserved c =
    let none : Resistor = record { a = 0; b = 0; ohms = pos 0 } in
    let rs : List Resistor = c.args.certified.now.net.resistors in
    let bs : List (Option ℕ) = c.args.limits.now.branches in
    let i = c.loop-branch.branch in
    let before = net_verdicts c.args.certified.now c.args.limits.now in
    let f = branch_verdict c.args.certified.now in
    let same : length rs ≡ length bs = sym c.requires.limits.one_a_branch in
    let within : i < length rs = omega (arith, c.loop-branch-test.true, c.branch_count-branch-end.ensures) in
    let in_both : i < length (zip rs bs) = omega (arith, length-zip rs bs same, within) in
    let at = ap f (get_or-zip rs bs i none None within same) in
    let old = before ++ map f (take i (zip rs bs)) in
    one_more old _ c.branch_verdict.result (f (get_or (zip rs bs) i (none, None))) c.add-tally.result (c.add-tally.ensures old c.loop-branch.invariant) (c.branch_verdict.ensures ∙ sym at)
    (pushed before f (zip rs bs) i (none, None) in_both)

pub returns : goal.returns
returns c =
    let rs : List Resistor = c.args.certified.now.net.resistors in
    let bs : List (Option ℕ) = c.args.limits.now.branches in
    let before = net_verdicts c.args.certified.now c.args.limits.now in
    let past : length (zip rs bs) ≤ c.loop-branch.branch = omega (arith, length-zip rs bs (sym c.requires.limits.one_a_branch), c.loop-branch-test.false, c.branch_count-branch-end.ensures) in
    subst (λ (l : List (Resistor × Option ℕ)). IsTally (before ++ map (branch_verdict c.args.certified.now) l) c.loop-branch.tally) (take_all c.loop-branch.branch (zip rs bs) past) c.loop-branch.invariant
