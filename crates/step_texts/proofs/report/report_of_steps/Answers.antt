use Rattle.std.proofs.Common.{◌≡◌, ℕ, ℤ, ◌<◌, ◌≤◌, List, [], ◌∷◌, codes, length, take, get_or, sym, ap, ◌++◌, ◌∙◌, append_assoc, arith}
use Rattle.std.specs.List.{flat_map, enumerate_from, zip}
use Rattle.std.proofs.lemmas.List.{get_or_default, take_all}
use Rattle.signoff_report.specs.Report.{line_of}
use Rattle.step_texts.specs.Texts.{step_line, node_lines, reported_step}
use Rattle.step_texts.proofs.Numbered.{numbered_more, grown, length-side, element-side}
use Rattle.step_texts.proofs.report.report_of_steps.Goals as goal

pub loop-step-preserved : goal.loop-step-preserved
loop-step-preserved c =
    let i = c.loop-step.step in
    let out : List ℕ = c.loop-step.out.items in
    let names : List (List ℕ) = c.args.names.now in
    let high : List (List ℤ) = c.args.high.now in
    let low : List (List ℤ) = c.args.low.now in
    let step = reported_step names in
    let both = zip high low in
    let within : i < length high = c.loop-step-test.true in
    let within_low : i < length low = omega (arith, within, c.requires.steps) in
    let within_both : i < length both = omega (arith, within, length-side high low c.requires.steps) in
    let h : c.as_slice.result.now ≡ get_or high i [] = c.as_slice.ensures ∙ c.index-high-step.is ∙ get_or_default high i c.index-high-step.result [] within in
    let l : c.as_slice-in-loop-step.result.now ≡ get_or low i [] = c.as_slice-in-loop-step.ensures ∙ c.index-low-step.is ∙ get_or_default low i c.index-low-step.result [] within_low in
    let piece = ap (λ x. step (i, (x, c.as_slice-in-loop-step.result.now))) h ∙ ap (λ x. step (i, (get_or high i [], x))) l ∙ ap (λ x. step (i, x)) (sym (element-side high low i [] [] within c.requires.steps)) in
    let nodes : List ℕ = node_lines names c.as_slice.result.now c.as_slice-in-loop-step.result.now in
    let new = c.in_ok-append_nodes.ensures ∙ ap (λ x. x ++ nodes) c.in_ok-append_step.ensures ∙ append_assoc out (step_line i) nodes ∙ ap (λ x. out ++ x) piece in
    grown (line_of (codes "pdn steps 1" ∷ [])) out _ (flat_map step (enumerate_from 0 (take i both))) _ _ c.loop-step.invariant new (numbered_more step both i ([], []) within_both)

pub returns : goal.returns
returns c =
    let high : List (List ℤ) = c.args.high.now in
    let low : List (List ℤ) = c.args.low.now in
    let step = reported_step c.args.names.now in
    let first : List ℕ = line_of (codes "pdn steps 1" ∷ []) in
    let last : List ℕ = line_of (codes "end" ∷ []) in
    let past : length (zip high low) ≤ c.loop-step.step = omega (arith, length-side high low c.requires.steps, c.loop-step-test.false) in
    let all = c.loop-step.invariant ∙ ap (λ x. first ++ flat_map step (enumerate_from 0 x)) (take_all c.loop-step.step (zip high low) past) in
    c.in_ok-extend_from_slice-2.ensures.items ∙ ap (λ x. x ++ last) all ∙ append_assoc first (flat_map step (enumerate_from 0 (zip high low))) last
