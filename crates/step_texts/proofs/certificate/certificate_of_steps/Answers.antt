use Rattle.std.proofs.Common.{◌≡◌, ℕ, ℤ, ◌<◌, ◌≤◌, List, [], length, take, get_or, sym, ap, ◌++◌, ◌∙◌, arith}
use Rattle.std.specs.List.{flat_map, enumerate_from, zip}
use Rattle.std.proofs.lemmas.List.{get_or_default, take_all}
use Rattle.step_texts.specs.Texts.{certified_step}
use Rattle.step_texts.proofs.Numbered.{numbered_more, length-side, element-side}
use Rattle.step_texts.proofs.certificate.certificate_of_steps.Goals as goal

pub loop-step-preserved : goal.loop-step-preserved
loop-step-preserved c =
    let i = c.loop-step.step in
    let high : List (List ℤ) = c.args.high.now in
    let low : List (List ℤ) = c.args.low.now in
    let step = certified_step c.args.names.now in
    let both = zip high low in
    let within : i < length high = c.loop-step-test.true in
    let within_low : i < length low = omega (arith, within, c.requires.steps) in
    let within_both : i < length both = omega (arith, within, length-side high low c.requires.steps) in
    let h : c.as_slice.result.now ≡ get_or high i [] = c.as_slice.ensures ∙ c.index-high-step.is ∙ get_or_default high i c.index-high-step.result [] within in
    let l : c.as_slice-in-loop-step.result.now ≡ get_or low i [] = c.as_slice-in-loop-step.ensures ∙ c.index-low-step.is ∙ get_or_default low i c.index-low-step.result [] within_low in
    let piece = ap (λ x. step (i, (x, c.as_slice-in-loop-step.result.now))) h ∙ ap (λ x. step (i, (get_or high i [], x))) l ∙ ap (λ x. step (i, x)) (sym (element-side high low i [] [] within c.requires.steps)) in
    c.in_ok-append_certificate.ensures ∙ ap (λ x. c.loop-step.text.items ++ x) piece
    ∙ ap (λ x. x ++ step (i, get_or both i ([], []))) c.loop-step.invariant
    ∙ sym (numbered_more step both i ([], []) within_both)

pub returns : goal.returns
returns c =
    let high : List (List ℤ) = c.args.high.now in
    let low : List (List ℤ) = c.args.low.now in
    let past : length (zip high low) ≤ c.loop-step.step = omega (arith, length-side high low c.requires.steps, c.loop-step-test.false) in
    c.loop-step.invariant ∙ ap (λ x. flat_map (certified_step c.args.names.now) (enumerate_from 0 x)) (take_all c.loop-step.step (zip high low) past)
