use Rattle.std.proofs.Common.{◌≡◌, ℕ, ℤ, pos, ◌+ℤ◌, ◌-ℤ◌, ◌*ℤ◌, ◌≤ℤ◌, ◌≤◌, ◌↔◌, ap, subst, ◌∙◌, rules, arith, SFits, w64}
use Rattle.std.specs.Int.{w128}
use Rattle.std.proofs.lemmas.Int.{ints, to_z-of_z, quot_fits}
use Rattle.geom_rect.specs.declared.run.Run.{Run}
use Rattle.geom_rect.specs.Drawn.{half}
use Rattle.strap_layout.specs.Lines.{across}
use Rattle.strap_layout.proofs.Steps.{drawn_between}
use Rattle.strap_layout.proofs.lines.drawn_lines.Goals as goal

pub returns : goal.returns
returns c =
    let rule = c.args.rule.now in
    let core = c.args.core in
    let width : SFits w64 rule.width = search rules in
    let pitch : SFits w64 rule.pitch = search rules in
    let from : SFits w64 c.across-across.result.from = search rules in
    let to : SFits w64 c.across-across.result.to = search rules in
    let start : SFits w128 c.first_centre-start.result = search rules in
    let half_fits : SFits w64 (half rule.width) = quot_fits w64 rule.width (pos 2) width (omega (arith, ints)) in
    let is_half : c.from-half.result ≡ half rule.width = simp to_z-of_z at c.from-half.ensures in
    let is_from : c.from.result ≡ c.across-across.result.from = simp to_z-of_z at c.from.ensures in
    let is_to : c.from-2.result ≡ c.across-across.result.to = simp to_z-of_z at c.from-2.ensures in
    let half_wide : SFits w128 c.from-half.result = search rules in
    let from_wide : SFits w128 c.from.result = search rules in
    let to_wide : SFits w128 c.from-2.result = search rules in
    let low_wide : SFits w128 (c.from.result +ℤ c.from-half.result) = omega (arith, ints) in
    let high_wide : SFits w128 (c.from-2.result -ℤ c.from-half.result) = omega (arith, ints) in
    let past_wide : SFits w128 ((c.from-2.result -ℤ c.from-half.result) +ℤ pos 1) = omega (arith, ints) in
    let low_is : (c.from.result +ℤ c.from-half.result) ≡ (across rule.axis core).from +ℤ half rule.width =
    ap (λ (z : ℤ). z +ℤ c.from-half.result) (is_from ∙ ap (λ (run : Run). run.from) c.across-across.ensures)
    ∙ ap (λ (z : ℤ). (across rule.axis core).from +ℤ z) is_half in
    let past_is : ((c.from-2.result -ℤ c.from-half.result) +ℤ pos 1) ≡ ((across rule.axis core).to -ℤ half rule.width) +ℤ pos 1 =
    ap (λ (z : ℤ). (z -ℤ c.from-half.result) +ℤ pos 1) (is_to ∙ ap (λ (run : Run). run.to) c.across-across.ensures)
    ∙ ap (λ (z : ℤ). ((across rule.axis core).to -ℤ z) +ℤ pos 1) is_half in
    drawn_between rule core c.args.place c.first_centre-start.result c.least_steps-first.result c.least_steps-end.result c.below_stated.result c.requires.place
    c.first_centre-start.ensures.value
    (subst (λ (z : ℤ). (k : ℕ) → (z ≤ℤ (c.first_centre-start.result +ℤ pos k *ℤ rule.pitch)) ↔ (c.least_steps-first.result ≤ k)) low_is
    (simp to_z-of_z at c.least_steps-first.ensures))
    (subst (λ (z : ℤ). (k : ℕ) → (z ≤ℤ (c.first_centre-start.result +ℤ pos k *ℤ rule.pitch)) ↔ (c.least_steps-end.result ≤ k)) past_is
    (simp to_z-of_z at c.least_steps-end.ensures))
    c.below_stated.ensures
