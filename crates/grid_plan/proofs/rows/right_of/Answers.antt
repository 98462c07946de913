use Rattle.std.proofs.Common.{◌≡◌, ◌+ℤ◌, ◌-ℤ◌, ◌*ℤ◌, pos, ℤ, IfSome, SFits, w64, rules, sym, subst, ap, ◌∙◌}
use Rattle.std.proofs.lemmas.Int.{to_z-of_z}
use Rattle.grid_plan.proofs.rows.right_of.Goals as goal

pub returns : goal.returns
returns c =
    let x : SFits w64 c.args.x = c.ranges.x in
    let count : SFits w64 c.args.count = c.ranges.count in
    let step : SFits w64 c.args.step = c.ranges.step in
    let width : SFits w64 c.args.width = c.ranges.width in
    let steps_is : c.in_ok-steps.steps ≡ c.args.count -ℤ pos 1 = simp to_z-of_z at c.in_ok-steps.ensures.1 in
    let steps : SFits w64 c.in_ok-steps.steps = subst (SFits w64) (sym c.in_ok-steps.ensures.1) c.in_ok-steps.ensures.0 in
    let far_is : c.in_ok-far.far ≡ c.in_ok-steps.steps *ℤ c.args.step = simp to_z-of_z at c.in_ok-far.ensures.1 in
    let far : SFits w64 c.in_ok-far.far = subst (SFits w64) (sym c.in_ok-far.ensures.1) c.in_ok-far.ensures.0 in
    let last_is : c.in_ok-last.last ≡ c.args.x +ℤ c.in_ok-far.far = simp to_z-of_z at c.in_ok-last.ensures.1 in
    let last : SFits w64 c.in_ok-last.last = subst (SFits w64) (sym c.in_ok-last.ensures.1) c.in_ok-last.ensures.0 in
    let told = simp to_z-of_z at c.checked_add-2.ensures in
    let plain : IfSome c.checked_add-2.result (λ (z : ℤ). z ≡ c.in_ok-last.last +ℤ c.args.width) = search rules in
    let sum : c.in_ok-last.last +ℤ c.args.width ≡ c.args.x +ℤ (c.args.count -ℤ pos 1) *ℤ c.args.step +ℤ c.args.width =
    ap (λ (q : ℤ). q +ℤ c.args.width) (last_is ∙ ap (λ (q : ℤ). c.args.x +ℤ q) (far_is ∙ ap (λ (q : ℤ). q *ℤ c.args.step) steps_is)) in
    subst (λ (v : ℤ). IfSome c.checked_add-2.result (λ (z : ℤ). z ≡ v)) sum plain
