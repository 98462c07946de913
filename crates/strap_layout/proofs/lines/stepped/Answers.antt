use Rattle.std.proofs.Common.{◌≡◌, pos, ◌*ℤ◌, ap, subst, sym, ◌∙◌, arith, SFits, w64, to_z, of_z, rules}
use Rattle.std.specs.Int.{w128}
use Rattle.std.proofs.lemmas.Int.{ints, to_z-of_z, to_z_pos}
use Rattle.strap_layout.proofs.lines.stepped.Goals as goal

pub overflow_mul-result : goal.overflow_mul-result
overflow_mul-result c =
    let far = c.requires.far in
    let low = far.0 in
    let high = far.1 in
    let steps : to_z w128 c.args.steps ≡ pos c.args.steps = to_z_pos w128 c.args.steps (omega arith) in
    let wide : SFits w128 c.from.result = search rules in
    let step : to_z w128 (of_z w128 c.from.result) ≡ c.args.step = to_z-of_z w128 c.from.result wide ∙ c.from.ensures ∙ to_z-of_z w64 c.args.step c.ranges.step in
    let fits : SFits w128 (pos c.args.steps *ℤ c.args.step) = omega (arith, ints) in
    subst (SFits w128) (sym (ap (λ n. n *ℤ to_z w128 (of_z w128 c.from.result)) steps ∙ ap (λ z. pos c.args.steps *ℤ z) step)) fits
