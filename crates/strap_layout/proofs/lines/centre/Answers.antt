use Rattle.std.proofs.Common.{◌≡◌, ℤ, pos, ◌+ℤ◌, ◌*ℤ◌, ◌^◌, ap, subst, sym, ◌∙◌, rules, SFits, w64}
use Rattle.std.specs.Int.{w128}
use Rattle.std.proofs.lemmas.Int.{to_z-of_z}
use Rattle.strap_layout.specs.inside.Lines.{first_centre_of, IsNear}
use Rattle.strap_layout.proofs.Steps.{centre_fits}
use Rattle.strap_layout.proofs.lines.centre.Goals as goal

pub stepped-requires-clause-few : goal.stepped-requires-clause-few
stepped-requires-clause-few c =
    let x1 : SFits w64 c.args.core.x1 = search rules in
    let y1 : SFits w64 c.args.core.y1 = search rules in
    let x2 : SFits w64 c.args.core.x2 = search rules in
    let y2 : SFits w64 c.args.core.y2 = search rules in
    let near = subst (IsNear (2 ^ 124)) c.first_centre.ensures.value c.first_centre.ensures.near in
    let fits = centre_fits c.args.rule.now c.args.core c.args.place c.args.number c.requires.width c.requires.pitch c.requires.drawn x1 y1 x2 y2 near in
    fits.few

pub stepped-requires-clause-far : goal.stepped-requires-clause-far
stepped-requires-clause-far c =
    let x1 : SFits w64 c.args.core.x1 = search rules in
    let y1 : SFits w64 c.args.core.y1 = search rules in
    let x2 : SFits w64 c.args.core.x2 = search rules in
    let y2 : SFits w64 c.args.core.y2 = search rules in
    let pitch : SFits w64 c.args.rule.now.pitch = search rules in
    let near = subst (IsNear (2 ^ 124)) c.first_centre.ensures.value c.first_centre.ensures.near in
    let fits = centre_fits c.args.rule.now c.args.core c.args.place c.args.number c.requires.width c.requires.pitch c.requires.drawn x1 y1 x2 y2 near in
    simp to_z-of_z fits.far

pub overflow_cast-result : goal.overflow_cast-result
overflow_cast-result c =
    let x1 : SFits w64 c.args.core.x1 = search rules in
    let y1 : SFits w64 c.args.core.y1 = search rules in
    let x2 : SFits w64 c.args.core.x2 = search rules in
    let y2 : SFits w64 c.args.core.y2 = search rules in
    let pitch : SFits w64 c.args.rule.now.pitch = search rules in
    let start : SFits w128 c.first_centre.result = search rules in
    let stepped : SFits w128 c.stepped.result = search rules in
    let near = subst (IsNear (2 ^ 124)) c.first_centre.ensures.value c.first_centre.ensures.near in
    let fits = centre_fits c.args.rule.now c.args.core c.args.place c.args.number c.requires.width c.requires.pitch c.requires.drawn x1 y1 x2 y2 near in
    let way = pos c.args.number *ℤ c.args.rule.now.pitch in
    let is : c.stepped.result ≡ c.first_centre.result +ℤ way = simp to_z-of_z at c.stepped.ensures in
    subst (SFits w64) (sym (to_z-of_z w128 c.stepped.result stepped ∙ is ∙ ap (λ (z : ℤ). z +ℤ way) c.first_centre.ensures.value)) fits.centre

pub returns : goal.returns
returns c =
    let x1 : SFits w64 c.args.core.x1 = search rules in
    let y1 : SFits w64 c.args.core.y1 = search rules in
    let x2 : SFits w64 c.args.core.x2 = search rules in
    let y2 : SFits w64 c.args.core.y2 = search rules in
    let pitch : SFits w64 c.args.rule.now.pitch = search rules in
    let start : SFits w128 c.first_centre.result = search rules in
    let stepped : SFits w128 c.stepped.result = search rules in
    let near = subst (IsNear (2 ^ 124)) c.first_centre.ensures.value c.first_centre.ensures.near in
    let fits = centre_fits c.args.rule.now c.args.core c.args.place c.args.number c.requires.width c.requires.pitch c.requires.drawn x1 y1 x2 y2 near in
    let way = pos c.args.number *ℤ c.args.rule.now.pitch in
    let is : c.stepped.result ≡ c.first_centre.result +ℤ way = simp to_z-of_z at c.stepped.ensures in
    let is_centre : c.stepped.result ≡ first_centre_of c.args.rule.now c.args.core c.args.place +ℤ way =
    is ∙ ap (λ (z : ℤ). z +ℤ way) c.first_centre.ensures.value in
    let fits_centre : SFits w64 c.stepped.result = subst (SFits w64) (sym is_centre) fits.centre in
    simp to_z-of_z is_centre
