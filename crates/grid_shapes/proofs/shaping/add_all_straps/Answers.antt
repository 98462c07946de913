use Rattle.std.proofs.Common.{◌≡◌, ◌<◌, ◌≤◌, ◌⊎◌, List, Contains, length, get_or, subst, sym, ap, ◌∙◌}
use Rattle.std.proofs.lemmas.List.{take_all}
use Rattle.std.proofs.lemmas.List.Elements.{Contains-get_or}
use Rattle.grid_plan.specs.declared.record.Straps.{Straps}
use Rattle.grid_shapes.specs.Shapes.{AreOfEach, Draws, DrawStraps, StrapsAreMany}
use Rattle.grid_shapes.specs.inside.Sites.{Adds}
use Rattle.grid_pieces.specs.declared.error.Counted.TheVariants.{Lines}
use Rattle.grid_pieces.specs.declared.error.DrawError.{DrawError}
use Rattle.grid_pieces.specs.declared.error.DrawError.TheVariants.{TooMany, Want}
use Rattle.grid_shapes.proofs.Each.{each_more}
use Rattle.grid_shapes.proofs.Passed.{err_on}
use Rattle.grid_shapes.proofs.shaping.add_all_straps.Goals as goal

pub add_straps-requires-clause-straps : goal.add_straps-requires-clause-straps
add_straps-requires-clause-straps c =
    let items = c.as_slice-straps-items.result.now in
    subst (Contains c.args.plan.now.straps) (sym c.straps-item.is)
    (subst (λ (xs : List Straps). Contains xs (get_or items c.loop-straps.straps-index c.straps-item.result)) c.as_slice-straps-items.ensures
    (Contains-get_or items c.loop-straps.straps-index c.straps-item.result c.loop-straps-test.true))

pub loop-straps-preserved : goal.loop-straps-preserved
loop-straps-preserved c =
    let plan = c.args.plan.now in
    let items = c.as_slice-straps-items.result.now in
    let i = c.loop-straps.straps-index in
    let d = c.straps-item.result in
    let draws = λ (s : Straps). Draws plan s.grid (DrawStraps plan s) in
    let old = c.args.shapes.now.items in
    let before = c.loop-straps.shapes.items in
    let after = c.add_straps.new.shapes.items in
    let within : i < length plan.straps = subst (λ (xs : List Straps). i < length xs) c.as_slice-straps-items.ensures c.loop-straps-test.true in
    let is : d ≡ get_or plan.straps i d = c.straps-item.is ∙ ap (λ (xs : List Straps). get_or xs i d) c.as_slice-straps-items.ensures in
    each_more draws plan.straps i d old before after within c.loop-straps.invariant (subst (λ (s : Straps). Adds (draws s) before after) is c.in_ok-add_straps.ensures.added)

pub returns-in_err-add_straps-clause-refused : goal.returns-in_err-add_straps-clause-refused
returns-in_err-add_straps-clause-refused c =
    err_on (λ (error : DrawError). (error ≡ Want) ⊎ ((error ≡ TooMany Lines) × StrapsAreMany c.args.plan.now)) c.from_residual.result c.in_err-add_straps.field-0.0
    c.from_residual.ensures.1 c.in_err-add_straps.ensures.refused

pub returns-clause-added : goal.returns-clause-added
returns-clause-added c =
    let plan = c.args.plan.now in
    let i = c.loop-straps.straps-index in
    let draws = λ (x : Straps). Draws plan x.grid (DrawStraps plan x) in
    let past : length plan.straps ≤ i = subst (λ (xs : List Straps). length xs ≤ i) c.as_slice-straps-items.ensures c.loop-straps-test.false in
    subst (λ (xs : List Straps). Adds (AreOfEach draws xs) c.args.shapes.now.items c.loop-straps.shapes.items) (take_all i plan.straps past) c.loop-straps.invariant
