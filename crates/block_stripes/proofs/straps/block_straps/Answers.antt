use Rattle.std.proofs.Common.{◌≡◌, ◌<◌, ◌≤◌, ◌⊎◌, List, Contains, filter, length, get_or, subst, sym, ap, ◌∙◌}
use Rattle.std.specs.Bool.{MatchBool}
use Rattle.std.proofs.lemmas.List.{take_all}
use Rattle.std.proofs.lemmas.List.Elements.{Contains-get_or}
use Rattle.grid_pieces.specs.declared.error.Counted.TheVariants.{Lines}
use Rattle.grid_pieces.specs.declared.error.DrawError.{DrawError}
use Rattle.grid_pieces.specs.declared.error.DrawError.TheVariants.{TooMany, Want}
use Rattle.grid_plan.specs.declared.record.Straps.{Straps}
use Rattle.grid_shapes.specs.Site.{grid_of}
use Rattle.block_stripes.specs.Blocks.{boxes_of}
use Rattle.block_stripes.specs.Straps.{AreJoined, AreStrapsOver, AreBlockStraps, StrapsAreMany}
use Rattle.block_stripes.specs.inside.Adding.{AddsStraps}
use Rattle.block_stripes.proofs.Joined.{joined_passed}
use Rattle.block_stripes.proofs.Passed.{err_on}
use Rattle.block_stripes.proofs.StrapsKeep.{block_straps_keep}
use Rattle.block_stripes.proofs.straps.block_straps.Goals as goal

pub add_command-requires-clause-straps : goal.add_command-requires-clause-straps
add_command-requires-clause-straps c =
    let items = c.as_slice-straps-items.result.now in
    subst (Contains c.args.plan.now.straps) (sym c.straps-item.is)
    (subst (λ (xs : List Straps). Contains xs (get_or items c.loop-straps.straps-index c.straps-item.result)) c.as_slice-straps-items.ensures
    (Contains-get_or items c.loop-straps.straps-index c.straps-item.result c.loop-straps-test.true))

pub returns-in_err-add_command-clause-refused : goal.returns-in_err-add_command-clause-refused
returns-in_err-add_command-clause-refused c =
    err_on (λ (error : DrawError). (error ≡ Want) ⊎ ((error ≡ TooMany Lines) × StrapsAreMany c.args.plan.now c.args.boxes.now)) c.from_residual.result
    c.in_err-add_command.field-0.0 c.from_residual.ensures.1 c.in_err-add_command.ensures.refused

pub loop-straps-preserved : goal.loop-straps-preserved
loop-straps-preserved c =
    let plan = c.args.plan.now in
    let boxes = c.args.boxes.now in
    let items = c.as_slice-straps-items.result.now in
    let i = c.loop-straps.straps-index in
    let d = c.straps-item.result in
    let before = c.loop-straps.shapes.items in
    let after = c.add_command.new.shapes.items in
    let within : i < length plan.straps = subst (λ (xs : List Straps). i < length xs) c.as_slice-straps-items.ensures c.loop-straps-test.true in
    let is : d ≡ get_or plan.straps i d = c.straps-item.is ∙ ap (λ (xs : List Straps). get_or xs i d) c.as_slice-straps-items.ensures in
    joined_passed (λ (s : Straps). AreStrapsOver s (boxes_of boxes s.grid)) (λ (s : Straps). (grid_of plan s.grid).over_macros) plan.straps i d before after within
    c.loop-straps.invariant
    (subst (λ (s : Straps). MatchBool (grid_of plan s.grid).over_macros (AddsStraps s (boxes_of boxes s.grid) before after) (after ≡ before)) is
    c.in_ok-add_command.ensures.added)

pub returns-clause-straps : goal.returns-clause-straps
returns-clause-straps c =
    let plan = c.args.plan.now in
    let boxes = c.args.boxes.now in
    let i = c.loop-straps.straps-index in
    let draws = λ (s : Straps). AreStrapsOver s (boxes_of boxes s.grid) in
    let p = λ (s : Straps). (grid_of plan s.grid).over_macros in
    let past : length plan.straps ≤ i = subst (λ (xs : List Straps). length xs ≤ i) c.as_slice-straps-items.ensures c.loop-straps-test.false in
    subst (λ (xs : List Straps). AreJoined draws (filter p xs) c.loop-straps.shapes.items) (take_all i plan.straps past) c.loop-straps.invariant

pub returns-clause-keep : goal.returns-clause-keep
returns-clause-keep c =
    let plan = c.args.plan.now in
    let boxes = c.args.boxes.now in
    let i = c.loop-straps.straps-index in
    let draws = λ (s : Straps). AreStrapsOver s (boxes_of boxes s.grid) in
    let p = λ (s : Straps). (grid_of plan s.grid).over_macros in
    let past : length plan.straps ≤ i = subst (λ (xs : List Straps). length xs ≤ i) c.as_slice-straps-items.ensures c.loop-straps-test.false in
    let are : AreBlockStraps plan boxes c.loop-straps.shapes.items =
    subst (λ (xs : List Straps). AreJoined draws (filter p xs) c.loop-straps.shapes.items) (take_all i plan.straps past) c.loop-straps.invariant in
    block_straps_keep c.args.tech.now plan boxes c.loop-straps.shapes.items c.requires.plan c.requires.boxes are
