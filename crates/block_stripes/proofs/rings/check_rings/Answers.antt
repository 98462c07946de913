use Rattle.std.proofs.Common.{◌≡◌, ◌<◌, ◌≤◌, ◌⊎◌, List, All, Contains, length, get_or, sym, ap, ◌∙◌, subst}
use Rattle.std.proofs.lemmas.List.{take_all}
use Rattle.std.proofs.lemmas.List.Elements.{All-more, Contains-get_or}
use Rattle.grid_pieces.specs.declared.error.Counted.TheVariants.{Lines}
use Rattle.grid_pieces.specs.declared.error.DrawError.{DrawError}
use Rattle.grid_pieces.specs.declared.error.DrawError.TheVariants.{TooMany, Want}
use Rattle.grid_plan.specs.declared.record.RingAt.{RingAt}
use Rattle.block_stripes.specs.Rings.{AreFew, RingsAreMany}
use Rattle.block_stripes.proofs.Passed.{err_on}
use Rattle.block_stripes.proofs.rings.check_rings.Goals as goal

pub check_ring-requires-clause-ring : goal.check_ring-requires-clause-ring
check_ring-requires-clause-ring c =
    let items = c.as_slice-ring-items.result.now in
    subst (Contains c.args.plan.now.rings) (sym c.ring-item.is)
    (subst (λ (xs : List RingAt). Contains xs (get_or items c.loop-ring.ring-index c.ring-item.result)) c.as_slice-ring-items.ensures
    (Contains-get_or items c.loop-ring.ring-index c.ring-item.result c.loop-ring-test.true))

pub returns-in_err-check_ring-clause-refused : goal.returns-in_err-check_ring-clause-refused
returns-in_err-check_ring-clause-refused c =
    err_on (λ (error : DrawError). (error ≡ Want) ⊎ ((error ≡ TooMany Lines) × RingsAreMany c.args.plan.now c.args.boxes.now)) c.from_residual.result
    c.in_err-check_ring.field-0.0 c.from_residual.ensures.1 c.in_err-check_ring.ensures.refused

pub loop-ring-preserved : goal.loop-ring-preserved
loop-ring-preserved c =
    let plan = c.args.plan.now in
    let boxes = c.args.boxes.now in
    let i = c.loop-ring.ring-index in
    let d = c.ring-item.result in
    let within : i < length plan.rings = subst (λ (xs : List RingAt). i < length xs) c.as_slice-ring-items.ensures c.loop-ring-test.true in
    let is : d ≡ get_or plan.rings i d = c.ring-item.is ∙ ap (λ (xs : List RingAt). get_or xs i d) c.as_slice-ring-items.ensures in
    All-more (AreFew plan boxes) plan.rings i d within c.loop-ring.invariant (subst (AreFew plan boxes) is c.in_ok-check_ring.ensures.few)

pub returns-clause-few : goal.returns-clause-few
returns-clause-few c =
    let plan = c.args.plan.now in
    let i = c.loop-ring.ring-index in
    let past : length plan.rings ≤ i = subst (λ (xs : List RingAt). length xs ≤ i) c.as_slice-ring-items.ensures c.loop-ring-test.false in
    subst (All (AreFew plan c.args.boxes.now)) (take_all i plan.rings past) c.loop-ring.invariant
