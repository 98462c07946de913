use Rattle.std.proofs.Common.{◌≡◌, ◌++◌, ◌<◌, ◌≤◌, cond, [], List, filter, length, get_or, sym, ap, ◌∙◌, subst}
use Rattle.std.specs.Bool.{nat_eq}
use Rattle.std.specs.List.{flat_map}
use Rattle.std.proofs.lemmas.List.{take_all}
use Rattle.grid_plan.specs.declared.record.RingAt.{RingAt}
use Rattle.grid_plan.specs.Keeping.{RingKeeps}
use Rattle.grid_shapes.specs.Site.{grid_of}
use Rattle.block_stripes.specs.Rings.{ring_shapes, AreFew}
use Rattle.block_stripes.proofs.Flat.{flat_passed}
use Rattle.block_stripes.proofs.RingsKeep.{around_fits}
use Rattle.block_stripes.proofs.rings.add_rings.Goals as goal

pub add_ring-requires-clause-width_v : goal.add_ring-requires-clause-width_v
add_ring-requires-clause-width_v c =
    let tech = c.requires.plan.0 in
    let plan = c.args.plan.now in
    let i = c.loop-ring.ring-index in
    let d = c.ring-item.result in
    let within : i < length plan.rings = subst (λ (xs : List RingAt). i < length xs) c.as_slice-ring-items.ensures c.loop-ring-test.true in
    let is : d ≡ get_or plan.rings i d = c.ring-item.is ∙ ap (λ (xs : List RingAt). get_or xs i d) c.as_slice-ring-items.ensures in
    (subst (RingKeeps tech plan) (sym is) (c.requires.plan.1.rings i d within)).width_v.0

pub add_ring-requires-clause-width_h : goal.add_ring-requires-clause-width_h
add_ring-requires-clause-width_h c =
    let tech = c.requires.plan.0 in
    let plan = c.args.plan.now in
    let i = c.loop-ring.ring-index in
    let d = c.ring-item.result in
    let within : i < length plan.rings = subst (λ (xs : List RingAt). i < length xs) c.as_slice-ring-items.ensures c.loop-ring-test.true in
    let is : d ≡ get_or plan.rings i d = c.ring-item.is ∙ ap (λ (xs : List RingAt). get_or xs i d) c.as_slice-ring-items.ensures in
    (subst (RingKeeps tech plan) (sym is) (c.requires.plan.1.rings i d within)).width_h.0

pub add_ring-requires-clause-fits : goal.add_ring-requires-clause-fits
add_ring-requires-clause-fits c same =
    let tech = c.requires.plan.0 in
    let plan = c.args.plan.now in
    let boxes = c.args.boxes.now in
    let i = c.loop-ring.ring-index in
    let d = c.ring-item.result in
    let within : i < length plan.rings = subst (λ (xs : List RingAt). i < length xs) c.as_slice-ring-items.ensures c.loop-ring-test.true in
    let is : d ≡ get_or plan.rings i d = c.ring-item.is ∙ ap (λ (xs : List RingAt). get_or xs i d) c.as_slice-ring-items.ensures in
    let keeps : RingKeeps tech plan d = subst (RingKeeps tech plan) (sym is) (c.requires.plan.1.rings i d within) in
    let few : AreFew plan boxes d = subst (AreFew plan boxes) (sym is) (c.requires.few i d within) in
    around_fits tech plan boxes d keeps c.requires.boxes (few (ap (λ g. (grid_of plan g).over_macros) same ∙ c.requires.over))

pub loop-ring-preserved : goal.loop-ring-preserved
loop-ring-preserved c =
    let plan = c.args.plan.now in
    let boxes = c.args.boxes.now in
    let i = c.loop-ring.ring-index in
    let d = c.ring-item.result in
    let before = c.loop-ring.shapes.items in
    let after = c.add_ring.new.shapes.items in
    let within : i < length plan.rings = subst (λ (xs : List RingAt). i < length xs) c.as_slice-ring-items.ensures c.loop-ring-test.true in
    let is : d ≡ get_or plan.rings i d = c.ring-item.is ∙ ap (λ (xs : List RingAt). get_or xs i d) c.as_slice-ring-items.ensures in
    flat_passed (ring_shapes boxes) (λ (ring : RingAt). nat_eq ring.grid c.args.grid) plan.rings i d c.args.shapes.now.items before after within
    c.loop-ring.invariant
    (subst (λ (ring : RingAt). after ≡ before ++ cond (nat_eq ring.grid c.args.grid) (ring_shapes boxes ring) []) is c.in_ok-add_ring.ensures)

pub returns : goal.returns
returns c =
    let plan = c.args.plan.now in
    let boxes = c.args.boxes.now in
    let i = c.loop-ring.ring-index in
    let p = λ (ring : RingAt). nat_eq ring.grid c.args.grid in
    let past : length plan.rings ≤ i = subst (λ (xs : List RingAt). length xs ≤ i) c.as_slice-ring-items.ensures c.loop-ring-test.false in
    subst (λ (xs : List RingAt). c.loop-ring.shapes.items ≡ c.args.shapes.now.items ++ flat_map (ring_shapes boxes) (filter p xs)) (take_all i plan.rings past)
    c.loop-ring.invariant
