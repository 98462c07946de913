use Rattle.std.proofs.Common.{◌≡◌, ℕ, ◌++◌, ◌<◌, ◌≤◌, false, cond, [], List, filter, length, get_or, sym, ap, ◌∙◌, subst, arith}
use Rattle.std.specs.List.{flat_map, range_with_len}
use Rattle.std.proofs.lemmas.List.{get_or_default, take_all}
use Rattle.std.proofs.lemmas.List.FromFn.{length-range_with_len, get_or-range_with_len}
use Rattle.grid_plan.specs.declared.record.GridAt.{GridAt}
use Rattle.grid_shapes.specs.Site.{grid_of}
use Rattle.block_stripes.specs.Rings.{grid_rings, block_rings}
use Rattle.block_stripes.proofs.Flat.{flat_passed}
use Rattle.block_stripes.proofs.RingsKeep.{block_rings_keep}
use Rattle.block_stripes.proofs.rings.block_rings.Goals as goal

-- What a read past a list gives, and what the definitions have there.
abbrev past : GridAt
past = record { domain = 0; over_macros = false }

pub add_grid-requires-clause-over : goal.add_grid-requires-clause-over
add_grid-requires-clause-over c =
    let plan = c.args.plan.now in
    let k = c.loop-place.place in
    let items = c.as_slice-grid-items.result.now in
    let within : k < length plan.grids = subst (λ (xs : List GridAt). k < length xs) c.as_slice-grid-items.ensures c.loop-place-test.true in
    let one : grid_of plan k ≡ get_or items k past = get_or_default plan.grids k _ past within ∙ ap (λ (xs : List GridAt). get_or xs k past) (sym c.as_slice-grid-items.ensures) in
    ap (λ (g : GridAt). g.over_macros) one

pub loop-place-preserved : goal.loop-place-preserved
loop-place-preserved c =
    let plan = c.args.plan.now in
    let boxes = c.args.boxes.now in
    let k = c.loop-place.place in
    let n = length plan.grids in
    let grids = range_with_len 0 n in
    let items = c.as_slice-grid-items.result.now in
    let before = c.loop-place.shapes.items in
    let after = c.add_grid.new.shapes.items in
    let within : k < n = subst (λ (xs : List GridAt). k < length xs) c.as_slice-grid-items.ensures c.loop-place-test.true in
    let one : grid_of plan k ≡ get_or items k past = get_or_default plan.grids k _ past within ∙ ap (λ (xs : List GridAt). get_or xs k past) (sym c.as_slice-grid-items.ensures) in
    let over : (grid_of plan k).over_macros ≡ (get_or items k past).over_macros = ap (λ (g : GridAt). g.over_macros) one in
    let number : get_or grids k 0 ≡ k = get_or-range_with_len 0 n k 0 within ∙ omega arith in
    let added : after ≡ before ++ cond (grid_of plan k).over_macros (grid_rings plan boxes k) [] =
    subst (λ b. after ≡ before ++ cond b (grid_rings plan boxes k) []) (sym over) c.in_ok-add_grid.ensures in
    flat_passed (grid_rings plan boxes) (λ (grid : ℕ). (grid_of plan grid).over_macros) grids k 0 [] before after
    (subst (λ (m : ℕ). k < m) (sym (length-range_with_len 0 n)) within) c.loop-place.invariant
    (subst (λ (g : ℕ). after ≡ before ++ cond (grid_of plan g).over_macros (grid_rings plan boxes g) []) (sym number) added)

pub returns-clause-rings : goal.returns-clause-rings
returns-clause-rings c =
    let plan = c.args.plan.now in
    let boxes = c.args.boxes.now in
    let i = c.loop-place.place in
    let n = length plan.grids in
    let p = λ (grid : ℕ). (grid_of plan grid).over_macros in
    let counted = length-range_with_len 0 n in
    let beyond : n ≤ i = subst (λ (xs : List GridAt). length xs ≤ i) c.as_slice-grid-items.ensures c.loop-place-test.false in
    let all : length (range_with_len 0 n) ≤ i = omega arith in
    subst (λ (xs : List ℕ). c.loop-place.shapes.items ≡ flat_map (grid_rings plan boxes) (filter p xs)) (take_all i (range_with_len 0 n) all) c.loop-place.invariant

pub returns-clause-keep : goal.returns-clause-keep
returns-clause-keep c =
    let plan = c.args.plan.now in
    let boxes = c.args.boxes.now in
    let i = c.loop-place.place in
    let n = length plan.grids in
    let p = λ (grid : ℕ). (grid_of plan grid).over_macros in
    let counted = length-range_with_len 0 n in
    let beyond : n ≤ i = subst (λ (xs : List GridAt). length xs ≤ i) c.as_slice-grid-items.ensures c.loop-place-test.false in
    let all : length (range_with_len 0 n) ≤ i = omega arith in
    let are : c.loop-place.shapes.items ≡ block_rings plan boxes =
    subst (λ (xs : List ℕ). c.loop-place.shapes.items ≡ flat_map (grid_rings plan boxes) (filter p xs)) (take_all i (range_with_len 0 n) all) c.loop-place.invariant in
    block_rings_keep c.args.tech.now plan boxes c.loop-place.shapes.items c.requires.plan c.requires.boxes c.in_ok-check_rings.ensures.few are
