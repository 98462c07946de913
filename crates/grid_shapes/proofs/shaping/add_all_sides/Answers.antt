use Rattle.std.proofs.Common.{◌≡◌, ℕ, ◌<◌, ◌≤◌, false, List, length, get_or, subst, sym, ap, ◌∙◌, arith}
use Rattle.std.specs.List.{range_with_len}
use Rattle.std.proofs.lemmas.List.{get_or_default, take_all}
use Rattle.std.proofs.lemmas.List.FromFn.{length-range_with_len}
use Rattle.grid_plan.specs.declared.record.GridAt.{GridAt}
use Rattle.grid_shapes.specs.Shapes.{AreOfEach, Draws, DrawSides}
use Rattle.grid_shapes.specs.Site.{grid_of}
use Rattle.grid_shapes.specs.inside.Sites.{Adds}
use Rattle.grid_shapes.proofs.ShapesKeep.{none}
use Rattle.grid_shapes.proofs.Sides.{sides_drawn}
use Rattle.grid_shapes.proofs.shaping.add_all_sides.Goals as goal

-- What a read past a list gives.
abbrev past : GridAt
past = record { domain = 0; over_macros = false }

pub loop-place-preserved : goal.loop-place-preserved
loop-place-preserved c =
    let plan = c.args.plan.now in
    let k = c.loop-place.place in
    let items = c.as_slice-grid-items.result.now in
    let within : k < length plan.grids = subst (λ (xs : List GridAt). k < length xs) c.as_slice-grid-items.ensures c.loop-place-test.true in
    let one : grid_of plan k ≡ get_or items k past = get_or_default plan.grids k none past within ∙ ap (λ (xs : List GridAt). get_or xs k past) (sym c.as_slice-grid-items.ensures) in
    sides_drawn plan c.args.sites.now k c.index-sites-place.result (get_or items k past).over_macros c.args.shapes.now.items c.loop-place.shapes.items
    c.add_sides.new.shapes.items c.requires within (ap (λ (g : GridAt). g.over_macros) one) c.index-sites-place.is c.loop-place.invariant c.in_ok-add_sides.ensures

pub returns : goal.returns
returns c =
    let plan = c.args.plan.now in
    let i = c.loop-place.place in
    let n = length plan.grids in
    let draws = λ (grid : ℕ). Draws plan grid (DrawSides plan grid) in
    let counted = length-range_with_len 0 n in
    let beyond : length plan.grids ≤ i = subst (λ (xs : List GridAt). length xs ≤ i) c.as_slice-grid-items.ensures c.loop-place-test.false in
    let all : length (range_with_len 0 n) ≤ i = omega arith in
    subst (λ (xs : List ℕ). Adds (AreOfEach draws xs) c.args.shapes.now.items c.loop-place.shapes.items) (take_all i (range_with_len 0 n) all) c.loop-place.invariant
