-- The reaches of straps and rails lie at coordinates.
use Rattle.std.proofs.Common.{ℕ, ◌+◌, ◌≤◌, ◌^◌, ℤ, pos, ◌+ℤ◌, ◌-ℤ◌, ◌≤ℤ◌, Bool, true, false, cond, List, [], ◌∷◌, All, get_or, arith, Option, Some, None}
use Rattle.std.specs.Option.{option_or, unwrap_or, IfSome}
use Rattle.std.proofs.lemmas.Int.{ints}
use Rattle.std.proofs.lemmas.List.Elements.{All-head, All-tail, All-map, All-filter}
use Rattle.geom_rect.specs.declared.direction.Axis.{Axis}
use Rattle.geom_rect.specs.declared.direction.Axis.TheVariants.{X, Y}
use Rattle.geom_rect.specs.declared.drawn.Drawn.{Drawn}
use Rattle.geom_rect.specs.declared.rect.Rect.{Rect}
use Rattle.geom_rect.specs.declared.run.Run.{Run}
use Rattle.geom_rect.specs.Drawn.{half, drawn_run}
use Rattle.geom_rect.specs.Rect.{IsCoordinate}
use Rattle.lef_tech.specs.declared.tech.Tech.{Tech}
use Rattle.grid_cores.specs.Core.{strap_reach}
use Rattle.grid_cores.specs.Line.{along}
use Rattle.grid_plan.specs.declared.record.Plan.{Plan}
use Rattle.grid_plan.specs.declared.record.Rails.{Rails}
use Rattle.grid_plan.specs.declared.record.Reach.{Reach}
use Rattle.grid_plan.specs.declared.record.Reach.TheVariants as reaches
use Rattle.grid_plan.specs.declared.record.Straps.{Straps}
use Rattle.grid_plan.specs.Keeping.{PlanKeeps, LiesNear, IsLineWidth, most_of_rows}
use Rattle.grid_shapes.specs.Site.{is_side, ring_reach, stated_reach, strap_reaches, sides_at, widest_at, widest_of}
use Rattle.grid_shapes.specs.inside.Sites.{ShapeKeeps, IsEvenWidth}
use Rattle.grid_shapes.proofs.Coordinates.{RunFits, coordinate, end_low, end_high}
use Rattle.grid_shapes.proofs.Cores.{low_of, high_of}
use Rattle.grid_shapes.proofs.Widest.{widest_even}

pub along_fits : (most : ℕ) (axis : Axis) (rect : Rect) → most ≤ 2 ^ 61 → LiesNear most rect → RunFits (along axis rect)
along_fits most X rect few near = record { from = coordinate most rect.x1 few near.x1; to = coordinate most rect.x2 few near.x2 }
along_fits most Y rect few near = record { from = coordinate most rect.y1 few near.y1; to = coordinate most rect.y2 few near.y2 }

side_fits : (tech : Tech) (plan : Plan) (side : Drawn) → ShapeKeeps tech plan side → RunFits (drawn_run side)
side_fits tech plan side keeps = record {
  from = end_low side.axis side.centre side.width side.from side.to keeps.keeps.1;
  to = end_high side.axis side.centre side.width side.from side.to keeps.keeps.1;
}

chosen_fits : (b : Bool) (run : Run) → RunFits run → IfSome (cond b (Some run) None) RunFits
chosen_fits true run fits = fits
chosen_fits false run fits = tt

or_fits : (a b : Option Run) → IfSome a RunFits → IfSome b RunFits → IfSome (option_or a b) RunFits
or_fits None b fits_a fits_b = fits_b
or_fits (Some run) b fits_a fits_b = fits_a

ring_reach_fits : (tech : Tech) (plan : Plan) (axis : Axis) (net : ℕ) (sides : List Drawn) → All (ShapeKeeps tech plan) sides
    → IfSome (ring_reach axis net sides) RunFits
ring_reach_fits tech plan axis net [] keep = tt
ring_reach_fits tech plan axis net (side ∷ sides) keep =
    or_fits (ring_reach axis net sides) (cond (is_side axis net side) (Some (drawn_run side)) None)
    (ring_reach_fits tech plan axis net sides (All-tail (ShapeKeeps tech plan) side sides keep))
    (chosen_fits (is_side axis net side) (drawn_run side) (side_fits tech plan side (All-head (ShapeKeeps tech plan) side sides keep)))

pub stated_fits : (tech : Tech) (plan : Plan) (reach : Reach) (axis : Axis) (die : Rect) (sides : List Drawn) (net : ℕ) → LiesNear (2 ^ 30) die
    → All (ShapeKeeps tech plan) sides → IfSome (stated_reach reach axis die sides net) RunFits
stated_fits tech plan reaches.Die axis die sides net near keep = along_fits (2 ^ 30) axis die (omega arith) near
stated_fits tech plan reaches.Ring axis die sides net near keep = ring_reach_fits tech plan axis net sides keep
stated_fits tech plan reaches.Core axis die sides net near keep = tt

-- The widest of rails of a plan.
pub plan_widest_at : (tech : Tech) (plan : Plan) (grid : ℕ) → PlanKeeps tech plan → IsEvenWidth (widest_at plan grid)
plan_widest_at tech plan grid keeps =
    widest_even _ (All-filter _ (λ (r : Rails). IsLineWidth r.width) plan.rails (λ k d within. (keeps.rails k d within).width))

pub plan_widest_of : (tech : Tech) (plan : Plan) → PlanKeeps tech plan → IsEvenWidth (widest_of plan)
plan_widest_of tech plan keeps =
    widest_even _ (All-filter _ (λ (r : Rails). IsLineWidth r.width) plan.rails (λ k d within. (keeps.rails k d within).width))

-- The core grown by half of a width.
pub grown_low : (z w : ℤ) → pos 0 ≤ℤ (z +ℤ pos most_of_rows) → z ≤ℤ pos most_of_rows → IsEvenWidth w → IsCoordinate (z -ℤ half w)
grown_low z w low high even =
    let least = even.0.0 in
    let most = even.0.1 in
    let twice = even.1 in
    (omega (arith, ints), omega (arith, ints))

pub grown_high : (z w : ℤ) → pos 0 ≤ℤ (z +ℤ pos most_of_rows) → z ≤ℤ pos most_of_rows → IsEvenWidth w → IsCoordinate (z +ℤ half w)
grown_high z w low high even =
    let least = even.0.0 in
    let most = even.0.1 in
    let twice = even.1 in
    (omega (arith, ints), omega (arith, ints))

core_reach_fits : (axis : Axis) (w : ℤ) (core : Rect) → LiesNear most_of_rows core → IsEvenWidth w → RunFits (strap_reach axis w core)
core_reach_fits X w core near even =
    record { from = coordinate most_of_rows core.x1 (omega arith) near.x1; to = coordinate most_of_rows core.x2 (omega arith) near.x2 }
core_reach_fits Y w core near even = record {
  from = grown_low core.y1 w (low_of most_of_rows core.y1 near.y1) (high_of most_of_rows core.y1 near.y1) even;
  to = grown_high core.y2 w (low_of most_of_rows core.y2 near.y2) (high_of most_of_rows core.y2 near.y2) even;
}

pub else_fits : (stated : Option Run) (run : Run) → IfSome stated RunFits → RunFits run → RunFits (unwrap_or stated run)
else_fits None run fits otherwise = otherwise
else_fits (Some stated) run fits otherwise = fits

pub reaches_fit : (tech : Tech) (plan : Plan) (straps : Straps) (core : Rect) → PlanKeeps tech plan → LiesNear most_of_rows core
    → All (ShapeKeeps tech plan) (sides_at plan straps.grid core) → All RunFits (strap_reaches plan straps core)
reaches_fit tech plan straps core keeps near sides =
    let axis = straps.rule.axis in
    let whole = strap_reach axis (widest_at plan straps.grid) core in
    let fits = core_reach_fits axis (widest_at plan straps.grid) core near (plan_widest_at tech plan straps.grid keeps) in
    let ring_sides = sides_at plan straps.grid core in
    All-map RunFits (λ (net : ℕ). unwrap_or (stated_reach straps.reach axis plan.die ring_sides net) whole) straps.rule.nets
    (λ k d within. else_fits (stated_reach straps.reach axis plan.die ring_sides (get_or straps.rule.nets k d)) whole
    (stated_fits tech plan straps.reach axis plan.die ring_sides (get_or straps.rule.nets k d) keeps.die sides) fits)
