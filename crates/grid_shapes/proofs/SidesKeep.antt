-- What the sides of a grid's rings keep.
use Rattle.std.proofs.Common.{◌≡◌, ℕ, ◌+◌, ◌*◌, ◌<◌, ◌≤◌, ◌^◌, pos, ◌+ℤ◌, ◌-ℤ◌, true, All, Contains, filter, length, sym, arith}
use Rattle.std.specs.Bool.{nat_eq}
use Rattle.std.specs.List.{range_with_len}
use Rattle.std.specs.Prelude.{slice_index}
use Rattle.std.proofs.lemmas.Bool.{eqb-true}
use Rattle.std.proofs.lemmas.List.Elements.{All-filter, All-contains_itself, filter_passes}
use Rattle.geom_rect.specs.declared.direction.Axis.TheVariants.{X}
use Rattle.geom_rect.specs.declared.drawn.Drawn.{Drawn}
use Rattle.geom_rect.specs.declared.drawn.Shape.TheVariants.{Ring}
use Rattle.geom_rect.specs.declared.rect.Rect.{Rect}
use Rattle.geom_rect.specs.Drawn.{half, drawn_rect}
use Rattle.geom_rect.specs.Rect.{HasCoordinates}
use Rattle.lef_tech.specs.declared.tech.Tech.{Tech}
use Rattle.ring_layout.specs.Rings.{rings_of, sides_of, outer_edges, vertical_side, horizontal_side}
use Rattle.grid_plan.specs.declared.record.Plan.{Plan}
use Rattle.grid_plan.specs.declared.record.RingAt.{RingAt}
use Rattle.grid_plan.specs.Keeping.{PlanKeeps, RingKeeps, LiesNear, most_of_rows}
use Rattle.grid_shapes.specs.Shapes.{most_lines}
use Rattle.grid_shapes.specs.Site.{sides_at}
use Rattle.grid_shapes.specs.inside.Sites.{RingFits, ShapeKeeps}
use Rattle.grid_shapes.proofs.Coordinates.{width_keeps}
use Rattle.grid_shapes.proofs.Lists.{All-flat_map, all_four, numbers_below}
use Rattle.grid_shapes.proofs.Rings.{ring_fits}

pub fits_from : (tech : Tech) (plan : Plan) (core : Rect) (ring : RingAt) → RingKeeps tech plan ring → LiesNear most_of_rows core → RingFits core ring
fits_from tech plan core ring keeps near = record {
  width_v = keeps.width_v;
  width_h = keeps.width_h;
  spacing_v = keeps.spacing_v;
  spacing_h = keeps.spacing_h;
  left = keeps.left;
  bottom = keeps.bottom;
  right = keeps.right;
  top = keeps.top;
  near = near;
}

-- What a read past a list gives.
abbrev nothing : Drawn
nothing = record { net = 0; layer = 0; axis = X; centre = pos 0; width = pos 0; from = pos 0; to = pos 0; shape = Ring }

side_keeps : (tech : Tech) (plan : Plan) (ring : RingAt) (core : Rect) → RingKeeps tech plan ring → (place : ℕ) → place < length ring.rule.nets
    → All (λ (side : Drawn). HasCoordinates (drawn_rect side)) (sides_of ring.rule core place) → All (ShapeKeeps tech plan) (sides_of ring.rule core place)
side_keeps tech plan ring core keeps place within at =
    let net = keeps.nets place 0 within in
    let v = width_keeps ring.rule.width_v keeps.width_v in
    let h = width_keeps ring.rule.width_h keeps.width_h in
    let P = ShapeKeeps tech plan in
    let rule = ring.rule in
    let outer = outer_edges rule core place in
    let number = slice_index rule.nets place in
    all_four P (vertical_side rule number outer (outer.x1 +ℤ half rule.width_v)) (horizontal_side rule number outer (outer.y1 +ℤ half rule.width_h))
    (vertical_side rule number outer (outer.x2 -ℤ half rule.width_v)) (horizontal_side rule number outer (outer.y2 -ℤ half rule.width_h))
    (record { keeps = (v, at 0 nothing (omega arith)); even = keeps.width_v.0; net = net; layer = keeps.vertical; axis = sym keeps.upright })
    (record { keeps = (h, at 1 nothing (omega arith)); even = keeps.width_h.0; net = net; layer = keeps.horizontal; axis = sym keeps.flat })
    (record { keeps = (v, at 2 nothing (omega arith)); even = keeps.width_v.0; net = net; layer = keeps.vertical; axis = sym keeps.upright })
    (record { keeps = (h, at 3 nothing (omega arith)); even = keeps.width_h.0; net = net; layer = keeps.horizontal; axis = sym keeps.flat })

pub ring_keeps : (tech : Tech) (plan : Plan) (ring : RingAt) (core : Rect) → RingKeeps tech plan ring → LiesNear most_of_rows core
    → 4 * length ring.rule.nets ≤ most_lines → All (ShapeKeeps tech plan) (rings_of ring.rule core)
ring_keeps tech plan ring core keeps near few =
    let fit = ring_fits ring core (fits_from tech plan core ring keeps near) few in
    All-flat_map (λ (place : ℕ). place < length ring.rule.nets) (ShapeKeeps tech plan) (sides_of ring.rule core)
    (λ place within. side_keeps tech plan ring core keeps place within (fit place within)) (range_with_len 0 (length ring.rule.nets))
    (numbers_below 0 (length ring.rule.nets) (length ring.rule.nets) (omega arith))

-- A ring of the grid that the plan has.
record OfGrid (tech : Tech) (plan : Plan) (grid : ℕ) (ring : RingAt) : Type 0 where
  pub keeps : RingKeeps tech plan ring
  pub is : Contains plan.rings ring

pub sides_keep : (tech : Tech) (plan : Plan) (grid : ℕ) (core : Rect) → PlanKeeps tech plan → LiesNear most_of_rows core
    → ((ring : RingAt) → Contains plan.rings ring → ring.grid ≡ grid → 4 * length ring.rule.nets ≤ most_lines)
    → All (ShapeKeeps tech plan) (sides_at plan grid core)
sides_keep tech plan grid core keeps near few =
    let p = λ (ring : RingAt). nat_eq ring.grid grid in
    let Q = λ (ring : RingAt). OfGrid tech plan grid ring × (p ring ≡ true) in
    let each : All (OfGrid tech plan grid) plan.rings = λ k d within. record { keeps = keeps.rings k d within; is = All-contains_itself plan.rings k d within } in
    let kept : All (OfGrid tech plan grid) (filter p plan.rings) = All-filter p (OfGrid tech plan grid) plan.rings each in
    let passed : All (λ (ring : RingAt). p ring ≡ true) (filter p plan.rings) = filter_passes p plan.rings in
    All-flat_map Q (ShapeKeeps tech plan) (λ (ring : RingAt). rings_of ring.rule core)
    (λ ring q. ring_keeps tech plan ring core q.0.keeps near (few ring q.0.is (eqb-true ring.grid grid q.1)))
    (filter p plan.rings) (λ k d within. (kept k d within, passed k d within))
