-- What is known of a grid before its commands are drawn.
use Rattle.std.specs.Prelude.{◌≡◌, ℕ, ℤ, ◌+ℤ◌, ◌<◌, ◌≤◌, ◌+◌, ◌*◌, ◌^◌, false, List, Contains, length, slice_index_or, ◌++◌}
use Rattle.geom_rect.specs.declared.rect.Rect.{Rect}
use Rattle.geom_rect.specs.Drawn.{half, IsWidth}
use Rattle.geom_rect.specs.declared.drawn.Drawn.{Drawn}
use Rattle.grid_pieces.specs.Limits.{DrawnKeeps}
use Rattle.via_arrays.specs.Choice.{direction}
use Rattle.lef_tech.specs.declared.tech.Tech.{Tech}
use Rattle.grid_plan.specs.Keeping.{IsLength, IsLineWidth, LiesNear, PlanKeeps, most_of_rows}
use Rattle.grid_plan.specs.declared.record.Plan.{Plan}
use Rattle.grid_plan.specs.declared.record.RingAt.{RingAt}
use Rattle.grid_shapes.specs.declared.site.Site.{Site}
use Rattle.grid_shapes.specs.Shapes.{IsCoreOf, most_lines}
use Rattle.grid_shapes.specs.Site.{grid_of, rows_at, widest_at, sides_at}

-- The site of a grid that is not one over macros.
pub record IsSite (plan : Plan) (grid : ℕ) (site : Site) : Type 0 where
  pub rows : site.rows.items ≡ rows_at plan grid
  pub core : IsCoreOf plan grid site.core
  pub widest : site.widest ≡ widest_at plan grid
  pub sides : site.sides.items ≡ sides_at plan grid site.core
  pub few : (ring : RingAt) → Contains plan.rings ring → ring.grid ≡ grid → 4 * length ring.rule.nets ≤ most_lines

-- A grid that is not one over macros has its site.
abbrev pub HasSite : Plan → ℕ → Site → Type 0
HasSite plan grid site = (grid_of plan grid).over_macros ≡ false → IsSite plan grid site

-- The sites of the grids, each at its place.
pub record AreSites (plan : Plan) (sites : List Site) : Type 0 where
  pub as_many : length sites ≡ length plan.grids
  pub each : (k : ℕ) (site : Site) → k < length sites → HasSite plan k (slice_index_or sites k site)

-- What is asked of a plan: what every plan keeps, with some technology.
abbrev pub PlanStands : Plan → Type 0
PlanStands plan = (tech : Tech) × PlanKeeps tech plan

-- What is asked of a ring and its core: lengths keep their limits, and the core's edges lie near 0.
pub record RingFits (core : Rect) (ring : RingAt) : Type 0 where
  pub width_v : IsLineWidth ring.rule.width_v
  pub width_h : IsLineWidth ring.rule.width_h
  pub spacing_v : IsLength ring.rule.spacing_v
  pub spacing_h : IsLength ring.rule.spacing_h
  pub left : IsLength ring.rule.left
  pub bottom : IsLength ring.rule.bottom
  pub right : IsLength ring.rule.right
  pub top : IsLength ring.rule.top
  pub near : LiesNear most_of_rows core

-- A ring of the grid has more lines than may be.
pub record RingsAreMany (grid : ℕ) (rings : List RingAt) : Type 0 where
  pub ring : RingAt
  pub is : Contains rings ring
  pub of_grid : ring.grid ≡ grid
  pub more : most_lines < 4 * length ring.rule.nets

-- The width of the widest rails: 0, or twice its half, and below 2^32.
abbrev pub IsEvenWidth : ℤ → Type 0
IsEvenWidth z = IsLength z × (z ≡ half z +ℤ half z)

-- Shapes are added to those that stand already.
abbrev pub Adds : (List Drawn → Type 0) → List Drawn → List Drawn → Type 0
Adds drawn old new = (added : List Drawn) × drawn added × (new ≡ old ++ added)

-- What a shape of a plan keeps: its limits, and that its net and its layer stand, along whose direction it goes.
pub record ShapeKeeps (tech : Tech) (plan : Plan) (shape : Drawn) : Type 0 where
  pub keeps : DrawnKeeps shape
  pub even : IsWidth shape.width
  pub net : shape.net < length plan.nets
  pub layer : shape.layer < length tech.routing
  pub axis : shape.axis ≡ direction tech shape.layer
