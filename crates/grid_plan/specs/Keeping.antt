-- What every plan keeps: numbers within their limits, and each place below the count of the list that it names.
use Rattle.std.specs.Prelude.{◌≡◌, ◌≢◌, ℕ, ℤ, pos, ◌<◌, ◌≤◌, ◌+◌, ◌*◌, ◌^◌, ◌≤ℤ◌, ◌<ℤ◌, unsigned_abs, false, List, [], All, length, map, slice_index_or, Option, Some, None}
use Rattle.geom_rect.specs.declared.direction.Axis.TheVariants.{X, Y}
use Rattle.geom_rect.specs.declared.rect.Rect.{Rect}
use Rattle.geom_rect.specs.Drawn.{IsWidth}
use Rattle.geom_rect.specs.Rect.{IsInOrder}
use Rattle.lef_tech.specs.declared.tech.Tech.{Tech}
use Rattle.rail_layout.specs.declared.row.RowBox.{RowBox}
use Rattle.grid_cores.specs.Owner.{rows_of}
use Rattle.grid_pieces.specs.declared.grid.DomainAt.{DomainAt}
use Rattle.grid_stacks.specs.Stacking.{ConnectKeeps}
use Rattle.via_arrays.specs.Choice.{direction}
use Rattle.via_arrays.specs.Lengths.{IsUnits}
use Rattle.grid_plan.specs.declared.record.GridAt.{GridAt}
use Rattle.grid_plan.specs.declared.record.Plan.{Plan}
use Rattle.grid_plan.specs.declared.record.Rails.{Rails}
use Rattle.grid_plan.specs.declared.record.RingAt.{RingAt}
use Rattle.grid_plan.specs.declared.record.Straps.{Straps}

-- A number is at most so far from 0.
abbrev pub IsNear : ℕ → ℤ → Type 0
IsNear most z = unsigned_abs z ≤ most

-- The edges of rows are at most so far from 0: a row begins within 2^30 of 0, and has at most 2^30 sites, of which none is
-- wider than 100 mm of 20000 units a micrometre.
abbrev pub most_of_rows : ℕ
most_of_rows = 2 ^ 30 + 2 ^ 30 * 2000000000

-- A rectangle is in order, and its edges are at most so far from 0.
pub record LiesNear (most : ℕ) (rect : Rect) : Type 0 where
  pub in_order : IsInOrder rect
  pub x1 : IsNear most rect.x1
  pub y1 : IsNear most rect.y1
  pub x2 : IsNear most rect.x2
  pub y2 : IsNear most rect.y2

-- A length is not below 0, and below 2^32.
abbrev pub IsLength : ℤ → Type 0
IsLength z = (pos 0 ≤ℤ z) × (z <ℤ pos (2 ^ 32))

-- A width is even and positive too.
abbrev pub IsLineWidth : ℤ → Type 0
IsLineWidth z = IsWidth z × (z <ℤ pos (2 ^ 32))

-- The nets of a domain are nets of the plan, and its region lies near 0.
abbrev pub RegionKeeps : Option Rect → Type 0
RegionKeeps None = Unit {0}
RegionKeeps (Some region) = LiesNear (2 ^ 30) region

pub record DomainKeeps (plan : Plan) (domain : DomainAt) : Type 0 where
  pub lower_net : domain.ground < length plan.nets
  pub upper_net : domain.power < length plan.nets
  pub region : RegionKeeps domain.region

-- The regions of the domains, and the rows of the domain at a place.
abbrev pub plan_regions : Plan → List (Option Rect)
plan_regions plan = map (λ (d : DomainAt). d.region) plan.domains

abbrev pub domain_rows : Plan → ℕ → List RowBox
domain_rows plan domain =
    rows_of (plan_regions plan) (slice_index_or (plan_regions plan) domain None) plan.rows

-- A grid names a domain, which has a row unless the grid is one over macros.
pub record GridKeeps (plan : Plan) (grid : GridAt) : Type 0 where
  pub domain : grid.domain < length plan.domains
  pub rows : grid.over_macros ≡ false → domain_rows plan grid.domain ≢ []

pub record StrapsKeep (tech : Tech) (plan : Plan) (straps : Straps) : Type 0 where
  pub grid : straps.grid < length plan.grids
  pub spacing : IsLength straps.spacing
  pub layer : straps.rule.layer < length tech.routing
  pub axis : straps.rule.axis ≡ direction tech straps.rule.layer
  pub nets : All (λ (net : ℕ). net < length plan.nets) straps.rule.nets
  pub width : IsLineWidth straps.rule.width
  pub pitch : pos 0 <ℤ straps.rule.pitch

pub record RailsKeep (tech : Tech) (plan : Plan) (rails : Rails) : Type 0 where
  pub grid : rails.grid < length plan.grids
  pub spacing : IsLength rails.spacing
  pub layer : rails.layer < length tech.routing
  pub axis : direction tech rails.layer ≡ X
  pub width : IsLineWidth rails.width

pub record RingKeeps (tech : Tech) (plan : Plan) (ring : RingAt) : Type 0 where
  pub grid : ring.grid < length plan.grids
  pub vertical : ring.rule.vertical < length tech.routing
  pub horizontal : ring.rule.horizontal < length tech.routing
  pub upright : direction tech ring.rule.vertical ≡ Y
  pub flat : direction tech ring.rule.horizontal ≡ X
  pub nets : All (λ (net : ℕ). net < length plan.nets) ring.rule.nets
  pub width_v : IsLineWidth ring.rule.width_v
  pub width_h : IsLineWidth ring.rule.width_h
  pub spacing_v : IsLength ring.rule.spacing_v
  pub spacing_h : IsLength ring.rule.spacing_h
  pub left : IsLength ring.rule.left
  pub bottom : IsLength ring.rule.bottom
  pub right : IsLength ring.rule.right
  pub top : IsLength ring.rule.top

-- What every plan keeps.
pub record PlanKeeps (tech : Tech) (plan : Plan) : Type 0 where
  pub units : IsUnits plan.units
  pub die : LiesNear (2 ^ 30) plan.die
  pub powers : length plan.power ≡ length plan.nets
  pub domains : All (DomainKeeps plan) plan.domains
  pub grids : All (GridKeeps plan) plan.grids
  pub rows : All (λ (row : RowBox). LiesNear most_of_rows row.rect) plan.rows
  pub straps : All (StrapsKeep tech plan) plan.straps
  pub rails : All (RailsKeep tech plan) plan.rails
  pub rings : All (RingKeeps tech plan) plan.rings
  pub connects : All (ConnectKeeps tech) plan.connects
