-- What the commands of a grid are drawn over: the rows and the core of its domain, its rails and its ring (OpenROAD PDN
-- manual, define_pdn_grid).
use Rattle.std.specs.Prelude.{ℕ, ℤ, pos, ◌+ℤ◌, Bool, true, false, not, ◌&&◌, if◌then◌else◌, List, [], ◌∷◌, ◌++◌, ◌+◌, map, filter, slice_index_or, Option, Some, None}
use Rattle.std.specs.Bool.{nat_eq}
use Rattle.std.specs.Int.{int_max}
use Rattle.std.specs.List.{flat_map}
use Rattle.std.specs.Option.{option_or, option_to_list, unwrap_or}
use Rattle.geom_rect.specs.declared.direction.Axis.{Axis}
use Rattle.geom_rect.specs.declared.direction.Axis.TheVariants.{X, Y}
use Rattle.geom_rect.specs.declared.drawn.Drawn.{Drawn}
use Rattle.geom_rect.specs.declared.rect.Rect.{Rect}
use Rattle.geom_rect.specs.declared.run.Run.{Run}
use Rattle.geom_rect.specs.Drawn.{drawn_run, half}
use Rattle.geom_rect.specs.Rect.{grown_by}
use Rattle.rail_layout.specs.declared.row.RowBox.{RowBox}
use Rattle.ring_layout.specs.Rings.{rings_of}
use Rattle.grid_cores.specs.Core.{strap_reach}
use Rattle.grid_cores.specs.Line.{along}
use Rattle.grid_plan.specs.declared.record.GridAt.{GridAt}
use Rattle.grid_plan.specs.declared.record.Plan.{Plan}
use Rattle.grid_plan.specs.declared.record.Rails.{Rails}
use Rattle.grid_plan.specs.declared.record.Reach.{Reach}
use Rattle.grid_plan.specs.declared.record.Reach.TheVariants as reaches
use Rattle.grid_plan.specs.declared.record.RingAt.{RingAt}
use Rattle.grid_plan.specs.declared.record.Straps.{Straps}
use Rattle.grid_plan.specs.Keeping.{plan_regions, domain_rows}

-- The grid at a place; past the grids there is none, and nothing is drawn.
abbrev pub grid_of : Plan → ℕ → GridAt
grid_of plan grid = slice_index_or plan.grids grid (record { domain = 0; over_macros = true })

-- The rows of the domain that a grid names.
abbrev pub rows_at : Plan → ℕ → List RowBox
rows_at plan grid = domain_rows plan (grid_of plan grid).domain

-- The greatest width of rails, 0 where there are none.
abbrev pub widest : List Rails → ℤ
widest [] = pos 0
widest (rails ∷ more) = int_max rails.width (widest more)

-- That of the rails of a grid.
abbrev pub widest_at : Plan → ℕ → ℤ
widest_at plan grid = widest (filter (λ (rails : Rails). nat_eq rails.grid grid) plan.rails)

-- That of the rails of all grids but those over macros.
abbrev pub widest_of : Plan → ℤ
widest_of plan = widest (filter (λ (rails : Rails). not (grid_of plan rails.grid).over_macros) plan.rails)

-- The sides of the ring of a grid around a core.
abbrev pub sides_at : Plan → ℕ → Rect → List Drawn
sides_at plan grid core =
    flat_map (λ (ring : RingAt). rings_of ring.rule core) (filter (λ (ring : RingAt). nat_eq ring.grid grid) plan.rings)

abbrev pub same_axis : Axis → Axis → Bool
same_axis X X = true
same_axis X Y = false
same_axis Y X = false
same_axis Y Y = true

-- The side is one of the net's along the axis.
abbrev pub is_side : Axis → ℕ → Drawn → Bool
is_side axis net side = nat_eq side.net net && same_axis side.axis axis

-- Between the outer edges of the ring of a net, along an axis: a side goes there. Sides are drawn outward, so that of a
-- net with several rings the last side is the outermost.
abbrev pub ring_reach : Axis → ℕ → List Drawn → Option Run
ring_reach axis net [] = None
ring_reach axis net (side ∷ sides) =
    option_or (ring_reach axis net sides) (if is_side axis net side then Some (drawn_run side) else None)

-- The reach that an option states for a net, along an axis: over the die, or between the outer edges of its ring, where
-- it has one.
abbrev pub stated_reach : Reach → Axis → Rect → List Drawn → ℕ → Option Run
stated_reach reaches.Die axis die sides net = Some (along axis die)
stated_reach reaches.Ring axis die sides net = ring_reach axis net sides
stated_reach reaches.Core axis die sides net = None

-- The reaches of the nets of straps: as it is stated, or else over the core.
abbrev pub strap_reaches : Plan → Straps → Rect → List Run
strap_reaches plan straps core = map
    (λ (net : ℕ). unwrap_or
    (stated_reach straps.reach straps.rule.axis plan.die (sides_at plan straps.grid core) net)
    (strap_reach straps.rule.axis (widest_at plan straps.grid) core)) straps.rule.nets

-- The regions of all domains but the one at a place, counted from a number.
abbrev pub others_from : ℕ → ℕ → List (Option Rect) → List Rect
others_from k domain [] = []
others_from k domain (region ∷ regions) =
    (if nat_eq k domain then [] else option_to_list region) ++ others_from (k + 1) domain regions

-- The regions of the domains that a grid does not name, each grown by the spacing of the layer and half of the widest
-- rail of all grids.
abbrev pub foreign : Plan → ℕ → ℤ → List Rect
foreign plan grid spacing = map (λ (region : Rect). grown_by region (spacing +ℤ half (widest_of plan)))
    (others_from 0 (grid_of plan grid).domain (plan_regions plan))
