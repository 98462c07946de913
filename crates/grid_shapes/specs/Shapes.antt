-- The shapes that a plan draws: for each command its lines, cut at the regions of other domains. Rings are drawn whole, and
-- the stripes and rings of grids over macros draw nothing (OpenROAD PDN manual, add_pdn_stripe and add_pdn_ring).
use Rattle.std.specs.Prelude.{◌≡◌, ◌⊎◌, ℕ, ◌<◌, ◌≤◌, ◌*◌, true, false, List, [], ◌∷◌, ◌++◌, Contains, length, slice_get, Some}
use Rattle.std.specs.List.{range_with_len}
use Rattle.geom_rect.specs.declared.direction.Axis.TheVariants.{X}
use Rattle.geom_rect.specs.declared.drawn.Drawn.{Drawn}
use Rattle.geom_rect.specs.declared.rect.Rect.{Rect}
use Rattle.rail_layout.specs.declared.rule.RailRule.{RailRule}
use Rattle.rail_layout.specs.Rails.{rails_of}
use Rattle.strap_layout.specs.Lines.{AreStrapsUpTo, DrawsMore}
use Rattle.grid_cores.specs.Core.{IsCore}
use Rattle.grid_cores.specs.Line.{AreLinesShapes}
use Rattle.grid_pieces.specs.declared.grid.DomainAt.{DomainAt}
use Rattle.grid_plan.specs.declared.record.Plan.{Plan}
use Rattle.grid_plan.specs.declared.record.Rails.{Rails}
use Rattle.grid_plan.specs.declared.record.RingAt.{RingAt}
use Rattle.grid_plan.specs.declared.record.Straps.{Straps}
use Rattle.grid_shapes.specs.Site.{grid_of, rows_at, sides_at, strap_reaches, stated_reach, foreign}

-- One rule draws no more lines.
abbrev pub most_lines : ℕ
most_lines = 1000000

-- The core of the domain of a grid: the smallest rectangle that holds the rows.
abbrev pub IsCoreOf : Plan → ℕ → Rect → Type 0
IsCoreOf plan grid core = IsCore (rows_at plan grid) core

-- Straps of a grid that is not one over macros.
pub record DrawStraps (plan : Plan) (straps : Straps) (shapes : List Drawn) : Type 0 where
  pub core : Rect
  pub is_core : IsCoreOf plan straps.grid core
  pub lines : List Drawn
  pub drawn : AreStrapsUpTo most_lines straps.rule core (strap_reaches plan straps core) lines
  pub cut : AreLinesShapes (foreign plan straps.grid straps.spacing) lines shapes

-- The rail rule of rails: both nets of the domain, each over its stated reach.
pub record IsRailRule (plan : Plan) (rails : Rails) (core : Rect) (domain : DomainAt) (rule : RailRule) : Type 0 where
  pub layer : rule.layer ≡ rails.layer
  pub width : rule.width ≡ rails.width
  pub lower_net : rule.ground ≡ domain.ground
  pub upper_net : rule.power ≡ domain.power
  pub lower_reach : rule.ground_reach
      ≡ stated_reach rails.reach X plan.die (sides_at plan rails.grid core) domain.ground
  pub upper_reach : rule.power_reach
      ≡ stated_reach rails.reach X plan.die (sides_at plan rails.grid core) domain.power

-- Rails of a grid that is not one over macros: two lines of each row of its domain.
pub record DrawRails (plan : Plan) (rails : Rails) (shapes : List Drawn) : Type 0 where
  pub core : Rect
  pub is_core : IsCoreOf plan rails.grid core
  pub domain : DomainAt
  pub is_domain : slice_get plan.domains (grid_of plan rails.grid).domain ≡ Some domain
  pub rule : RailRule
  pub is_rule : IsRailRule plan rails core domain rule
  pub few : 2 * length (rows_at plan rails.grid) ≤ most_lines
  pub cut : AreLinesShapes (foreign plan rails.grid rails.spacing) (rails_of rule (rows_at plan rails.grid)) shapes

-- The ring of a grid that is not one over macros: four sides of each net.
pub record DrawSides (plan : Plan) (grid : ℕ) (shapes : List Drawn) : Type 0 where
  pub core : Rect
  pub is_core : IsCoreOf plan grid core
  pub few : (ring : RingAt) → Contains plan.rings ring → ring.grid ≡ grid → 4 * length ring.rule.nets ≤ most_lines
  pub are : shapes ≡ sides_at plan grid core

-- What a grid draws; one over macros draws nothing.
abbrev pub Draws : Plan → ℕ → (List Drawn → Type 0) → List Drawn → Type 0
Draws plan grid drawn shapes =
    (((grid_of plan grid).over_macros ≡ true) × (shapes ≡ [])) ⊎ (((grid_of plan grid).over_macros ≡ false) × drawn shapes)

-- The shapes of commands, one command after another.
abbrev pub AreOfEach : {C : Type 0} → (C → List Drawn → Type 0) → List C → List Drawn → Type 0
AreOfEach draws [] shapes = shapes ≡ []
AreOfEach draws (command ∷ commands) shapes = (first : List Drawn) × (rest : List Drawn) × draws command first
    × AreOfEach draws commands rest × (shapes ≡ first ++ rest)

-- The shapes of a plan: those of the straps, of the rails, and of the rings of the grids, each list in its order.
pub record AreShapes (plan : Plan) (shapes : List Drawn) : Type 0 where
  pub straps : List Drawn
  pub rails : List Drawn
  pub sides : List Drawn
  pub of_straps : AreOfEach (λ (s : Straps). Draws plan s.grid (DrawStraps plan s)) plan.straps straps
  pub of_rails : AreOfEach (λ (r : Rails). Draws plan r.grid (DrawRails plan r)) plan.rails rails
  pub of_grids : AreOfEach (λ (grid : ℕ). Draws plan grid (DrawSides plan grid)) (range_with_len 0 (length plan.grids)) sides
  pub are : shapes ≡ straps ++ rails ++ sides

-- A rule draws more lines: straps by their lines over the core, rails two of each row, a ring four of each net.
pub record StrapsAreMany (plan : Plan) : Type 0 where
  pub straps : Straps
  pub is : Contains plan.straps straps
  pub drawn : (grid_of plan straps.grid).over_macros ≡ false
  pub core : Rect
  pub is_core : IsCoreOf plan straps.grid core
  pub more : DrawsMore most_lines straps.rule core

pub record RailsAreMany (plan : Plan) : Type 0 where
  pub rails : Rails
  pub is : Contains plan.rails rails
  pub drawn : (grid_of plan rails.grid).over_macros ≡ false
  pub more : most_lines < 2 * length (rows_at plan rails.grid)

pub record SidesAreMany (plan : Plan) : Type 0 where
  pub ring : RingAt
  pub is : Contains plan.rings ring
  pub drawn : (grid_of plan ring.grid).over_macros ≡ false
  pub more : most_lines < 4 * length ring.rule.nets

abbrev pub LinesAreMany : Plan → Type 0
LinesAreMany plan = StrapsAreMany plan ⊎ RailsAreMany plan ⊎ SidesAreMany plan
