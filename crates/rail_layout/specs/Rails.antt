-- The rails along rows (OpenROAD PDN manual, add_pdn_stripe -followpins; LEF/DEF 5.8 Language Reference, ROW).
use Rattle.std.specs.Prelude.{ℤ, Bool, not, if◌then◌else◌, List, [], ◌∷◌, Option, None, Some}
use Rattle.std.specs.List.{flat_map}
use Rattle.geom_rect.specs.declared.direction.Axis.TheVariants.{X}
use Rattle.geom_rect.specs.declared.drawn.Drawn.{Drawn}
use Rattle.geom_rect.specs.declared.drawn.Shape.TheVariants.{FollowPin}
use Rattle.geom_rect.specs.declared.run.Run.{Run}
use Rattle.rail_layout.specs.declared.row.RowBox.{RowBox}
use Rattle.rail_layout.specs.declared.rule.RailRule.{RailRule}

-- an edge of a row, with the net whose rail lies there
pub record Edge : Type 0 where
  pub height : ℤ
  pub is_power : Bool

-- the lower edge has ground, and that of a flipped row has power
abbrev pub lower_edge : RowBox → Edge
lower_edge row = record { height = row.rect.y1; is_power = row.flipped }

-- the upper edge has the other net
abbrev pub upper_edge : RowBox → Edge
upper_edge row = record { height = row.rect.y2; is_power = not row.flipped }

-- the stated reach, or else from the row's left end to its right one
abbrev pub run_or : Option Run → RowBox → Run
run_or (Some reach) row = reach
run_or None row = record { from = row.rect.x1; to = row.rect.x2 }

-- the reach of a net's rails along a row
abbrev pub reach_of : RailRule → RowBox → Bool → Run
reach_of rule row is_power = run_or (if is_power then rule.power_reach else rule.ground_reach) row

-- the rail at an edge of a row: centred on it
abbrev pub rail_at : RailRule → RowBox → Edge → Drawn
rail_at rule row edge = record {
  net = if edge.is_power then rule.power else rule.ground;
  layer = rule.layer;
  axis = X;
  centre = edge.height;
  width = rule.width;
  from = (reach_of rule row edge.is_power).from;
  to = (reach_of rule row edge.is_power).to;
  shape = FollowPin;
}

-- the two rails of a row, the lower one first
abbrev pub rails_of_row : RailRule → RowBox → List Drawn
rails_of_row rule row = rail_at rule row (lower_edge row) ∷ rail_at rule row (upper_edge row) ∷ []

-- the rails of the rows, in their order
abbrev pub rails_of : RailRule → List RowBox → List Drawn
rails_of rule rows = flat_map (rails_of_row rule) rows
