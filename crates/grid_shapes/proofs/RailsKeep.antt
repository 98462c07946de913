-- What rails keep.
use Rattle.std.proofs.Common.{◌≡◌, ℕ, ◌+◌, ◌<◌, ◌^◌, ℤ, Bool, true, false, not, List, All, length, sym, ap, ◌∙◌, arith, subst, Option, Some, None}
use Rattle.std.specs.Option.{IfSome}
use Rattle.geom_rect.specs.declared.direction.Axis.TheVariants.{X}
use Rattle.geom_rect.specs.declared.rect.Rect.{Rect}
use Rattle.geom_rect.specs.declared.run.Run.{Run}
use Rattle.lef_tech.specs.declared.tech.Tech.{Tech}
use Rattle.via_arrays.specs.Choice.{direction}
use Rattle.rail_layout.specs.declared.row.RowBox.{RowBox}
use Rattle.rail_layout.specs.declared.rule.RailRule.{RailRule}
use Rattle.rail_layout.specs.Rails.{rails_of, rails_of_row, rail_at, run_or, lower_edge, upper_edge}
use Rattle.grid_pieces.specs.declared.grid.DomainAt.{DomainAt}
use Rattle.grid_plan.specs.declared.record.Plan.{Plan}
use Rattle.grid_plan.specs.declared.record.Rails.{Rails}
use Rattle.grid_plan.specs.Keeping.{PlanKeeps, RailsKeep, DomainKeeps, LiesNear, IsNear, IsLineWidth, most_of_rows}
use Rattle.grid_shapes.specs.Shapes.{IsRailRule}
use Rattle.grid_shapes.specs.Site.{sides_at}
use Rattle.grid_shapes.specs.inside.Sites.{ShapeKeeps}
use Rattle.grid_shapes.proofs.Coordinates.{RunFits, coordinate, centred_fits, width_keeps}
use Rattle.grid_shapes.proofs.Cores.{low_of, high_of}
use Rattle.grid_shapes.proofs.Lists.{All-flat_map, all_two}
use Rattle.grid_shapes.proofs.ReachesKeep.{stated_fits, grown_low, grown_high}
use Rattle.grid_shapes.proofs.Widest.{even_from}

-- What a rail rule keeps.
pub record RuleKeeps (tech : Tech) (plan : Plan) (rule : RailRule) : Type 0 where
  pub layer : rule.layer < length tech.routing
  pub axis : direction tech rule.layer ≡ X
  pub width : IsLineWidth rule.width
  pub lower_net : rule.ground < length plan.nets
  pub upper_net : rule.power < length plan.nets
  pub lower_reach : IfSome rule.ground_reach RunFits
  pub upper_reach : IfSome rule.power_reach RunFits

pub rule_keeps : (tech : Tech) (plan : Plan) (rails : Rails) (core : Rect) (domain : DomainAt) (rule : RailRule) → PlanKeeps tech plan → RailsKeep tech plan rails
    → DomainKeeps plan domain → All (ShapeKeeps tech plan) (sides_at plan rails.grid core) → IsRailRule plan rails core domain rule → RuleKeeps tech plan rule
rule_keeps tech plan rails core domain rule keeps rails_keep domain_keeps sides is =
    let ring_sides = sides_at plan rails.grid core in
    record {
      layer = subst (λ (n : ℕ). n < length tech.routing) (sym is.layer) rails_keep.layer;
      axis = ap (direction tech) is.layer ∙ rails_keep.axis;
      width = subst IsLineWidth (sym is.width) rails_keep.width;
      lower_net = subst (λ (n : ℕ). n < length plan.nets) (sym is.lower_net) domain_keeps.lower_net;
      upper_net = subst (λ (n : ℕ). n < length plan.nets) (sym is.upper_net) domain_keeps.upper_net;
      lower_reach = subst (λ (r : Option Run). IfSome r RunFits) (sym is.lower_reach) (stated_fits tech plan rails.reach X plan.die ring_sides domain.ground keeps.die sides);
      upper_reach = subst (λ (r : Option Run). IfSome r RunFits) (sym is.upper_reach) (stated_fits tech plan rails.reach X plan.die ring_sides domain.power keeps.die sides);
    }

run_fits : (stated : Option Run) (row : RowBox) → IfSome stated RunFits → LiesNear most_of_rows row.rect → RunFits (run_or stated row)
run_fits (Some run) row fits near = fits
run_fits None row fits near =
    record { from = coordinate most_of_rows row.rect.x1 (omega arith) near.x1; to = coordinate most_of_rows row.rect.x2 (omega arith) near.x2 }

rail_keeps : (tech : Tech) (plan : Plan) (rule : RailRule) (row : RowBox) (height : ℤ) (is_power : Bool) → RuleKeeps tech plan rule
    → LiesNear most_of_rows row.rect → IsNear most_of_rows height
    → ShapeKeeps tech plan (rail_at rule row (record { height = height; is_power = is_power }))
rail_keeps tech plan rule row height true keeps near at =
    let even = even_from rule.width keeps.width in
    let low = low_of most_of_rows height at in
    let high = high_of most_of_rows height at in
    let run = run_or rule.power_reach row in
    let fits = run_fits rule.power_reach row keeps.upper_reach near in
    record {
      keeps = (width_keeps rule.width keeps.width, centred_fits X height rule.width run.from run.to (grown_low height rule.width low high even) (grown_high height rule.width low high even) fits.from fits.to);
      even = keeps.width.0;
      net = keeps.upper_net;
      layer = keeps.layer;
      axis = sym keeps.axis;
    }
rail_keeps tech plan rule row height false keeps near at =
    let even = even_from rule.width keeps.width in
    let low = low_of most_of_rows height at in
    let high = high_of most_of_rows height at in
    let run = run_or rule.ground_reach row in
    let fits = run_fits rule.ground_reach row keeps.lower_reach near in
    record {
      keeps = (width_keeps rule.width keeps.width, centred_fits X height rule.width run.from run.to (grown_low height rule.width low high even) (grown_high height rule.width low high even) fits.from fits.to);
      even = keeps.width.0;
      net = keeps.lower_net;
      layer = keeps.layer;
      axis = sym keeps.axis;
    }

pub rails_keep : (tech : Tech) (plan : Plan) (rule : RailRule) (rows : List RowBox) → RuleKeeps tech plan rule
    → All (λ (row : RowBox). LiesNear most_of_rows row.rect) rows → All (ShapeKeeps tech plan) (rails_of rule rows)
rails_keep tech plan rule rows keeps near =
    All-flat_map (λ (row : RowBox). LiesNear most_of_rows row.rect) (ShapeKeeps tech plan) (rails_of_row rule)
    (λ row is. all_two (ShapeKeeps tech plan) (rail_at rule row (lower_edge row)) (rail_at rule row (upper_edge row))
    (rail_keeps tech plan rule row row.rect.y1 row.flipped keeps is is.y1) (rail_keeps tech plan rule row row.rect.y2 (not row.flipped) keeps is is.y2)) rows near
