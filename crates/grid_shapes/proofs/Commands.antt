-- What commands draw, put together of what is known of their parts.
use Rattle.std.proofs.Common.{◌≡◌, ℕ, ◌*◌, ◌≤◌, List, [], ◌++◌, length, ap, ◌∙◌, subst, Some}
use Rattle.std.specs.List.{range_with_len}
use Rattle.std.specs.Prelude.{slice_get}
use Rattle.geom_rect.specs.declared.drawn.Drawn.{Drawn}
use Rattle.geom_rect.specs.declared.rect.Rect.{Rect}
use Rattle.geom_rect.specs.declared.run.Run.{Run}
use Rattle.strap_layout.specs.Lines.{AreStrapsUpTo}
use Rattle.rail_layout.specs.declared.row.RowBox.{RowBox}
use Rattle.rail_layout.specs.declared.rule.RailRule.{RailRule}
use Rattle.rail_layout.specs.Rails.{rails_of}
use Rattle.grid_cores.specs.Line.{AreLinesShapes, AddsLines}
use Rattle.grid_pieces.specs.declared.grid.DomainAt.{DomainAt}
use Rattle.grid_plan.specs.declared.record.Plan.{Plan}
use Rattle.grid_plan.specs.declared.record.Rails.{Rails}
use Rattle.grid_plan.specs.declared.record.Straps.{Straps}
use Rattle.grid_shapes.specs.Shapes.{AreShapes, AreOfEach, Draws, DrawStraps, DrawRails, DrawSides, IsRailRule, IsCoreOf, most_lines}
use Rattle.grid_shapes.specs.Site.{grid_of, rows_at, strap_reaches, foreign}
use Rattle.grid_shapes.specs.inside.Sites.{Adds}

pub straps_drawn : (plan : Plan) (straps : Straps) (core : Rect) (reaches : List Run) (regions : List Rect) (lines old new : List Drawn)
    → IsCoreOf plan straps.grid core → reaches ≡ strap_reaches plan straps core → AreStrapsUpTo most_lines straps.rule core reaches lines
    → regions ≡ foreign plan straps.grid straps.spacing → AddsLines regions lines old new → Adds (DrawStraps plan straps) old new
straps_drawn plan straps core reaches regions lines old new is_core is_reaches drawn are_foreign (added, are, joined) = (
  added,
  record {
    core = core;
    is_core = is_core;
    lines = lines;
    drawn = subst (λ (rs : List Run). AreStrapsUpTo most_lines straps.rule core rs lines) is_reaches drawn;
    cut = subst (λ (rs : List Rect). AreLinesShapes rs lines added) are_foreign are;
  },
  joined,
)

pub rails_drawn : (plan : Plan) (rails : Rails) (core : Rect) (domain : DomainAt) (rule : RailRule) (rows : List RowBox) (regions : List Rect)
    (lines old new : List Drawn) → IsCoreOf plan rails.grid core → slice_get plan.domains (grid_of plan rails.grid).domain ≡ Some domain
    → IsRailRule plan rails core domain rule → rows ≡ rows_at plan rails.grid → 2 * length rows ≤ most_lines → lines ≡ rails_of rule rows
    → regions ≡ foreign plan rails.grid rails.spacing → AddsLines regions lines old new → Adds (DrawRails plan rails) old new
rails_drawn plan rails core domain rule rows regions lines old new is_core is_domain is_rule are_rows few are_lines are_foreign (added, are, joined) =
    let all : lines ≡ rails_of rule (rows_at plan rails.grid) = are_lines ∙ ap (rails_of rule) are_rows in (
      added,
      record {
        core = core;
        is_core = is_core;
        domain = domain;
        is_domain = is_domain;
        rule = rule;
        is_rule = is_rule;
        few = subst (λ (rs : List RowBox). 2 * length rs ≤ most_lines) are_rows few;
        cut = subst (λ (ls : List Drawn). AreLinesShapes (foreign plan rails.grid rails.spacing) ls added) all
            (subst (λ (rs : List Rect). AreLinesShapes rs lines added) are_foreign are);
      },
      joined,
    )

-- The three lists of a plan, one after another.
pub all_drawn : (plan : Plan) (none first second third : List Drawn) → none ≡ []
    → Adds (AreOfEach (λ (s : Straps). Draws plan s.grid (DrawStraps plan s)) plan.straps) none first
    → Adds (AreOfEach (λ (r : Rails). Draws plan r.grid (DrawRails plan r)) plan.rails) first second
    → Adds (AreOfEach (λ (grid : ℕ). Draws plan grid (DrawSides plan grid)) (range_with_len 0 (length plan.grids))) second third
    → AreShapes plan third
all_drawn plan none first second third empty (straps, are_straps, with_straps) (rails, are_rails, with_rails) (sides, are_sides, with_sides) = record {
  straps = straps;
  rails = rails;
  sides = sides;
  of_straps = are_straps;
  of_rails = are_rails;
  of_grids = are_sides;
  are = with_sides ∙ ap (λ (ss : List Drawn). ss ++ sides)
      (with_rails ∙ ap (λ (ss : List Drawn). ss ++ rails) (with_straps ∙ ap (λ (ss : List Drawn). ss ++ straps) empty));
}
