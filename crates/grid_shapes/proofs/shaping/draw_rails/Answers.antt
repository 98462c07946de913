use Rattle.std.proofs.Common.{◌≡◌, ◌*◌, ◌≤◌, List, All, length, subst, sym, ap, ◌∙◌, arith}
use Rattle.std.proofs.lemmas.List.Elements.{All-contains}
use Rattle.geom_rect.specs.declared.drawn.Drawn.{Drawn}
use Rattle.rail_layout.specs.Rails.{rails_of}
use Rattle.grid_cores.specs.Line.{LineKeeps}
use Rattle.grid_plan.specs.Keeping.{RailsKeep, DomainKeeps}
use Rattle.grid_shapes.specs.Shapes.{most_lines}
use Rattle.grid_shapes.specs.Site.{grid_of, rows_at}
use Rattle.grid_shapes.proofs.Commands.{rails_drawn}
use Rattle.grid_shapes.proofs.LinesKeep.{lines_keep}
use Rattle.grid_shapes.proofs.RailsKeep.{rule_keeps, rails_keep}
use Rattle.grid_shapes.proofs.ShapesKeep.{plan_core_near, rows_near, got_keeps}
use Rattle.grid_shapes.proofs.SidesKeep.{sides_keep}
use Rattle.grid_shapes.proofs.shaping.draw_rails.Goals as goal

pub add_runs-requires : goal.add_runs-requires
add_runs-requires c =
    let tech = c.requires.plan.0 in
    let plan = c.args.plan.now in
    let rails = c.args.rule in
    let core = c.args.site.now.core in
    let keeps = c.requires.plan.1 in
    let keep = All-contains (RailsKeep tech plan) plan.rails rails keeps.rails c.requires.rails in
    let near = plan_core_near tech plan rails.grid core keeps keep.grid c.requires.drawn c.requires.site.core in
    let sides = sides_keep tech plan rails.grid core keeps near c.requires.site.few in
    let domain : DomainKeeps plan c.args.domain = got_keeps (DomainKeeps plan) plan.domains (grid_of plan rails.grid).domain c.args.domain keeps.domains c.requires.domain in
    let rule = rule_keeps tech plan rails core c.args.domain c.rail_rule-rule.result keeps keep domain sides c.rail_rule-rule.ensures in
    let shapes = rails_keep tech plan c.rail_rule-rule.result (rows_at plan rails.grid) rule (rows_near tech plan rails.grid keeps) in
    let lines : c.deref-2.result.now ≡ rails_of c.rail_rule-rule.result (rows_at plan rails.grid) =
    c.deref-2.ensures.value ∙ c.in_ok-lines.ensures ∙ ap (rails_of c.rail_rule-rule.result) (c.deref.ensures.value ∙ c.requires.site.rows) in
    subst (λ (ls : List Drawn). All LineKeeps ls) (sym lines) (lines_keep tech plan (rails_of c.rail_rule-rule.result (rows_at plan rails.grid)) shapes)

pub returns-clause-added : goal.returns-clause-added
returns-clause-added c =
    let plan = c.args.plan.now in
    let rails = c.args.rule in
    let rows = c.deref.result.now in
    let are_rows : rows ≡ rows_at plan rails.grid = c.deref.ensures.value ∙ c.requires.site.rows in
    let counted = ap length c.deref.ensures.value in
    let few : 2 * length rows ≤ most_lines = omega arith in
    rails_drawn plan rails c.args.site.now.core c.args.domain c.rail_rule-rule.result rows c.args.regions.now c.deref-2.result.now c.args.shapes.now.items
    c.add_runs.new.shapes.items c.requires.site.core c.requires.domain c.rail_rule-rule.ensures are_rows few (c.deref-2.ensures.value ∙ c.in_ok-lines.ensures)
    c.requires.regions c.in_ok-add_runs.ensures
