use Rattle.std.proofs.Common.{◌≡◌, sym, ap, ◌∙◌, arith, SFits, w64}
use Rattle.std.proofs.lemmas.Int.{ints, to_z-of_z}
use Rattle.std.proofs.lemmas.List.Elements.{All-contains}
use Rattle.grid_plan.specs.declared.record.GridAt.{GridAt}
use Rattle.grid_plan.specs.Keeping.{RailsKeep}
use Rattle.grid_shapes.specs.Shapes.{DrawRails}
use Rattle.grid_shapes.specs.Site.{foreign}
use Rattle.grid_shapes.proofs.Each.{adds_nothing, adds_drawn, site_at}
use Rattle.grid_shapes.proofs.shaping.add_rails.Goals as goal

pub grid_at-grid-requires : goal.grid_at-grid-requires
grid_at-grid-requires c = (All-contains (RailsKeep c.requires.plan.0 c.args.plan.now) c.args.plan.now.rails c.args.rule c.requires.plan.1.rails c.requires.rails).grid

pub foreign-requires-clause-grid : goal.foreign-requires-clause-grid
foreign-requires-clause-grid c = (All-contains (RailsKeep c.requires.plan.0 c.args.plan.now) c.args.plan.now.rails c.args.rule c.requires.plan.1.rails c.requires.rails).grid

pub foreign-requires-clause-spacing : goal.foreign-requires-clause-spacing
foreign-requires-clause-spacing c =
    let is = (All-contains (RailsKeep c.requires.plan.0 c.args.plan.now) c.args.plan.now.rails c.args.rule c.requires.plan.1.rails c.requires.rails).spacing in
    let low = is.0 in
    let high = is.1 in
    let fits : SFits w64 c.args.rule.spacing = omega (arith, ints) in
    simp to_z-of_z is

pub draw_rails-requires-clause-regions : goal.draw_rails-requires-clause-regions
draw_rails-requires-clause-regions c =
    let is = (All-contains (RailsKeep c.requires.plan.0 c.args.plan.now) c.args.plan.now.rails c.args.rule c.requires.plan.1.rails c.requires.rails).spacing in
    let low = is.0 in
    let high = is.1 in
    let fits : SFits w64 c.args.rule.spacing = omega (arith, ints) in
    let made : c.in_ok-foreign.foreign.items ≡ foreign c.args.plan.now c.args.rule.grid c.args.rule.spacing = simp to_z-of_z at c.in_ok-foreign.ensures in
    c.deref.ensures.value ∙ made

pub draw_rails-requires-clause-site : goal.draw_rails-requires-clause-site
draw_rails-requires-clause-site c =
    let within = (All-contains (RailsKeep c.requires.plan.0 c.args.plan.now) c.args.plan.now.rails c.args.rule c.requires.plan.1.rails c.requires.rails).grid in
    site_at c.args.plan.now c.args.sites.now c.args.rule.grid c.index-sites-rule.result c.requires.sites within
    (ap (λ (g : GridAt). g.over_macros) (sym c.grid_at-grid.ensures) ∙ c.if-grid.false) c.index-sites-rule.is

pub draw_rails-requires-clause-drawn : goal.draw_rails-requires-clause-drawn
draw_rails-requires-clause-drawn c = ap (λ (g : GridAt). g.over_macros) (sym c.grid_at-grid.ensures) ∙ c.if-grid.false

pub returns-then-grid-clause-added : goal.returns-then-grid-clause-added
returns-then-grid-clause-added c =
    adds_nothing c.args.plan.now c.args.rule.grid (DrawRails c.args.plan.now c.args.rule) c.args.shapes.now.items (ap (λ (g : GridAt). g.over_macros) (sym c.grid_at-grid.ensures) ∙ c.if-grid.true)

pub returns-clause-added : goal.returns-clause-added
returns-clause-added c =
    adds_drawn c.args.plan.now c.args.rule.grid (DrawRails c.args.plan.now c.args.rule) c.args.shapes.now.items c.draw_rails.new.shapes.items
    (ap (λ (g : GridAt). g.over_macros) (sym c.grid_at-grid.ensures) ∙ c.if-grid.false) c.in_ok-draw_rails.ensures.added
