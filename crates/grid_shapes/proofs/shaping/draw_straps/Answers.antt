use Rattle.std.proofs.Common.{List, All, length, subst, sym, ap, ◌∙◌}
use Rattle.std.proofs.lemmas.List.{length-map}
use Rattle.std.proofs.lemmas.List.Elements.{All-contains}
use Rattle.geom_rect.specs.declared.drawn.Drawn.{Drawn}
use Rattle.geom_rect.specs.declared.run.Run.{Run}
use Rattle.strap_layout.specs.Lines.{AreStrapsUpTo}
use Rattle.grid_cores.specs.Line.{LineKeeps}
use Rattle.grid_plan.specs.Keeping.{StrapsKeep}
use Rattle.grid_shapes.specs.Shapes.{most_lines}
use Rattle.grid_shapes.specs.Site.{strap_reaches}
use Rattle.grid_shapes.specs.inside.Sites.{IsEvenWidth}
use Rattle.grid_shapes.proofs.Commands.{straps_drawn}
use Rattle.grid_shapes.proofs.LinesKeep.{straps_keep, lines_keep}
use Rattle.grid_shapes.proofs.ReachesKeep.{plan_widest_at, reaches_fit}
use Rattle.grid_shapes.proofs.ShapesKeep.{plan_core_near}
use Rattle.grid_shapes.proofs.SidesKeep.{sides_keep}
use Rattle.grid_shapes.proofs.shaping.draw_straps.Goals as goal

pub strap_reaches-requires-clause-near : goal.strap_reaches-requires-clause-near
strap_reaches-requires-clause-near c =
    let tech = c.requires.plan.0 in
    let plan = c.args.plan.now in
    let straps = c.args.straps.now in
    let keeps = c.requires.plan.1 in
    let keep = All-contains (StrapsKeep tech plan) plan.straps straps keeps.straps c.requires.straps in
    plan_core_near tech plan straps.grid c.args.site.now.core keeps keep.grid c.requires.drawn c.requires.site.core

pub strap_reaches-requires-clause-widest : goal.strap_reaches-requires-clause-widest
strap_reaches-requires-clause-widest c =
    subst IsEvenWidth (sym c.requires.site.widest) (plan_widest_at c.requires.plan.0 c.args.plan.now c.args.straps.now.grid c.requires.plan.1)

pub strap_lines-requires : goal.strap_lines-requires
strap_lines-requires c =
    let tech = c.requires.plan.0 in
    let plan = c.args.plan.now in
    let straps = c.args.straps.now in
    let keep = All-contains (StrapsKeep tech plan) plan.straps straps c.requires.plan.1.straps c.requires.straps in
    record {
      width = keep.width.0;
      pitch = keep.pitch;
      reach = ap length (c.deref.ensures.value ∙ c.in_ok-reaches.ensures) ∙ length-map straps.rule.nets _;
    }

pub add_runs-requires : goal.add_runs-requires
add_runs-requires c =
    let tech = c.requires.plan.0 in
    let plan = c.args.plan.now in
    let straps = c.args.straps.now in
    let core = c.args.site.now.core in
    let keeps = c.requires.plan.1 in
    let keep = All-contains (StrapsKeep tech plan) plan.straps straps keeps.straps c.requires.straps in
    let near = plan_core_near tech plan straps.grid core keeps keep.grid c.requires.drawn c.requires.site.core in
    let sides = sides_keep tech plan straps.grid core keeps near c.requires.site.few in
    let reaches = strap_reaches plan straps core in
    let lines = c.in_ok-lines.lines.items in
    let drawn : AreStrapsUpTo most_lines straps.rule core reaches lines = subst (λ (rs : List Run). AreStrapsUpTo most_lines straps.rule core rs lines)
    (c.deref.ensures.value ∙ c.in_ok-reaches.ensures) c.in_ok-lines.ensures.lines in
    let shapes = straps_keep tech plan straps core reaches lines keep near (reaches_fit tech plan straps core keeps near sides) (length-map straps.rule.nets _) drawn.0 in
    subst (λ (ls : List Drawn). All LineKeeps ls) (sym c.deref-2.ensures.value) (lines_keep tech plan lines shapes)

pub returns-clause-added : goal.returns-clause-added
returns-clause-added c =
    let plan = c.args.plan.now in
    let straps = c.args.straps.now in
    straps_drawn plan straps c.args.site.now.core c.deref.result.now c.args.regions.now c.deref-2.result.now c.args.shapes.now.items c.add_runs.new.shapes.items
    c.requires.site.core (c.deref.ensures.value ∙ c.in_ok-reaches.ensures)
    (subst (λ (ls : List Drawn). AreStrapsUpTo most_lines straps.rule c.args.site.now.core c.deref.result.now ls) (sym c.deref-2.ensures.value) c.in_ok-lines.ensures.lines)
    c.requires.regions c.in_ok-add_runs.ensures
