use Rattle.std.proofs.Common.{◌≡◌, ◌≤◌, ◌*◌, false, List, All, Contains, filter, length, get_or, subst, sym, ap, ◌∙◌, rules, SFits, w64}
use Rattle.std.specs.Bool.{nat_eq}
use Rattle.std.specs.List.{flat_map}
use Rattle.std.proofs.lemmas.Int.{to_z-of_z}
use Rattle.rail_layout.specs.declared.row.RowBox.{RowBox}
use Rattle.ring_layout.specs.Rings.{rings_of}
use Rattle.grid_cores.specs.Core.{IsCore}
use Rattle.grid_plan.specs.declared.record.GridAt.{GridAt}
use Rattle.grid_plan.specs.declared.record.Rails.{Rails}
use Rattle.grid_plan.specs.declared.record.RingAt.{RingAt}
use Rattle.grid_plan.specs.Keeping.{domain_rows}
use Rattle.grid_shapes.specs.Shapes.{IsCoreOf, most_lines}
use Rattle.grid_shapes.specs.Site.{grid_of, rows_at, sides_at, widest, widest_at}
use Rattle.grid_shapes.specs.inside.Sites.{RingFits}
use Rattle.grid_shapes.proofs.ShapesKeep.{plan_core_near, FewRings}
use Rattle.grid_shapes.proofs.SidesKeep.{fits_from}
use Rattle.grid_shapes.proofs.site.site_of.Goals as goal

pub ring_sides-requires : goal.ring_sides-requires
ring_sides-requires c =
    let plan = c.args.plan.now in
    let core = c.core_with-core.result in
    let drawn : (grid_of plan c.args.place).over_macros ≡ false = ap (λ (g : GridAt). g.over_macros) (sym c.requires.grid) ∙ c.if-grid.false in
    let rows : c.in_ok-rows.rows.items ≡ rows_at plan c.args.place = c.in_ok-rows.ensures ∙ ap (λ (g : GridAt). domain_rows plan g.domain) c.requires.grid in
    let is_core : IsCoreOf plan c.args.place core = subst (λ (rs : List RowBox). IsCore rs core) (c.deref.ensures.value ∙ rows) c.core_with-core.ensures in
    let near = plan_core_near c.requires.plan.0 plan c.args.place core c.requires.plan.1 c.requires.place drawn is_core in
    let keep = c.requires.plan.1.rings in
    record {
      rings = subst (λ (rs : List RingAt). All (RingFits core) rs) (sym c.as_slice.ensures)
          (λ k d within. fits_from c.requires.plan.0 plan core (get_or plan.rings k d) (keep k d within) near);
    }

pub returns-clause-site : goal.returns-clause-site
returns-clause-site c =
    let plan = c.args.plan.now in
    let place = c.args.place in
    let core = c.core_with-core.result in
    let rows : c.in_ok-rows.rows.items ≡ rows_at plan place = c.in_ok-rows.ensures ∙ ap (λ (g : GridAt). domain_rows plan g.domain) c.requires.grid in
    let is_core : IsCoreOf plan place core = subst (λ (rs : List RowBox). IsCore rs core) (c.deref.ensures.value ∙ rows) c.core_with-core.ensures in
    let fits : SFits w64 c.widest_of.result = search rules in
    let widest_is : c.widest_of.result ≡ widest_at plan place = c.widest_of.ensures ∙ ap (λ (rs : List Rails). widest (filter (λ (r : Rails). nat_eq r.grid place) rs)) c.as_slice-2.ensures in
    let sides : c.in_ok-ring_sides.field-0.items ≡ sides_at plan place core = c.in_ok-ring_sides.ensures.sides
    ∙ ap (λ (rs : List RingAt). flat_map (λ (ring : RingAt). rings_of ring.rule core) (filter (λ (ring : RingAt). nat_eq ring.grid place) rs)) c.as_slice.ensures in
    let few : FewRings plan place = subst (λ (rs : List RingAt). (ring : RingAt) → Contains rs ring → ring.grid ≡ place → 4 * length ring.rule.nets ≤ most_lines) c.as_slice.ensures c.in_ok-ring_sides.ensures.few in
    λ drawn. record {
      rows = rows;
      core = is_core;
      widest = to_z-of_z w64 c.widest_of.result fits ∙ widest_is;
      sides = sides;
      few = few;
    }
