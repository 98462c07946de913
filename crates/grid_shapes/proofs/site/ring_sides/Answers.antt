use Rattle.std.proofs.Common.{◌≡◌, ◌++◌, ◌*◌, ◌≤◌, List, Vec, Global, length, get_or, sym, ap, ◌∙◌, subst, eq-eqb, filter, take}
use Rattle.std.specs.Bool.{nat_eq}
use Rattle.std.specs.List.{flat_map}
use Rattle.std.proofs.lemmas.Bool.{ne_eqb}
use Rattle.ring_layout.specs.Rings.{rings_of}
use Rattle.geom_rect.specs.declared.drawn.Drawn.{Drawn}
use Rattle.grid_plan.specs.declared.record.RingAt.{RingAt}
use Rattle.grid_shapes.specs.Shapes.{most_lines}
use Rattle.grid_shapes.specs.inside.Sites.{RingFits}
use Rattle.grid_shapes.proofs.RingSides.{sides_more, sides_kept, few_more}
use Rattle.grid_shapes.proofs.site.ring_sides.Goals as goal
use Rattle.grid_shapes.proofs.site.ring_sides.Goals.{then-ring-grid+in_ok-add_ring, else-ring-grid}

pub add_ring-requires : goal.add_ring-requires
add_ring-requires c =
    subst (λ (r : RingAt). RingFits c.args.core r) (sym c.ring-item.is) (c.requires.rings c.loop-ring.ring-index c.ring-item.result c.loop-ring-test.true)

pub loop-ring-preserved : goal.loop-ring-preserved
loop-ring-preserved c =
    let i = c.loop-ring.ring-index in
    let all = c.args.all.now in
    let d = c.ring-item.result in
    let f = λ (ring : RingAt). rings_of ring.rule c.args.core in
    let passes = λ (ring : RingAt). nat_eq ring.grid c.args.grid in
    let more = sides_more f passes all i d c.loop-ring-test.true in
    let kept = sides_kept f passes all i d c.loop-ring-test.true in
    let grid : d.grid ≡ (get_or all i d).grid = ap (λ (r : RingAt). r.grid) c.ring-item.is in
    let rings : rings_of d.rule c.args.core ≡ f (get_or all i d) = ap f c.ring-item.is in
    let nets : length d.rule.nets ≡ length (get_or all i d).rule.nets = ap (λ (r : RingAt). length r.rule.nets) c.ring-item.is in
    elim c.if-ring-grid.branch [
      | then-ring-grid+in_ok-add_ring w ↦ record {
        sides = ap (λ (v : Vec Drawn Global). v.items) w.sides-is ∙ w.in_ok-add_ring.ensures.added ∙ ap (λ (ss : List Drawn). ss ++ rings_of d.rule c.args.core) c.loop-ring.invariant.sides
            ∙ ap (λ (ss : List Drawn). flat_map f (filter passes (take i all)) ++ ss) rings ∙ sym (more (eq-eqb _ _ (sym grid ∙ w.if-ring-grid.true)));
        few = few_more c.args.grid all i d c.loop-ring-test.true c.loop-ring.invariant.few
            (λ is. subst (λ n. 4 * n ≤ most_lines) nets w.in_ok-add_ring.ensures.few);
      }
      | else-ring-grid w ↦ record {
        sides = ap (λ (v : Vec Drawn Global). v.items) w.sides-is ∙ c.loop-ring.invariant.sides ∙ sym (kept (ne_eqb _ _ (λ same. w.if-ring-grid.false (grid ∙ same))));
        few = few_more c.args.grid all i d c.loop-ring-test.true c.loop-ring.invariant.few (λ is. absurd (w.if-ring-grid.false (grid ∙ is)));
      }
    ]
