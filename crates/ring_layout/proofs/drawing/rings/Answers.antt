use Rattle.std.proofs.Common.{◌≡◌, ℕ, ◌<◌, List, ◌++◌, length, get_or, subst, sym, ap, ◌∙◌, arith}
use Rattle.geom_rect.specs.declared.drawn.Drawn.{Drawn}
use Rattle.geom_rect.specs.declared.rect.Rect.{Rect}
use Rattle.ring_layout.specs.Rings.{outer_edges, sides_within, sides_of, LieAtCoordinates}
use Rattle.ring_layout.proofs.Fitting.{edges_lie}
use Rattle.ring_layout.proofs.Nets.{flat_map-next}
use Rattle.ring_layout.proofs.drawing.rings.Goals as goal

pub outer_edges-outer-requires : goal.outer_edges-outer-requires
outer_edges-outer-requires c =
    let within : c.loop-place.place < length c.args.rule.now.nets = omega (arith, ap length c.as_slice-nets.ensures) in
    edges_lie c.args.rule.now _ (outer_edges c.args.rule.now c.args.core c.loop-place.place) (c.requires.within c.loop-place.place within)

pub sides_within-requires-clause-within : goal.sides_within-requires-clause-within
sides_within-requires-clause-within c =
    let rule = c.args.rule.now in
    let place = c.loop-place.place in
    let within : place < length rule.nets = omega (arith, ap length c.as_slice-nets.ensures) in
    subst (λ (outer : Rect). LieAtCoordinates (sides_within rule (get_or c.as_slice-nets.result.now place 0) outer)) (sym c.outer_edges-outer.ensures)
    (subst (λ (nets : List ℕ). LieAtCoordinates (sides_within rule (get_or nets place 0) (outer_edges rule c.args.core place))) (sym c.as_slice-nets.ensures)
    (c.requires.within place within))

pub loop-place-preserved : goal.loop-place-preserved
loop-place-preserved c =
    let rule = c.args.rule.now in
    let place = c.loop-place.place in
    let sides : c.sides_within.result ≡ sides_of rule c.args.core place =
    c.sides_within.ensures ∙ ap (λ (outer : Rect). sides_within rule (get_or c.as_slice-nets.result.now place 0) outer) c.outer_edges-outer.ensures
    ∙ ap (λ (nets : List ℕ). sides_within rule (get_or nets place 0) (outer_edges rule c.args.core place)) c.as_slice-nets.ensures in
    c.in_ok-extend_from_slice.ensures.items ∙ ap (λ (more : List Drawn). c.loop-place.sides.items ++ more) sides
    ∙ ap (λ (all : List Drawn). all ++ sides_of rule c.args.core place) c.loop-place.invariant ∙ sym (flat_map-next (sides_of rule c.args.core) place)
