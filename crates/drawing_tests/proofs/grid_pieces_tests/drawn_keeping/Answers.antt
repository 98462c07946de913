use Rattle.std.proofs.Common.{◌≡◌, sym, ◌∙◌}
use Rattle.std.proofs.lemmas.List.Elements.{All-push, All-contains}
use Rattle.geom_rect.specs.declared.drawn.Drawn.{Drawn}
use Rattle.grid_pieces.specs.Limits.{DrawnKeeps}
use Rattle.drawing_tests.proofs.grid_pieces_tests.drawn_keeping.Goals as goal
use Rattle.drawing_tests.proofs.grid_pieces_tests.drawn_keeping.Goals.{then-is_along+then-drawn_keeps+in_ok-push, else-is_along}

pub loop-shape-preserved : goal.loop-shape-preserved
loop-shape-preserved c =
    elim c.if-is_along.branch [
      | then-is_along+then-drawn_keeps+in_ok-push w ↦ (
        rw w.kept-is (rw w.in_ok-push.ensures.items (All-push DrawnKeeps c.loop-shape.kept.items _ c.loop-shape.invariant.0 (w.drawn_keeps.ensures w.if-drawn_keeps.true))),
        rw w.kept-is (rw w.in_ok-push.ensures.items (All-push (λ (s : Drawn). s.axis ≡ c.args.axis) c.loop-shape.kept.items _ c.loop-shape.invariant.1 (c.is_along.ensures.0 w.if-is_along.true))),
      )
      | else-is_along w ↦ (rw w.kept-is c.loop-shape.invariant.0, rw w.kept-is c.loop-shape.invariant.1)
    ]

pub returns-clause-one_axis : goal.returns-clause-one_axis
returns-clause-one_axis c a b has_a has_b layer =
    let on = λ (s : Drawn). All-contains (λ (s : Drawn). s.axis ≡ c.args.axis) c.loop-shape.kept.items s c.loop-shape.invariant.1 in
    on a has_a ∙ sym (on b has_b)
