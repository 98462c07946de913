use Rattle.std.proofs.Common.{◌≡◌, ◌↔◌, ◌<◌, ℤ, pos, length, get_or, subst, sym, ◌∙◌}
use Rattle.std.proofs.lemmas.List.{take_all}
use Rattle.std.proofs.lemmas.Bool.{false≢true}
use Rattle.geom_rect.specs.declared.drawn.Drawn.{Drawn}
use Rattle.geom_rect.specs.declared.drawn.Shape.{Shape}
use Rattle.geom_rect.specs.declared.drawn.Shape.TheVariants.{Ring}
use Rattle.geom_rect.specs.declared.direction.Axis.TheVariants.{X}
use Rattle.geom_rect.specs.declared.run.Run.{Run}
use Rattle.geom_rect.specs.Run.{HasCell, IsHeld}
use Rattle.geom_rect.specs.Drawn.{drawn_run}
use Rattle.grid_pieces.specs.inside.Cutting.{IsOfKind}
use Rattle.grid_pieces.specs.Laws.Amongst.{held_pushed, held_kept}
use Rattle.grid_pieces.proofs.cover.runs_of_kind.Goals as goal
use Rattle.grid_pieces.proofs.cover.runs_of_kind.Goals.{then-is_of_kind+in_ok-push, else-is_of_kind}

nothing : Drawn
nothing = record { net = 0; layer = 0; axis = X; centre = pos 0; width = pos 0; from = pos 0; to = pos 0; shape = Ring }

IsOf : Shape → Drawn → ℤ → Type 0
IsOf kind s t = (s.shape ≡ kind) × HasCell (drawn_run s) t

pub loop-shape-preserved : goal.loop-shape-preserved
unfolding nothing IsOf
loop-shape-preserved c =
    let shapes = c.args.shapes.now in
    let i = c.loop-shape.shape-index in
    let within : i < length shapes = c.loop-shape-test.true in
    elim c.if-is_of_kind.branch [
      | then-is_of_kind+in_ok-push w ↦
          let kind : (get_or shapes i nothing).shape ≡ c.args.kind = c.is_of_kind.ensures.0 w.if-is_of_kind.true in
          rw w.runs-is
          (rw w.in_ok-push.ensures.items
          (held_pushed (IsOf c.args.kind) shapes i nothing c.loop-shape.runs.items w.run_of.result within
          (λ t. (λ has. (kind, subst (λ (r : Run). HasCell r t) w.run_of.ensures has), λ both. subst (λ (r : Run). HasCell r t) (sym w.run_of.ensures) both.1))
          c.loop-shape.invariant))
      | else-is_of_kind w ↦
          rw w.runs-is (held_kept (IsOf c.args.kind) shapes i nothing c.loop-shape.runs.items within (λ t has. absurd (false≢true (sym w.if-is_of_kind.false ∙ c.is_of_kind.ensures.1 has.0))) c.loop-shape.invariant)
    ]

pub returns : goal.returns
returns c =
    let whole = take_all c.loop-shape.shape-index c.args.shapes.now c.loop-shape-test.false in
    subst (λ shapes. (t : ℤ) → IsHeld c.loop-shape.runs.items t ↔ IsOfKind shapes c.args.kind t) whole c.loop-shape.invariant
