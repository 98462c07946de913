use Rattle.std.proofs.Common.{sym, subst}
use Rattle.geom_rect.specs.declared.rect.Rect.{Rect}
use Rattle.macro_turns.specs.Limits.{RectKeeps as TurnKeeps}
use Rattle.block_rects.proofs.Bounds.{rect_keeps}
use Rattle.block_rects.proofs.units.placed_rect.Goals as goal

pub rect_in_place-requires-clause-rect : goal.rect_in_place-requires-clause-rect
rect_in_place-requires-clause-rect c = subst (λ (r : Rect). TurnKeeps r) (sym c.rect_in_units.ensures)
    (rect_keeps c.args.units c.args.rect.now c.requires.units c.requires.rect)
