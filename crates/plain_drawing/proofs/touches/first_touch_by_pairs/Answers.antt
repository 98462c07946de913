use Rattle.std.proofs.Common.{List, subst, ◌∙◌}
use Rattle.grid_pieces.specs.declared.metal.Metal.{Metal}
use Rattle.grid_pieces.specs.Touch.{Finds}
use Rattle.plain_drawing.proofs.touches.first_touch_by_pairs.Goals as goal

pub returns : goal.returns
returns c = subst (λ (ms : List Metal). Finds ms c.least_touch.result) (c.deref.ensures.value ∙ c.in_ok-all.ensures) c.least_touch.ensures
