use Rattle.std.proofs.Common.{◌≡◌, ap, ◌∙◌, rules}
use Rattle.geom_rect.specs.declared.rect.Rect.{Rect}
use Rattle.macro_turns.specs.Turns.{box_in_place}
use Rattle.macro_turns.proofs.Places.{box_begins}
use Rattle.macro_turns.proofs.placing.box_in_place.Goals as goal

pub returns-clause-left : goal.returns-clause-left
returns-clause-left c =
    let is : c.rect_in_place.result ≡ box_in_place c.args.placed = search rules in
    ap (λ (r : Rect). r.x1) is ∙ (box_begins c.args.placed c.requires).0

pub returns-clause-bottom : goal.returns-clause-bottom
returns-clause-bottom c =
    let is : c.rect_in_place.result ≡ box_in_place c.args.placed = search rules in
    ap (λ (r : Rect). r.y1) is ∙ (box_begins c.args.placed c.requires).1
