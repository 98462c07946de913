use Rattle.std.proofs.Common.{◌≡◌, sym, subst, rules}
use Rattle.geom_rect.specs.declared.rect.Rect.{Rect}
use Rattle.geom_rect.specs.Rect.{HasCoordinates}
use Rattle.macro_turns.specs.Turns.{rect_in_place, HasPlacesOf}
use Rattle.macro_turns.proofs.Places.{places, at_coordinates}
use Rattle.macro_turns.proofs.placing.rect_in_place.Goals as goal

pub returns-clause-points : goal.returns-clause-points
returns-clause-points c =
    let is : c.spanned.result ≡ rect_in_place c.args.placed c.args.rect = search rules in
    subst (λ (r : Rect). HasPlacesOf c.args.placed c.args.rect r) (sym is) (places c.args.placed c.args.rect c.requires.rect.in_order)

pub returns-clause-coordinates : goal.returns-clause-coordinates
returns-clause-coordinates c =
    let is : c.spanned.result ≡ rect_in_place c.args.placed c.args.rect = search rules in
    subst HasCoordinates (sym is) (at_coordinates c.args.placed c.args.rect c.requires.placed c.requires.rect)
