use Rattle.std.proofs.Common.{◌≡◌, ◌+◌, pos, List, [], ◌∷◌, ◌++◌, take, get_or, refl, sym, subst, ap, ◌∙◌}
use Rattle.grid_network.specs.declared.junction.Junction.{Junction}
use Rattle.grid_network.specs.declared.pad.PadOn.{PadOn}
use Rattle.grid_network.specs.inside.Steps.{Adds}
use Rattle.grid_network.proofs.Growing.{OfAny, adds_push, over_none, over_more, over_all}
use Rattle.grid_network.proofs.junction.add_pads.Goals as goal

abbrev Stands : PadOn → Junction → Type 0
Stands p j = (p.piece ≡ j.piece) × (p.along ≡ j.along)

pub loop-pad-init : goal.loop-pad-init
loop-pad-init c = over_none Stands c.args.pads.now c.args.places.now.items

pub loop-pad-preserved : goal.loop-pad-preserved
loop-pad-preserved c =
    let all : List PadOn = c.args.pads.now in
    let one : PadOn = get_or all c.loop-pad.pad-index (record { piece = 0; along = pos 0; volts = pos 0 }) in
    let place : Junction = record { piece = one.piece; along = one.along } in
    let mid : List Junction = c.loop-pad.places.items in
    let grown : Adds (Stands one) mid (mid ++ place ∷ []) = adds_push (Stands one) mid place (refl, refl) (λ x h. λ k. record { piece = h.0 k; along = h.1 k }) in
    let F : List Junction → Type 0 = λ l. Adds (OfAny Stands (take (c.loop-pad.pad-index + 1) all)) c.args.places.now.items l in
    subst F (sym (c.in_ok-push.ensures.items ∙ ap (λ j. mid ++ j ∷ []) c.at_pad.ensures))
    (over_more Stands all c.loop-pad.pad-index (record { piece = 0; along = pos 0; volts = pos 0 }) c.args.places.now.items mid (mid ++ place ∷ []) c.loop-pad-test.true c.loop-pad.invariant grown)

pub returns : goal.returns
returns c = over_all Stands c.args.pads.now c.loop-pad.pad-index c.args.places.now.items c.loop-pad.places.items c.loop-pad-test.false c.loop-pad.invariant
