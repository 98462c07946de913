use Rattle.std.proofs.Common.{◌≡◌, ◌+◌, pos, List, [], ◌∷◌, ◌++◌, take, get_or, refl, sym, subst, ap, ◌∙◌}
use Rattle.grid_network.specs.declared.junction.Junction.{Junction}
use Rattle.grid_network.specs.declared.pad.Tap.{Tap}
use Rattle.grid_network.specs.inside.Steps.{Adds}
use Rattle.grid_network.proofs.Growing.{OfAny, adds_push, over_none, over_more, over_all}
use Rattle.grid_network.proofs.junction.add_taps.Goals as goal

abbrev Stands : Tap → Junction → Type 0
Stands p j = (p.piece ≡ j.piece) × (p.along ≡ j.along)

pub loop-tap-init : goal.loop-tap-init
loop-tap-init c = over_none Stands c.args.taps.now c.args.places.now.items

pub loop-tap-preserved : goal.loop-tap-preserved
loop-tap-preserved c =
    let all : List Tap = c.args.taps.now in
    let one : Tap = get_or all c.loop-tap.tap-index (record { piece = 0; along = pos 0; low = pos 0; high = pos 0 }) in
    let place : Junction = record { piece = one.piece; along = one.along } in
    let mid : List Junction = c.loop-tap.places.items in
    let grown : Adds (Stands one) mid (mid ++ place ∷ []) = adds_push (Stands one) mid place (refl, refl) (λ x h. λ k. record { piece = h.0 k; along = h.1 k }) in
    let F : List Junction → Type 0 = λ l. Adds (OfAny Stands (take (c.loop-tap.tap-index + 1) all)) c.args.places.now.items l in
    subst F (sym (c.in_ok-push.ensures.items ∙ ap (λ j. mid ++ j ∷ []) c.at_tap.ensures))
    (over_more Stands all c.loop-tap.tap-index (record { piece = 0; along = pos 0; low = pos 0; high = pos 0 }) c.args.places.now.items mid (mid ++ place ∷ []) c.loop-tap-test.true c.loop-tap.invariant grown)

pub returns : goal.returns
returns c = over_all Stands c.args.taps.now c.loop-tap.tap-index c.args.places.now.items c.loop-tap.places.items c.loop-tap-test.false c.loop-tap.invariant
