use Rattle.std.proofs.Common.{◌≡◌, ℕ, ℤ, List, Option, Some, None, get_or, SFits, rules, sym, ap, ◌∙◌, subst}
use Rattle.std.specs.Int.{w128}
use Rattle.std.proofs.lemmas.Int.{to_z-of_z}
use Rattle.std.proofs.lemmas.Result.{IfOk-weaker}
use Rattle.grid_network.specs.declared.pad.PadOn.{PadOn}
use Rattle.grid_taps.specs.Naming.{At}
use Rattle.grid_taps.specs.Pads.{IsSupply, AreOnPieces}
use Rattle.grid_taps.specs.inside.Steps.{HasVolts}
use Rattle.grid_taps.specs.inside.Standing.{AreOnWith}
use Rattle.grid_taps.proofs.PadLemmas.{on_none, with_supply}
use Rattle.grid_taps.proofs.on_piece.stands_on.Goals as goal

pub returns-in_default-clause-on : goal.returns-in_default-clause-on
returns-in_default-clause-on c =
    subst (λ (on : List PadOn). AreOnPieces c.args.grid.now c.args.tech.now c.args.bias.now c.args.pad.now on) (sym c.new.ensures.items)
    (on_none c.args.grid.now c.args.tech.now c.args.bias.now c.args.pad.now (λ one one_is. c.in_default.ensures one_is.stands.x one_is.stands.y one_is.stands.in_x one_is.stands.in_y))

pub returns-in_default-volts_at-clause-on : goal.returns-in_default-volts_at-clause-on
returns-in_default-volts_at-clause-on c =
    let pad = c.args.pad.now in
    let supplies = c.args.bias.now.supplies in
    let net = c.in-Some-place_of.net in
    let at = subst (λ (names : List (List ℕ)). At names net c.bytes.result.now) c.requires.nets.names c.in-Some-place_of.ensures.place in
    let named : At c.args.grid.now.nets net pad.net = subst (λ (n : List ℕ). At c.args.grid.now.nets net n) c.bytes.ensures at in
    let read : None ≡ get_or c.args.nets.now.volts.items net None = c.in_default-volts_at.ensures ∙ ap (λ (vs : List (Option ℤ)). get_or vs net None) c.deref.ensures.value in
    let none : HasVolts supplies pad.net None = subst (λ o. HasVolts supplies pad.net o) (sym read) (c.requires.nets.volts.each net pad.net None named) in
    subst (λ (on : List PadOn). AreOnPieces c.args.grid.now c.args.tech.now c.args.bias.now pad on) (sym c.new-in_default-volts_at.ensures.items)
    (on_none c.args.grid.now c.args.tech.now c.args.bias.now pad (λ one one_is. none one_is.volts.0 one_is.volts.1 one_is.volts.2.0))

pub returns-clause-on : goal.returns-clause-on
returns-clause-on c =
    let pad = c.args.pad.now in
    let supplies = c.args.bias.now.supplies in
    let net = c.in-Some-place_of.net in
    let volts = c.in-Some-volts_at.volts in
    let at = subst (λ (names : List (List ℕ)). At names net c.bytes.result.now) c.requires.nets.names c.in-Some-place_of.ensures.place in
    let named : At c.args.grid.now.nets net pad.net = subst (λ (n : List ℕ). At c.args.grid.now.nets net n) c.bytes.ensures at in
    let read : Some volts ≡ get_or c.args.nets.now.volts.items net None = c.in-Some-volts_at.ensures ∙ ap (λ (vs : List (Option ℤ)). get_or vs net None) c.deref.ensures.value in
    let supply : IsSupply c.args.bias.now pad.net volts = subst (λ o. HasVolts supplies pad.net o) (sym read) (c.requires.nets.volts.each net pad.net None named) in
    let fits : SFits w128 volts = search rules in
    let told = simp to_z-of_z at c.on_layer.ensures in
    IfOk-weaker c.on_layer.result (λ on. AreOnWith c.args.grid.now c.args.tech.now pad volts on.items) (λ on. AreOnPieces c.args.grid.now c.args.tech.now c.args.bias.now pad on.items)
    (λ on h. with_supply c.args.grid.now c.args.tech.now c.args.bias.now pad volts on.items c.requires.bias supply h) told
