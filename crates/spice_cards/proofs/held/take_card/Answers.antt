use Rattle.std.proofs.Common.{OnOk, [], map, sym, ◌∙◌, ap, subst}
use Rattle.reading.specs.Grammar.{AreHeard}
use Rattle.reading.specs.Word.{heard_token}
use Rattle.spice_cards.specs.Card.{card_with, source_with, load_with}
use Rattle.spice_cards.specs.inside.Held.{AddsUnit}
use Rattle.spice_cards.specs.inside.Value.{SaysWord, SaysVolts, SaysAmperes}
use Rattle.spice_cards.proofs.Values.{on_ok, heard_after_dc, same_after_dc}
use Rattle.spice_cards.proofs.held.take_card.Goals as goal

pub returns-in-Resistor : goal.returns-in-Resistor
returns-in-Resistor c =
    let a = c.args.a.now in
    let b = c.args.b.now in
    let xs = c.args.words.now in
    subst (λ z. OnOk c.take_resistor.result (AreHeard (SaysWord z a b) [] xs → AddsUnit (card_with z a b (map heard_token xs)) c.args.cards.now c.take_resistor.new.cards)) (sym c.in-Resistor.is) c.take_resistor.ensures

pub returns-in-Source : goal.returns-in-Source
returns-in-Source c =
    let a = c.args.a.now in
    let b = c.args.b.now in
    let xs = c.args.words.now in
    let old = c.args.cards.now in
    on_ok _ _ c.take_source.result (λ h heard.
    let said = subst (λ z. AreHeard (SaysWord z a b) [] xs) c.in-Source.is heard in
    let left = subst (λ z. AreHeard (SaysVolts a b) [] z) (sym c.without_dc.ensures) (heard_after_dc (SaysVolts a b) xs said) in
    let same = ap (map heard_token) c.without_dc.ensures ∙ same_after_dc (SaysVolts a b) xs said in
    subst (λ z. AddsUnit (card_with z a b (map heard_token xs)) old c.take_source.new.cards) (sym c.in-Source.is)
    (subst (λ z. AddsUnit (source_with a b z) old c.take_source.new.cards) same (h left))) c.take_source.ensures

pub returns-in-Load : goal.returns-in-Load
returns-in-Load c =
    let a = c.args.a.now in
    let b = c.args.b.now in
    let xs = c.args.words.now in
    let old = c.args.cards.now in
    on_ok _ _ c.take_load.result (λ h heard.
    let said = subst (λ z. AreHeard (SaysWord z a b) [] xs) c.in-Load.is heard in
    let left = subst (λ z. AreHeard SaysAmperes [] z) (sym c.without_dc-in-Load.ensures) (heard_after_dc SaysAmperes xs said) in
    let same = ap (map heard_token) c.without_dc-in-Load.ensures ∙ same_after_dc SaysAmperes xs said in
    subst (λ z. AddsUnit (card_with z a b (map heard_token xs)) old c.take_load.new.cards) (sym c.in-Load.is)
    (subst (λ z. AddsUnit (load_with a b z) old c.take_load.new.cards) same (h left))) c.take_load.ensures

pub returns-in-Capacitor : goal.returns-in-Capacitor
returns-in-Capacitor c =
    let a = c.args.a.now in
    let b = c.args.b.now in
    let xs = c.args.words.now in
    subst (λ z. OnOk c.take_capacitor.result (AreHeard (SaysWord z a b) [] xs → AddsUnit (card_with z a b (map heard_token xs)) c.args.cards.now c.take_capacitor.new.cards)) (sym c.in-Capacitor.is) c.take_capacitor.ensures
