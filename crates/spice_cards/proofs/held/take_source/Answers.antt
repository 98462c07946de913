use Rattle.std.proofs.Common.{Ok, [], map, OnOk, get_or, sym, ◌∙◌, ap, subst, arith, to_z, of_z}
use Rattle.std.specs.Int.{w128}
use Rattle.std.proofs.lemmas.List.{length-map}
use Rattle.number_place.specs.Place.{IsNumberAt}
use Rattle.reading.specs.Grammar.{AreHeard}
use Rattle.reading.specs.Laws.{two-items}
use Rattle.reading.specs.Word.{heard_token}
use Rattle.spice_cards.specs.Card.{source_with}
use Rattle.spice_cards.specs.Number.{volts}
use Rattle.spice_cards.specs.inside.Held.{AddsUnit}
use Rattle.spice_cards.specs.inside.Value.{SaysVolts, wide_of}
use Rattle.spice_cards.proofs.Ranges.{kept_128}
use Rattle.spice_cards.proofs.Values.{no_word, on_ok, none_adds, no_source}
use Rattle.spice_cards.proofs.held.take_source.Goals as goal

pub returns-in-len2 : goal.returns-in-len2
returns-in-len2 c =
    let xs = c.args.words.now in
    let a = c.args.a.now in
    let b = c.args.b.now in
    let first = get_or xs 0 no_word in
    subst (λ z. OnOk c.add_source.result (AreHeard (SaysVolts a b) [] z → AddsUnit (source_with a b (map heard_token z)) c.args.cards.now c.add_source.new.cards))
    (sym (two-items no_word xs c.in-len2.len_at_least c.in-len2.len_below))
    (on_ok _ _ c.add_source.result (λ h heard.
    let kept = ap (λ z. to_z w128 (of_z w128 z)) c.wide.ensures ∙ kept_128 (wide_of first.value) _ (omega arith) heard.0.0.0.1.2.within in
    h first.word.text.now (subst (λ z. IsNumberAt volts first.word.text.now (Ok z)) (sym kept) heard.0.0.0) (λ off. kept ∙ heard.0.1 off)) c.add_source.ensures)

pub returns-in_default : goal.returns-in_default
returns-in_default c = λ heard.
    let few = c.in_default.len_below in
    let count = length-map c.args.words.now heard_token in
    none_adds _ c.args.cards.now (no_source c.args.a.now c.args.b.now (map heard_token c.args.words.now) (λ e. omega (arith, few)))

pub returns-in_default-2 : goal.returns-in_default-2
returns-in_default-2 c = λ heard.
    let many = c.in_default.len_at_least in
    let count = length-map c.args.words.now heard_token in
    none_adds _ c.args.cards.now (no_source c.args.a.now c.args.b.now (map heard_token c.args.words.now) (λ e. omega (arith, many)))
