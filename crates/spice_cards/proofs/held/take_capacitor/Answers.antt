use Rattle.std.proofs.Common.{Ok, map, get_or, refl, sym, ◌∙◌, ap, subst, arith, to_z, of_z}
use Rattle.std.specs.Int.{w128}
use Rattle.std.proofs.lemmas.List.{append-nil}
use Rattle.number_place.specs.Place.{IsNumberAt}
use Rattle.reading.specs.Laws.{two-items, heard-as}
use Rattle.reading.specs.Word.{heard_token}
use Rattle.spice_cards.specs.declared.record.Capacitor.{Capacitor as ReadCapacitor}
use Rattle.spice_cards.specs.declared.record.Cards.{Cards}
use Rattle.spice_cards.specs.Card.{capacitor_with}
use Rattle.spice_cards.specs.Number.{farads}
use Rattle.spice_cards.specs.Record.{no_part}
use Rattle.spice_cards.specs.inside.Held.{AddsUnit}
use Rattle.spice_cards.specs.inside.Value.{SaysFarads, wide_of}
use Rattle.spice_cards.proofs.Ranges.{kept_128}
use Rattle.spice_cards.proofs.Values.{no_word}
use Rattle.spice_cards.proofs.held.take_capacitor.Goals as goal

pub returns-in_ok-push-in-len2 : goal.returns-in_ok-push-in-len2
returns-in_ok-push-in-len2 c = λ heard.
    let xs = c.args.words.now in
    let old = c.args.cards.now in
    let words = two-items no_word xs c.in-len2.len_at_least c.in-len2.len_below in
    let said = heard-as SaysFarads _ _ words heard in
    let first = get_or xs 0 no_word in
    let kept = ap (λ z. to_z w128 (of_z w128 z)) c.wide-farads.ensures ∙ kept_128 (wide_of first.value) _ (omega arith) said.0.0.1.2.within in
    let read : ReadCapacitor = record { a = c.args.a; b = c.args.b; farads = to_z w128 (of_z w128 c.wide-farads.result) } in
    let new : Cards = record { names = old.names; resistors = old.resistors; shorts = old.shorts; pads = old.pads; loads = old.loads; caps = c.push.new.self } in
    subst (λ z. AddsUnit (capacitor_with c.args.a.now c.args.b.now (map heard_token z)) old new) (sym words) (record {
      part = no_part;
      says = refl;
      names = refl;
      distinct = λ d. d;
      lists = record {
        resistors = sym (append-nil _);
        shorts = sym (append-nil _);
        pads = sym (append-nil _);
        loads = sym (append-nil _);
      };
      caps = (read, record { a = refl; b = refl; farads = subst (λ z. IsNumberAt farads first.word.text.now (Ok z)) (sym kept) said.0.0 }, c.in_ok-push-in-len2.ensures.items);
    })
