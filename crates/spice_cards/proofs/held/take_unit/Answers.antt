use Rattle.std.proofs.Common.{OnOk, [], ◌∷◌, ◌-◌, map, length, get_or, take, drop, sym, subst, arith}
use Rattle.reading.specs.Grammar.{AreHeard}
use Rattle.spice_cards.specs.Card.{card_of, card_with}
use Rattle.spice_cards.specs.inside.Held.{AddsUnit}
use Rattle.spice_cards.specs.inside.Value.{says, SaysWord}
use Rattle.std.proofs.lemmas.List.{length-map}
use Rattle.reading.specs.Word.{heard_token}
use Rattle.spice_cards.proofs.Values.{no_word, on_ok, none_adds, no_card, three_more, rest_is, unit_adds}
use Rattle.spice_cards.proofs.held.take_unit.Goals as goal

pub returns-in_default : goal.returns-in_default
returns-in_default c = λ heard.
    let few = c.in_default.len_below in
    let count = length-map c.args.unit.now heard_token in
    none_adds _ c.args.cards.now (no_card (map heard_token c.args.unit.now) (omega (arith, few)))

pub returns-in-len3-up : goal.returns-in-len3-up
returns-in-len3-up c =
    let xs = c.args.unit.now in
    let old = c.args.cards.now in
    let new = c.take_card.new.cards in
    let first = get_or xs 0 no_word in
    let a = get_or xs 1 no_word in
    let b = get_or xs 2 no_word in
    subst (λ z. OnOk c.take_card.result (AreHeard says [] z → AddsUnit (card_of (map heard_token z)) old new)) (sym (three_more xs c.in-len3-up.len_at_least))
    (on_ok (AreHeard (SaysWord c.letter.result a.word.text.now b.word.text.now) [] (take (length xs - 3) (drop 3 xs)) → AddsUnit (card_with c.letter.result a.word.text.now b.word.text.now (map heard_token (take (length xs - 3) (drop 3 xs)))) old new)
    (AreHeard says [] (first ∷ a ∷ b ∷ drop 3 xs) → AddsUnit (card_of (map heard_token (first ∷ a ∷ b ∷ drop 3 xs))) old new) c.take_card.result (λ h heard.
    unit_adds first a b (drop 3 xs) (take (length xs - 3) (drop 3 xs)) c.letter.result old new (rest_is 3 xs) c.letter.ensures heard h) c.take_card.ensures)
