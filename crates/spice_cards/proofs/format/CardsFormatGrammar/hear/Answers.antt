use Rattle.std.proofs.Common.{◌≡◌, [], ◌∷◌, ◌++◌, ◌-◌, map, length, get_or, take, drop, refl, sym, subst, arith}
use Rattle.reading.specs.Fault.{FindsValue}
use Rattle.reading.specs.Grammar.{Tells}
use Rattle.reading.specs.Laws.{tell-heard, no-items, heard-as}
use Rattle.reading.specs.Word.{token, heard_token}
use Rattle.spice_cards.specs.Sort.{sort_of}
use Rattle.spice_cards.specs.Section.{section_of}
use Rattle.spice_cards.specs.Fault.{FirstFault}
use Rattle.spice_cards.specs.Format.{format}
use Rattle.spice_cards.specs.inside.Value.{letter_of, says}
use Rattle.spice_cards.proofs.Values.{no_word, node_told, three_more, rest_is, card_found}
use Rattle.spice_cards.proofs.format.CardsFormatGrammar.hear.Goals as goal

pub returns-in-empty : goal.returns-in-empty
returns-in-empty c = λ units h heard same.
    let w = token c.args.word.now in
    let found = subst (λ z. FindsValue (FirstFault z (sort_of w)) (λ said. letter_of said ≡ sort_of w) c.first_value.result) h.section
    (subst (λ z. FindsValue (FirstFault c.args.said.now.section z) (λ said. letter_of said ≡ z) c.first_value.result) same c.first_value.ensures) in
    tell-heard format says units _ _ w 0 (FirstFault (section_of units) (sort_of w)) (λ said. letter_of said ≡ sort_of w) c.first_value.result _ (no-items c.args.before.now c.in-empty.len_below) c.told_at.ensures
    (λ a k. k) (λ kind k. (refl, k)) (λ v k. k) found

pub returns-in_default : goal.returns-in_default
returns-in_default c = λ units h heard same. node_told units c.args.before.now (token c.args.word.now) _ (omega arith) (omega arith)

pub returns-in-len3-up : goal.returns-in-len3-up
returns-in-len3-up c = λ units h heard same.
    let xs = c.args.before.now in
    let w = token c.args.word.now in
    let words = three_more xs c.in-len3-up.len_at_least in
    subst (λ z. Tells format says units (map heard_token z ++ w ∷ []) c.card_word.result) (sym words)
    (card_found units (get_or xs 0 no_word) (get_or xs 1 no_word) (get_or xs 2 no_word) (drop 3 xs) (take (length xs - 3) (drop 3 xs)) c.letter.result w c.card_word.result (rest_is 3 xs) c.letter.ensures
    (heard-as says _ _ words heard) (λ said. c.card_word.ensures said same))
