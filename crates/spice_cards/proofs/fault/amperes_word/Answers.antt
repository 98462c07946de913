use Rattle.std.proofs.Common.{Ok, ◌+◌, [], ◌∷◌, ◌++◌, map, get_or, refl, sym, ap, ◌∙◌, subst, to_z, of_z}
use Rattle.std.specs.Int.{w64}
use Rattle.number_place.specs.Place.{IsNumberAt}
use Rattle.reading.specs.Fault.{FindsValue}
use Rattle.reading.specs.Laws.{no-items, two-items, three-items, heard-as}
use Rattle.reading.specs.Word.{token, heard_token}
use Rattle.spice_cards.specs.Fault.{AnswerFault, EndFault, refused_by, low_by, high_by, LoadFault}
use Rattle.spice_cards.specs.Number.{amperes}
use Rattle.spice_cards.specs.inside.Value.{IsSmall, IsLow, IsHigh, SaysAmperes, small_of}
use Rattle.spice_cards.proofs.Ranges.{kept_64}
use Rattle.spice_cards.proofs.Values.{no_word, found_at}
use Rattle.spice_cards.proofs.fault.amperes_word.Goals as goal

pub returns-in-empty : goal.returns-in-empty
returns-in-empty c = λ heard.
    let w = token c.args.word.now in
    subst (λ z. FindsValue (LoadFault c.args.at (map heard_token z ++ w ∷ [])) (SaysAmperes (map heard_token z ++ w ∷ [])) c.told_at.result) (sym (no-items c.args.before.now c.in-empty.len_below))
    (subst (λ z. FindsValue (LoadFault c.args.at (w ∷ [])) (SaysAmperes (w ∷ [])) z) (sym c.told_at.ensures)
    (found_at (LoadFault c.args.at (w ∷ [])) (SaysAmperes (w ∷ [])) c.args.at (AnswerFault amperes refused_by w.text) (IsSmall amperes w.text) c.small_value.result (λ found k. k) (λ kind k. (refl, k)) (λ v k. k) c.small_value.ensures))

pub returns-in-len2 : goal.returns-in-len2
returns-in-len2 c = λ heard.
    let xs = c.args.before.now in
    let w = token c.args.word.now in
    let words = two-items no_word xs c.in-len2.len_at_least c.in-len2.len_below in
    let said = heard-as SaysAmperes _ _ words heard in
    let first = get_or xs 0 no_word in
    let value = first.word.text.now in
    let part = heard_token first ∷ heard_token (get_or xs 1 no_word) ∷ w ∷ [] in
    let kept = ap (λ z. to_z w64 (of_z w64 z)) c.small.ensures ∙ kept_64 (small_of first.value) said.0.0.1.2.within in
    let is = subst (λ z. IsNumberAt amperes value (Ok z)) (sym kept) said.0.0 in
    subst (λ z. FindsValue (LoadFault c.args.at (map heard_token z ++ w ∷ [])) (SaysAmperes (map heard_token z ++ w ∷ [])) c.told_at-in-len2.result) (sym words)
    (subst (λ z. FindsValue (LoadFault c.args.at part) (SaysAmperes part) z) (sym c.told_at-in-len2.ensures)
    (found_at (LoadFault c.args.at part) (SaysAmperes part) (c.args.at + 2) (EndFault low_by value w.text) (IsLow value w.text) c.low_value.result (λ found k. k) (λ kind k. (refl, k)) (λ v k. k) (c.low_value.ensures value is)))

pub returns-in-len3 : goal.returns-in-len3
returns-in-len3 c = λ heard.
    let xs = c.args.before.now in
    let w = token c.args.word.now in
    let words = three-items no_word xs c.in-len3.len_at_least c.in-len3.len_below in
    let said = heard-as SaysAmperes _ _ words heard in
    let first = get_or xs 0 no_word in
    let value = first.word.text.now in
    let part = heard_token first ∷ heard_token (get_or xs 1 no_word) ∷ heard_token (get_or xs 2 no_word) ∷ w ∷ [] in
    let kept = ap (λ z. to_z w64 (of_z w64 z)) c.small-in-len3.ensures ∙ kept_64 (small_of first.value) said.0.0.1.2.within in
    let is = subst (λ z. IsNumberAt amperes value (Ok z)) (sym kept) said.0.0 in
    subst (λ z. FindsValue (LoadFault c.args.at (map heard_token z ++ w ∷ [])) (SaysAmperes (map heard_token z ++ w ∷ [])) c.told_at-in-len3.result) (sym words)
    (subst (λ z. FindsValue (LoadFault c.args.at part) (SaysAmperes part) z) (sym c.told_at-in-len3.ensures)
    (found_at (LoadFault c.args.at part) (SaysAmperes part) (c.args.at + 3) (EndFault high_by value w.text) (IsHigh value w.text) c.high_value.result (λ found k. k) (λ kind k. (refl, k)) (λ v k. k) (c.high_value.ensures value is)))
