use Rattle.std.proofs.Common.{[], ◌∷◌, ◌++◌, map, sym, ◌∙◌, ap, subst, ◌&&◌}
use Rattle.reading.specs.Fault.{FindsValue}
use Rattle.reading.specs.Grammar.{AreHeard}
use Rattle.reading.specs.Word.{token, heard_token}
use Rattle.spice_cards.specs.declared.sort.Sort.TheVariants as sorts
use Rattle.spice_cards.specs.Sort.{the}
use Rattle.spice_cards.specs.Fault.{LoadFault}
use Rattle.spice_cards.specs.inside.Value.{SaysAmperes, has_none, heard_without_dc}
use Rattle.spice_cards.proofs.Values.{found_after_dc, heard_after_dc}
use Rattle.spice_cards.proofs.fault.load_word.Goals as goal

pub returns-else-is_dc_word : goal.returns-else-is_dc_word
returns-else-is_dc_word c = λ a b heard same.
    let xs = c.args.before.now in
    let w = token c.args.word.now in
    found_after_dc LoadFault SaysAmperes xs w c.amperes_word.result (λ word v is. is.1) heard
    (ap (λ z. has_none xs && the sorts.Dc z) (sym same) ∙ sym c.is_dc_word.ensures ∙ c.if-is_dc_word.false)
    (subst (λ z. FindsValue (LoadFault z (map heard_token (heard_without_dc xs) ++ w ∷ [])) (SaysAmperes (map heard_token (heard_without_dc xs) ++ w ∷ [])) c.amperes_word.result) c.value_at.ensures
    (subst (λ z. FindsValue (LoadFault c.value_at.result (map heard_token z ++ w ∷ [])) (SaysAmperes (map heard_token z ++ w ∷ [])) c.amperes_word.result) c.without_dc.ensures
    (c.amperes_word.ensures (subst (λ z. AreHeard SaysAmperes [] z) (sym c.without_dc.ensures) (heard_after_dc SaysAmperes xs heard)))))
