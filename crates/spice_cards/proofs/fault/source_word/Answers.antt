use Rattle.std.proofs.Common.{[], ◌∷◌, ◌++◌, map, sym, ◌∙◌, ap, subst, ◌&&◌}
use Rattle.reading.specs.Fault.{FindsValue}
use Rattle.reading.specs.Word.{token, heard_token}
use Rattle.spice_cards.specs.declared.sort.Sort.TheVariants as sorts
use Rattle.spice_cards.specs.Sort.{the}
use Rattle.spice_cards.specs.Fault.{SourceFault}
use Rattle.spice_cards.specs.inside.Value.{SaysVolts, has_none, heard_without_dc}
use Rattle.spice_cards.proofs.Values.{found_after_dc}
use Rattle.spice_cards.proofs.fault.source_word.Goals as goal

pub returns-else-is_dc_word : goal.returns-else-is_dc_word
returns-else-is_dc_word c = λ heard same.
    let a = c.args.a.now in
    let b = c.args.b.now in
    let xs = c.args.before.now in
    let w = token c.args.word.now in
    found_after_dc (SourceFault a b) (SaysVolts a b) xs w c.volts_word.result (λ word v is. is.0.1) heard
    (ap (λ z. has_none xs && the sorts.Dc z) (sym same) ∙ sym c.is_dc_word.ensures ∙ c.if-is_dc_word.false)
    (subst (λ z. FindsValue (SourceFault a b z (map heard_token (heard_without_dc xs) ++ w ∷ [])) (SaysVolts a b (map heard_token (heard_without_dc xs) ++ w ∷ [])) c.volts_word.result) c.value_at.ensures
    (subst (λ z. FindsValue (SourceFault a b c.value_at.result (map heard_token z ++ w ∷ [])) (SaysVolts a b (map heard_token z ++ w ∷ [])) c.volts_word.result) c.without_dc.ensures c.volts_word.ensures))
