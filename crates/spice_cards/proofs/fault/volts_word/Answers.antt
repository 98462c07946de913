use Rattle.std.proofs.Common.{[], ◌∷◌, ◌++◌, map, refl, sym, subst}
use Rattle.reading.specs.Fault.{FindsValue}
use Rattle.reading.specs.Laws.{no-items}
use Rattle.reading.specs.Word.{token, heard_token}
use Rattle.spice_cards.specs.Fault.{AnswerFault, source_by, SourceFault}
use Rattle.spice_cards.specs.Number.{volts}
use Rattle.spice_cards.specs.inside.Value.{IsVolts, SaysVolts}
use Rattle.spice_cards.proofs.Values.{found_at}
use Rattle.spice_cards.proofs.fault.volts_word.Goals as goal

pub returns-in-empty : goal.returns-in-empty
returns-in-empty c =
    let w = token c.args.word.now in
    let a = c.args.a.now in
    let b = c.args.b.now in
    subst (λ z. FindsValue (SourceFault a b c.args.at (map heard_token z ++ w ∷ [])) (SaysVolts a b (map heard_token z ++ w ∷ [])) c.told_at.result) (sym (no-items c.args.before.now c.in-empty.len_below))
    (subst (λ z. FindsValue (SourceFault a b c.args.at (w ∷ [])) (SaysVolts a b (w ∷ [])) z) (sym c.told_at.ensures)
    (found_at (SourceFault a b c.args.at (w ∷ [])) (SaysVolts a b (w ∷ [])) c.args.at (AnswerFault volts (source_by a b) w.text) (IsVolts a b w.text) c.volts_value.result (λ found k. k) (λ kind k. (refl, k)) (λ v k. k) c.volts_value.ensures))
