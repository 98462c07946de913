use Rattle.std.proofs.Common.{[], ◌∷◌, ◌++◌, map, refl, sym, subst}
use Rattle.reading.specs.Fault.{FindsValue}
use Rattle.reading.specs.Laws.{no-items}
use Rattle.reading.specs.Word.{token, heard_token}
use Rattle.spice_cards.specs.Fault.{AnswerFault, refused_by, ResistorFault}
use Rattle.spice_cards.specs.Number.{ohms}
use Rattle.spice_cards.specs.inside.Value.{IsWide, SaysOhms}
use Rattle.spice_cards.proofs.Values.{found_at}
use Rattle.spice_cards.proofs.fault.ohms_word.Goals as goal

pub returns-in-empty : goal.returns-in-empty
returns-in-empty c =
    let w = token c.args.word.now in
    subst (λ z. FindsValue (ResistorFault (map heard_token z ++ w ∷ [])) (SaysOhms (map heard_token z ++ w ∷ [])) c.told_at.result) (sym (no-items c.args.before.now c.in-empty.len_below))
    (subst (λ z. FindsValue (ResistorFault (w ∷ [])) (SaysOhms (w ∷ [])) z) (sym c.told_at.ensures)
    (found_at (ResistorFault (w ∷ [])) (SaysOhms (w ∷ [])) 3 (AnswerFault ohms refused_by w.text) (IsWide ohms w.text) c.wide_at.result (λ found k. k) (λ kind k. (refl, k)) (λ v k. k) c.wide_at.ensures))
