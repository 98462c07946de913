use Rattle.std.proofs.Common.{[], ◌∷◌, ◌++◌, ◌∙◌, ap, map, get_or, sym, subst, arith, length-append}
use Rattle.std.proofs.lemmas.List.{length-map}
use Rattle.def_wiring.specs.Format.{format}
use Rattle.def_wiring.specs.inside.Value.{says}
use Rattle.def_wiring.specs.Record.{heard_of}
use Rattle.def_wiring.proofs.Showing.{first_told, second_told, long_told}
use Rattle.def_wiring.proofs.Words.{no_word}
use Rattle.reading.specs.Fault.{told_at}
use Rattle.reading.specs.Grammar.{Tells}
use Rattle.reading.specs.Laws.{heard-as, no-items, one-item}
use Rattle.reading.specs.Word.{token, heard_token}
use Rattle.def_wiring.proofs.format.WiresFormatGrammar.hear.Goals as goal

pub returns-in-empty : goal.returns-in-empty
returns-in-empty c = λ units h heard same.
    let w = token c.args.word.now in
    subst (λ z. Tells format says units (map heard_token z ++ w ∷ []) c.told_at.result) (sym (no-items c.args.before.now c.in-empty.len_below))
    (subst (λ z. Tells format says units (w ∷ []) z) (sym (c.told_at.ensures ∙ ap (λ z. told_at 0 z) c.sort_or.ensures))
    (first_told units c.args.said.now h c.section-section.result c.section-section.ensures w c.args.sort same c.first_fault.result
    (c.first_fault.ensures (heard_of units).said h.said same)))

pub returns-in-len1 : goal.returns-in-len1
returns-in-len1 c = λ units h heard same.
    let xs = c.args.before.now in
    let w = token c.args.word.now in
    let words = one-item no_word xs c.in-len1.len_at_least c.in-len1.len_below in
    let first = get_or xs 0 no_word in
    let said = heard-as says _ _ words heard in
    subst (λ z. Tells format says units (map heard_token z ++ w ∷ []) c.told_at-in-len1.result) (sym words)
    (subst (λ z. Tells format says units (heard_token first ∷ w ∷ []) z) (sym (c.told_at-in-len1.ensures ∙ ap (λ z. told_at 1 z) c.sort_or-in-len1.ensures))
    (second_told units c.args.said.now h c.section-section.result c.section-section.ensures (heard_token first) w first.value c.args.sort said.0 same
    c.second_fault.result (c.second_fault.ensures (heard_of units).said h.said)))

pub returns-in_default : goal.returns-in_default
returns-in_default c = λ units h heard same.
    let w = token c.args.word.now in
    let many = c.in_default.len_at_least in
    let long = length-append (map heard_token c.args.before.now) (w ∷ []) in
    let count = length-map c.args.before.now heard_token in
    long_told units (map heard_token c.args.before.now ++ w ∷ []) _ (omega (arith, many))
