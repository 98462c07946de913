use Rattle.std.proofs.Common.{◌≡◌, true, false, Ok, Some, [], map, get_or, sym, ◌∙◌, ap, refl, subst, to_z, of_z}
use Rattle.std.specs.Int.{w128}
use Rattle.bias_file.specs.Sort.{the, sort_of}
use Rattle.bias_file.specs.Rule.{is_line, has_value}
use Rattle.bias_file.specs.inside.Held.{FindsVolts}
use Rattle.bias_file.specs.inside.Value.{SaysThird, wide_of, says}
use Rattle.bias_file.specs.declared.held.NetVolts.{NetVolts}
use Rattle.reading.specs.Laws.{four-items}
use Rattle.bias_file.proofs.Taking.{no_word, has_both, not_begun, begun_with, number_kept}
use Rattle.number_place.specs.Place.{IsNumberAt}
use Rattle.reading.specs.Grammar.{AreHeard}
use Rattle.reading.specs.Word.{heard_token}
use Rattle.bias_file.proofs.held.net_volts.Goals as goal

pub returns-then-not-begins : goal.returns-then-not-begins
returns-then-not-begins c = λ place limit gives heard.
    let words = four-items no_word c.args.unit.now c.in-len4.len_at_least c.in-len4.len_below in
    let said = subst (λ z. AreHeard says [] z) words heard in
    subst (λ z. is_line c.args.word (map heard_token z) ≡ false) (sym words)
    (not_begun (has_value c.args.word) _ (ap (the c.args.word) (sym said.0) ∙ sym c.begins.ensures ∙ c.if-not-begins.true))

pub returns : goal.returns
returns c = λ place limit gives heard.
    let xs = c.args.unit.now in
    let words = four-items no_word xs c.in-len4.len_at_least c.in-len4.len_below in
    let said = subst (λ z. AreHeard says [] z) words heard in
    let first = get_or xs 0 no_word in
    let value = get_or xs 2 no_word in
    let begun : the c.args.word (sort_of (heard_token first)) ≡ true = ap (the c.args.word) (sym said.0) ∙ sym c.begins.ensures ∙ c.if-not-begins.false in
    let is : IsNumberAt place value.word.text.now (Ok (wide_of value.value)) =
    gives value.word.text.now value.value (subst (λ z. SaysThird z value.word.text.now value.value) (begun_with c.args.word _ begun) said.1.1.0) in
    let kept = ap (λ z. to_z w128 (of_z w128 z)) c.wide.ensures ∙ number_kept place value.word.text.now (wide_of value.value) limit is in
    let found : NetVolts = record { line = first.word.place.line; net = (get_or xs 1 no_word).word.text; volts = to_z w128 (of_z w128 c.wide.result) } in
    subst (λ z. FindsVolts c.args.word place (map heard_token z) (Some found)) (sym words)
    (has_both _ _ c.requires.value begun, (refl, refl, subst (λ z. IsNumberAt place value.word.text.now (Ok z)) (sym kept) is))
