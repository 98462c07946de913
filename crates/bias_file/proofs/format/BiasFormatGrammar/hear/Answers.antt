use Rattle.std.proofs.Common.{◌≡◌, Ok, [], ◌∷◌, ◌++◌, map, get_or, refl, sym, ◌∙◌, subst, arith, length-append}
use Rattle.std.proofs.lemmas.List.{length-map}
use Rattle.reading.specs.Fault.{FindsValue}
use Rattle.reading.specs.Grammar.{Tells}
use Rattle.reading.specs.Laws.{tell-heard, heard-as, no-items, one-item, two-items, three-items, four-items}
use Rattle.reading.specs.Word.{token, heard_token}
use Rattle.bias_file.specs.Sort.{sort_of}
use Rattle.bias_file.specs.Fault.{NameFault, ValueFault, FourthFault, FifthFault}
use Rattle.bias_file.specs.Format.{format}
use Rattle.bias_file.specs.declared.value.Value.TheVariants.{Line}
use Rattle.bias_file.specs.inside.Value.{says, line_of, SaysThird, SaysFourth, SaysFifth}
use Rattle.bias_file.proofs.Taking.{no_word, short_fine, long_fine, long_said}
use Rattle.bias_file.proofs.format.BiasFormatGrammar.hear.Goals as goal

pub returns-in-empty : goal.returns-in-empty
returns-in-empty c = λ units h heard same.
    let w = token c.args.word.now in
    subst (λ z. Tells format says units (map heard_token z ++ w ∷ []) (Ok (Line c.args.sort))) (sym (no-items c.args.before.now c.in-empty.len_below)) (short_fine units (w ∷ []) (omega arith), same)

pub returns-in-len1 : goal.returns-in-len1
returns-in-len1 c = λ units h heard same.
    let xs = c.args.before.now in
    let w = token c.args.word.now in
    let words = one-item no_word xs c.in-len1.len_at_least c.in-len1.len_below in
    let said = heard-as says _ _ words heard in
    let first = sort_of (heard_token (get_or xs 0 no_word)) in
    let begun : line_of (get_or xs 0 no_word).value ≡ first = said.0 in
    let line : c.line.result ≡ first = c.line.ensures ∙ begun in
    tell-heard format says units _ _ w 1 (NameFault units first w.text) (λ value. Unit {0}) c.name_value.result _ words c.told_at.ensures (λ a k. k) (λ kind k. (refl, k)) (λ value k. k)
    (subst (λ z. FindsValue (NameFault units z w.text) (λ value. Unit {0}) c.name_value.result) line (c.name_value.ensures units h.lists))

pub returns-in-len2 : goal.returns-in-len2
returns-in-len2 c = λ units h heard same.
    let xs = c.args.before.now in
    let w = token c.args.word.now in
    let words = two-items no_word xs c.in-len2.len_at_least c.in-len2.len_below in
    let said = heard-as says _ _ words heard in
    let first = sort_of (heard_token (get_or xs 0 no_word)) in
    let begun : line_of (get_or xs 0 no_word).value ≡ first = said.0 in
    let line : c.line-in-len2.result ≡ first = c.line-in-len2.ensures ∙ begun in
    tell-heard format says units _ _ w 2 (ValueFault first w.text) (SaysThird first w.text) c.third_value.result _ words c.told_at-in-len2.ensures (λ a k. k) (λ kind k. (refl, k)) (λ value k. k)
    (subst (λ z. FindsValue (ValueFault z w.text) (SaysThird z w.text) c.third_value.result) line c.third_value.ensures)

pub returns-in-len3 : goal.returns-in-len3
returns-in-len3 c = λ units h heard same.
    let xs = c.args.before.now in
    let w = token c.args.word.now in
    let words = three-items no_word xs c.in-len3.len_at_least c.in-len3.len_below in
    let said = heard-as says _ _ words heard in
    let first = sort_of (heard_token (get_or xs 0 no_word)) in
    let begun : line_of (get_or xs 0 no_word).value ≡ first = said.0 in
    let line : c.line-in-len3.result ≡ first = c.line-in-len3.ensures ∙ begun in
    let third = heard_token (get_or xs 2 no_word) in
    tell-heard format says units _ _ w 3 (FourthFault first third w) (SaysFourth first third w) c.fourth_value.result _ words c.told_at-in-len3.ensures (λ a k. k) (λ kind k. (refl, k)) (λ value k. k)
    (subst (λ z. FindsValue (FourthFault z third w) (SaysFourth z third w) c.fourth_value.result) line (c.fourth_value.ensures third same (subst (λ z. SaysThird z third.text (get_or xs 2 no_word).value) (sym line) said.1.1.0)))

pub returns-in-len4 : goal.returns-in-len4
returns-in-len4 c = λ units h heard same.
    let xs = c.args.before.now in
    let w = token c.args.word.now in
    let words = four-items no_word xs c.in-len4.len_at_least c.in-len4.len_below in
    let said = heard-as says _ _ words heard in
    let first = sort_of (heard_token (get_or xs 0 no_word)) in
    let begun : line_of (get_or xs 0 no_word).value ≡ first = said.0 in
    let line : c.line-in-len4.result ≡ first = c.line-in-len4.ensures ∙ begun in
    tell-heard format says units _ _ w 4 (FifthFault first w.text) (SaysFifth first w.text) c.fifth_value.result _ words c.told_at-in-len4.ensures (λ a k. k) (λ kind k. (refl, k)) (λ value k. k)
    (subst (λ z. FindsValue (FifthFault z w.text) (SaysFifth z w.text) c.fifth_value.result) line c.fifth_value.ensures)

pub returns-in_default : goal.returns-in_default
returns-in_default c = λ units h heard same.
    let w = token c.args.word.now in
    let many = c.in_default.len_at_least in
    let long = length-append (map heard_token c.args.before.now) (w ∷ []) in
    let count = length-map c.args.before.now heard_token in
    (long_fine units (map heard_token c.args.before.now ++ w ∷ []) (omega (arith, many)), long_said (map heard_token c.args.before.now ++ w ∷ []) _ (omega (arith, many)))
