use Rattle.std.proofs.Common.{◌≡◌, Ok, [], ◌∷◌, ◌++◌, map, get_or, refl, sym, ◌∙◌, subst, arith, length-append}
use Rattle.std.proofs.lemmas.List.{length-map}
use Rattle.lef_cells.specs.declared.value.Value.TheVariants.{First}
use Rattle.lef_cells.specs.Fault.{LengthFault, SecondFault}
use Rattle.lef_cells.specs.Format.{format}
use Rattle.lef_cells.specs.Section.{standing_of}
use Rattle.lef_cells.specs.Sort.{sort_of}
use Rattle.lef_cells.specs.inside.Value.{says, IsLength, SaysSecond}
use Rattle.lef_cells.proofs.Words.{no_word, one_fine, others_fine, others_said}
use Rattle.reading.specs.Fault.{FindsValue}
use Rattle.reading.specs.Grammar.{Tells}
use Rattle.reading.specs.Laws.{tell-heard, heard-as, no-items, one-item, three-items}
use Rattle.reading.specs.Word.{token, heard_token}
use Rattle.lef_cells.proofs.format.CellsFormatGrammar.hear.Goals as goal

pub returns-in-empty : goal.returns-in-empty
returns-in-empty c = λ units h heard same.
    let w = token c.args.word.now in
    subst (λ z. Tells format says units (map heard_token z ++ w ∷ []) (Ok (First c.args.sort))) (sym (no-items c.args.before.now c.in-empty.len_below))
    (one_fine units w, same)

pub returns-in-len1 : goal.returns-in-len1
returns-in-len1 c = λ units h heard same.
    let xs = c.args.before.now in
    let w = token c.args.word.now in
    let words = one-item no_word xs c.in-len1.len_at_least c.in-len1.len_below in
    let said = heard-as says _ _ words heard in
    let first = sort_of (heard_token (get_or xs 0 no_word)) in
    let sort : c.first.result ≡ first = c.first.ensures ∙ said.0 in
    let section = (standing_of units).section in
    tell-heard format says units _ _ w 1 (SecondFault first section units w.text) (SaysSecond first w.text) c.second_value.result _ words c.told_at.ensures
    (λ a k. k) (λ kind k. (refl, k)) (λ value k. k)
    (subst (λ z. FindsValue (SecondFault z section units w.text) (SaysSecond z w.text) c.second_value.result) sort (c.second_value.ensures units h))

pub returns-in-len3 : goal.returns-in-len3
returns-in-len3 c = λ units h heard same.
    let xs = c.args.before.now in
    let w = token c.args.word.now in
    let words = three-items no_word xs c.in-len3.len_at_least c.in-len3.len_below in
    tell-heard format says units _ _ w 3 (LengthFault w.text) (IsLength w.text) c.length_value.result _ words c.told_at-in-len3.ensures
    (λ a k. k) (λ kind k. (refl, k)) (λ value k. k) c.length_value.ensures

pub returns-in_default-2 : goal.returns-in_default-2
returns-in_default-2 c = λ units h heard same.
    let part = map heard_token c.args.before.now ++ token c.args.word.now ∷ [] in
    let many = c.in_default.len_at_least in
    let long = length-append (map heard_token c.args.before.now) (token c.args.word.now ∷ []) in
    let count = length-map c.args.before.now heard_token in
    (others_fine units part (omega (arith, many)) (λ e. omega (arith, many)), others_said part _ (omega (arith, many)) (λ e. omega (arith, many)))
