use Rattle.std.proofs.Common.{◌≡◌, OnOk, [], ◌∷◌, map, get_or, sym, ◌∙◌, ap, arith}
use Rattle.std.proofs.lemmas.List.{length-map}
use Rattle.def_wiring.specs.declared.section.Section.{Section}
use Rattle.def_wiring.specs.declared.sort.Sort.{Sort}
use Rattle.def_wiring.specs.Standing.{headed, after_one, after_two, after_words}
use Rattle.def_wiring.specs.inside.Value.{says}
use Rattle.def_wiring.proofs.Words.{no_word, stays_long}
use Rattle.reading.specs.Laws.{heard-as, one-item, two-items, three-items}
use Rattle.reading.specs.Word.{heard_token}
use Rattle.def_wiring.proofs.standing.Standing.after_words.Goals as goal

pub returns-in-len2 : goal.returns-in-len2
returns-in-len2 c = λ heard.
    let xs = c.args.unit.now in
    let old = c.args.self.now in
    let words = two-items no_word xs c.in-len2.len_at_least c.in-len2.len_below in
    let said = heard-as says _ _ words heard in
    c.after_two.ensures ∙ ap (λ (z : Sort). after_two c.args.section z (heard_token (get_or xs 1 no_word)) old) said.0
    ∙ sym (ap (λ z. after_words c.args.section (map heard_token z) old) words)

pub returns-in-len3 : goal.returns-in-len3
returns-in-len3 c = λ heard.
    let xs = c.args.unit.now in
    let old = c.args.self.now in
    let words = three-items no_word xs c.in-len3.len_at_least c.in-len3.len_below in
    let said = heard-as says _ _ words heard in
    ap (λ (z : Section). record old { section = z }) (c.headed-self.ensures ∙ ap headed said.0)
    ∙ sym (ap (λ z. after_words c.args.section (map heard_token z) old) words)

pub returns-in_default : goal.returns-in_default
returns-in_default c = λ heard.
    c.stay.ensures ∙ stays_long c.args.section (map heard_token c.args.unit.now) c.args.self.now
    (let count = length-map c.args.unit.now heard_token in let many = c.in_default.len_at_least in omega arith)
