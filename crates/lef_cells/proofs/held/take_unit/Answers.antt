use Rattle.std.proofs.Common.{map, get_or, sym, ◌∙◌, pos, Ok, subst, arith}
use Rattle.std.proofs.lemmas.List.{length-map}
use Rattle.lef_cells.specs.Number.{length}
use Rattle.lef_cells.specs.inside.Held.{Leads}
use Rattle.lef_cells.specs.inside.Value.{says, SaysSecond}
use Rattle.lef_cells.proofs.Taking.{on_ok, length_leads}
use Rattle.lef_cells.proofs.Words.{no_word}
use Rattle.number_place.specs.Place.{IsNumberAt}
use Rattle.reading.specs.Laws.{heard-as, two-items, five-items}
use Rattle.reading.specs.Word.{heard_token}
use Rattle.lef_cells.proofs.held.take_unit.Goals as goal

pub returns-in-len2 : goal.returns-in-len2
returns-in-len2 c =
    let xs = c.args.unit.now in
    let words = two-items no_word xs c.in-len2.len_at_least c.in-len2.len_below in
    on_ok _ _ c.take_two.result (λ all heard.
    let said = heard-as says _ _ words heard in
    subst (λ z. Leads c.args.section (map heard_token z) c.args.said.now c.take_two.new.said) (sym words)
    (all (heard_token (get_or xs 0 no_word)) (c.first.ensures ∙ said.0))) c.take_two.ensures

pub returns-in-len5 : goal.returns-in-len5
returns-in-len5 c = λ heard.
    let xs = c.args.unit.now in
    let words = five-items no_word xs c.in-len5.len_at_least c.in-len5.len_below in
    let said = heard-as says _ _ words heard in
    let first = heard_token (get_or xs 0 no_word) in
    let width = get_or xs 1 no_word in
    let height = get_or xs 3 no_word in
    subst (λ z. Leads c.args.section (map heard_token z) c.args.said.now c.take_size.new.said) (sym words)
    (c.take_size.ensures c.args.section first (heard_token width) (heard_token (get_or xs 2 no_word)) (heard_token height) (heard_token (get_or xs 4 no_word))
    (λ size. (
      subst (λ z. IsNumberAt length width.word.text.now (Ok (pos z))) (sym c.length.ensures)
          (subst (λ z. SaysSecond z width.word.text.now width.value) size said.1.0),
      subst (λ z. IsNumberAt length height.word.text.now (Ok (pos z))) (sym c.length-in-len5.ensures) said.1.1.1.0,
    )))

pub returns-in_default : goal.returns-in_default
returns-in_default c = λ heard.
    let few = c.in_default.len_below in
    let count = length-map c.args.unit.now heard_token in
    length_leads c.args.section (map heard_token c.args.unit.now) c.args.said.now (λ e. omega (arith, few)) (λ e. omega (arith, few))

pub returns-in_default-2 : goal.returns-in_default-2
returns-in_default-2 c = λ heard.
    let few = c.in_default.len_below in
    let many = c.in_default.len_at_least in
    let count = length-map c.args.unit.now heard_token in
    length_leads c.args.section (map heard_token c.args.unit.now) c.args.said.now (λ e. omega (arith, many)) (λ e. omega (arith, few))

pub returns-in_default-3 : goal.returns-in_default-3
returns-in_default-3 c = λ heard.
    let many = c.in_default.len_at_least in
    let count = length-map c.args.unit.now heard_token in
    length_leads c.args.section (map heard_token c.args.unit.now) c.args.said.now (λ e. omega (arith, many)) (λ e. omega (arith, many))
