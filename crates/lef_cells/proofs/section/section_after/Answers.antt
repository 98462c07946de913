use Rattle.std.proofs.Common.{◌≡◌, map, sym, ◌∙◌, ap, subst}
use Rattle.lef_cells.specs.Section.{section_by, section_after}
use Rattle.lef_cells.specs.inside.Value.{says}
use Rattle.lef_cells.proofs.Words.{no_word}
use Rattle.reading.specs.Laws.{heard-as, two-items, five-items}
use Rattle.reading.specs.Word.{heard_token}
use Rattle.lef_cells.proofs.section.section_after.Goals as goal

pub returns-in-len2 : goal.returns-in-len2
returns-in-len2 c = λ heard.
    let xs = c.args.unit.now in
    let words = two-items no_word xs c.in-len2.len_at_least c.in-len2.len_below in
    let said = heard-as says _ _ words heard in
    subst (λ z. c.section_by.result ≡ section_after c.args.section (map heard_token z)) (sym words)
    (c.section_by.ensures ∙ ap (section_by c.args.section) (c.first.ensures ∙ said.0))

pub returns-in-len5 : goal.returns-in-len5
returns-in-len5 c = λ heard.
    let xs = c.args.unit.now in
    subst (λ z. c.sized.result ≡ section_after c.args.section (map heard_token z)) (sym (five-items no_word xs c.in-len5.len_at_least c.in-len5.len_below))
    c.sized.ensures
