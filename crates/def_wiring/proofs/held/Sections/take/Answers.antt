use Rattle.std.proofs.Common.{OnOk, [], ◌∷◌, List, map, get_or, sym, subst, arith}
use Rattle.std.proofs.lemmas.List.{length-map}
use Rattle.def_wiring.specs.declared.section.Section.{Section}
use Rattle.def_wiring.specs.declared.sort.Sort.{Sort}
use Rattle.def_wiring.specs.inside.Held.{Tells, Unites}
use Rattle.def_wiring.specs.inside.Value.{says}
use Rattle.def_wiring.specs.Record.{Said, said_unit}
use Rattle.def_wiring.specs.Standing.{section_in}
use Rattle.def_wiring.proofs.Taking.{took, same_none, same_long}
use Rattle.def_wiring.proofs.Words.{no_word}
use Rattle.reading.specs.declared.word.Heard.{Heard}
use Rattle.reading.specs.Grammar.{AreHeard}
use Rattle.reading.specs.Laws.{heard-as, one-item, two-items}
use Rattle.reading.specs.Word.{Token, heard_token}
use Rattle.def_wiring.proofs.held.Sections.take.Goals as goal

pub returns-in-len1 : goal.returns-in-len1
returns-in-len1 c =
    let xs = c.args.unit.now in
    let new = c.take_one.new.self in
    let there = c.args.standing.now in
    let words = one-item no_word xs c.in-len1.len_at_least c.in-len1.len_below in
    let first = heard_token (get_or xs 0 no_word) in
    took c.take_one.result _ _ (λ all heard said h.
    subst (λ (z : List (Heard Sort)). Tells (said_unit (section_in there) there (map heard_token z) said) new) (sym words)
    (subst (λ (z : Section). Tells (said_unit z there (first ∷ []) said) new) c.section-section.ensures (all (heard-as says _ _ words heard).0 said h))) c.take_one.ensures

pub returns-in-len2 : goal.returns-in-len2
returns-in-len2 c =
    let xs = c.args.unit.now in
    let new = c.take_two.new.self in
    let there = c.args.standing.now in
    let words = two-items no_word xs c.in-len2.len_at_least c.in-len2.len_below in
    let first = heard_token (get_or xs 0 no_word) in
    let second = heard_token (get_or xs 1 no_word) in
    took c.take_two.result _ _ (λ all heard said h.
    subst (λ (z : List (Heard Sort)). Tells (said_unit (section_in there) there (map heard_token z) said) new) (sym words)
    (subst (λ (z : Section). Tells (said_unit z there (first ∷ second ∷ []) said) new) c.section-section.ensures
    (all there first (heard-as says _ _ words heard).0 said h))) c.take_two.ensures

pub returns-in_default : goal.returns-in_default
returns-in_default c = λ heard said h.
    subst (λ z. Tells z c.args.self.now) (sym (same_none (section_in c.args.standing.now) c.args.standing.now (map heard_token c.args.unit.now) said
    (let count = length-map c.args.unit.now heard_token in let few = c.in_default.len_below in omega arith))) h

pub returns-in_default-2 : goal.returns-in_default-2
returns-in_default-2 c = λ heard said h.
    subst (λ z. Tells z c.args.self.now) (sym (same_long (section_in c.args.standing.now) c.args.standing.now (map heard_token c.args.unit.now) said
    (let count = length-map c.args.unit.now heard_token in let many = c.in_default.len_at_least in omega arith))) h
