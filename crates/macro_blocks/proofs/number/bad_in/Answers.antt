use Rattle.std.proofs.Common.{List, None, map, sym, subst, arith}
use Rattle.std.proofs.lemmas.List.{length-map}
use Rattle.macro_blocks.specs.inside.Held.{IsBad}
use Rattle.macro_blocks.specs.inside.Value.{ArePlaces}
use Rattle.macro_blocks.specs.Record.{noted_in}
use Rattle.macro_blocks.proofs.Numbers.{noted_long}
use Rattle.macro_blocks.proofs.Words.{no_word}
use Rattle.reading.specs.Laws.{one-item, two-items, three-items, four-items, five-items, six-items}
use Rattle.reading.specs.Word.{Token, heard_token}
use Rattle.macro_blocks.proofs.number.bad_in.Goals as goal

pub returns-in-len1 : goal.returns-in-len1
returns-in-len1 c = λ places numbers h.
    let words = one-item no_word c.args.unit.now c.in-len1.len_at_least c.in-len1.len_below in
    let said = subst ArePlaces words places in
    subst (λ z. IsBad (noted_in numbers (map heard_token z)) None) (sym words) h

pub returns-in-len2 : goal.returns-in-len2
returns-in-len2 c = λ places numbers h.
    let words = two-items no_word c.args.unit.now c.in-len2.len_at_least c.in-len2.len_below in
    let said = subst ArePlaces words places in
    subst (λ z. IsBad (noted_in numbers (map heard_token z)) c.first_bad.result) (sym words) (c.first_bad.ensures said numbers h)

pub returns-in-len3 : goal.returns-in-len3
returns-in-len3 c = λ places numbers h.
    let words = three-items no_word c.args.unit.now c.in-len3.len_at_least c.in-len3.len_below in
    let said = subst ArePlaces words places in
    subst (λ z. IsBad (noted_in numbers (map heard_token z)) c.bad_of_two.result) (sym words) (c.bad_of_two.ensures said.0 said.1 numbers h)

pub returns-in-len4 : goal.returns-in-len4
returns-in-len4 c = λ places numbers h.
    let words = four-items no_word c.args.unit.now c.in-len4.len_at_least c.in-len4.len_below in
    let said = subst ArePlaces words places in
    subst (λ z. IsBad (noted_in numbers (map heard_token z)) c.bad_after.result) (sym words) (c.bad_after.ensures said.2 _ (c.bad_of_two-in-len4.ensures said.0 said.1 numbers h))

pub returns-in-len5 : goal.returns-in-len5
returns-in-len5 c = λ places numbers h.
    let words = five-items no_word c.args.unit.now c.in-len5.len_at_least c.in-len5.len_below in
    let said = subst ArePlaces words places in
    subst (λ z. IsBad (noted_in numbers (map heard_token z)) c.bad_of_four.result) (sym words) (c.bad_of_four.ensures said.0 said.1 said.2 said.3 numbers h)

pub returns-in-len6 : goal.returns-in-len6
returns-in-len6 c = λ places numbers h.
    let words = six-items no_word c.args.unit.now c.in-len6.len_at_least c.in-len6.len_below in
    let said = subst ArePlaces words places in
    subst (λ z. IsBad (noted_in numbers (map heard_token z)) c.bad_of_four-in-len6.result) (sym words) (c.bad_of_four-in-len6.ensures said.0 said.1 said.2 said.3 numbers h)

pub returns-in_default : goal.returns-in_default
returns-in_default c = λ places numbers h.
    subst (λ (z : List Token). IsBad z None) (sym (noted_long numbers (map heard_token c.args.unit.now) (let count = length-map c.args.unit.now heard_token in
    let many = c.in_default.len_at_least in omega arith))) h
