use Rattle.spice_grid.proofs.OneLemmas.{CardsLaws, records_agree, kinds_agree, places_agree, not_both_but_want}
use Rattle.spice_grid.proofs.laws.texts_have_one_netlist.Goals as goal

pub returns-clause-record : goal.returns-clause-record
returns-clause-record c = λ text a b h k.
    let cards = c.netlists_have_one_reading.ensures in
    let laws : CardsLaws = record { units = cards.units; refusal = cards.refusal; not_both = cards.not_both } in
    records_agree laws c.texts_have_one_number.ensures c.one_order.ensures text a b h k

pub returns-clause-kind : goal.returns-clause-kind
returns-clause-kind c = λ text a b h k no nor.
    let cards = c.netlists_have_one_reading.ensures in
    let laws : CardsLaws = record { units = cards.units; refusal = cards.refusal; not_both = cards.not_both } in
    kinds_agree laws c.texts_have_one_number.ensures c.one_order.ensures text a b h k no nor

pub returns-clause-place : goal.returns-clause-place
returns-clause-place c = λ text a b h k at nor.
    let cards = c.netlists_have_one_reading.ensures in
    let laws : CardsLaws = record { units = cards.units; refusal = cards.refusal; not_both = cards.not_both } in
    places_agree laws c.texts_have_one_number.ensures c.one_order.ensures text a b h k at nor

pub returns-clause-not_both : goal.returns-clause-not_both
returns-clause-not_both c = λ text named error h k.
    let cards = c.netlists_have_one_reading.ensures in
    let laws : CardsLaws = record { units = cards.units; refusal = cards.refusal; not_both = cards.not_both } in
    not_both_but_want laws c.texts_have_one_number.ensures c.one_order.ensures text named error h k
