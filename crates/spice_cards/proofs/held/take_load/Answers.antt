use Rattle.std.proofs.Common.{ℤ, None, Some, [], map, OnOk, get_or, sym, ◌∙◌, ap, subst, arith, to_z, of_z}
use Rattle.std.specs.Int.{w64}
use Rattle.std.proofs.lemmas.List.{length-map}
use Rattle.reading.specs.Grammar.{AreHeard}
use Rattle.reading.specs.Laws.{two-items, five-items}
use Rattle.reading.specs.Word.{heard_token}
use Rattle.spice_cards.specs.Card.{load_with}
use Rattle.spice_cards.specs.inside.Held.{AddsUnit}
use Rattle.spice_cards.specs.inside.Value.{SaysAmperes, small_of}
use Rattle.spice_cards.proofs.Ranges.{kept_64}
use Rattle.spice_cards.proofs.Values.{no_word, on_ok, none_adds, no_load, range_heard}
use Rattle.spice_cards.proofs.held.take_load.Goals as goal

abbrev kept : ℤ → ℤ
kept v = to_z w64 (of_z w64 v)

pub returns-in-len2 : goal.returns-in-len2
returns-in-len2 c =
    let xs = c.args.words.now in
    let a = c.args.a.now in
    let b = c.args.b.now in
    let first = get_or xs 0 no_word in
    subst (λ z. OnOk c.add_loads.result (AreHeard SaysAmperes [] z → AddsUnit (load_with a b (map heard_token z)) c.args.cards.now c.add_loads.new.cards))
    (sym (two-items no_word xs c.in-len2.len_at_least c.in-len2.len_below))
    (on_ok _ _ c.add_loads.result (λ h heard.
    let same = ap kept c.small-value.ensures ∙ kept_64 (small_of first.value) heard.0.0.1.2.within in
    h first.word.text.now None (small_of first.value) heard.0.0 (same, same)) c.add_loads.ensures)

pub returns-in-len5 : goal.returns-in-len5
returns-in-len5 c =
    let xs = c.args.words.now in
    let a = c.args.a.now in
    let b = c.args.b.now in
    let first = get_or xs 0 no_word in
    let low = get_or xs 2 no_word in
    let high = get_or xs 3 no_word in
    subst (λ z. OnOk c.add_loads-in-len5.result (AreHeard SaysAmperes [] z → AddsUnit (load_with a b (map heard_token z)) c.args.cards.now c.add_loads-in-len5.new.cards))
    (sym (five-items no_word xs c.in-len5.len_at_least c.in-len5.len_below))
    (on_ok _ _ c.add_loads-in-len5.result (λ h heard.
    let low_same = ap kept c.small.ensures ∙ kept_64 (small_of low.value) heard.1.1.0.0.0.1.2.within in
    let high_same = ap kept c.small-in-len5.ensures ∙ kept_64 (small_of high.value) heard.1.1.1.0.0.0.1.2.within in
    h first.word.text.now (Some (record { low = low.word.text.now; high = high.word.text.now })) (small_of first.value) heard.0.0
    (range_heard first.word.text.now low.word.text.now high.word.text.now (small_of first.value) low.value high.value _ _ low_same high_same heard.0.0 heard.1.1.0 heard.1.1.1.0)) c.add_loads-in-len5.ensures)

pub returns-in_default : goal.returns-in_default
returns-in_default c = λ heard.
    let few = c.in_default.len_below in
    let count = length-map c.args.words.now heard_token in
    none_adds _ c.args.cards.now (no_load c.args.a.now c.args.b.now (map heard_token c.args.words.now) (λ e. omega (arith, few)) (λ e. omega (arith, few)))
