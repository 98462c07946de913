use Rattle.std.proofs.Common.{Some, [], ℤ, map, get_or, refl, sym, ◌∙◌, ap, subst, arith, to_z, of_z}
use Rattle.std.specs.Int.{w64}
use Rattle.std.proofs.lemmas.List.{length-map}
use Rattle.reading.specs.Grammar.{AreHeard}
use Rattle.reading.specs.Laws.{five-items, six-items}
use Rattle.reading.specs.Word.{heard_token}
use Rattle.wave_file.specs.declared.record.Change.{Change}
use Rattle.wave_file.specs.inside.Held.{FindsChange}
use Rattle.wave_file.specs.inside.Value.{says, amps_of}
use Rattle.wave_file.proofs.Numbers.{kept_64}
use Rattle.wave_file.proofs.Taking.{no_word, current_found, range_found, not_line}
use Rattle.wave_file.proofs.held.change_of.Goals as goal

-- A number as the machine keeps it.
abbrev kept : ℤ → ℤ
kept v = to_z w64 (of_z w64 v)

pub returns-in-len5 : goal.returns-in-len5
returns-in-len5 c = λ names heard.
    let xs = c.args.unit.now in
    let words = five-items no_word xs c.in-len5.len_at_least c.in-len5.len_below in
    let amps = get_or xs 3 no_word in
    let change : Change = record { step = c.step.result; node = c.node.result; low = kept c.amps-amps.result; high = kept c.amps-amps.result } in
    subst (λ z. FindsChange names (map heard_token z) (Some change)) (sym words)
    (current_found names (get_or xs 0 no_word) (get_or xs 1 no_word) (get_or xs 2 no_word) amps (get_or xs 4 no_word) change c.step.ensures c.node.ensures
    (λ near. ap kept c.amps-amps.ensures ∙ kept_64 (amps_of amps.value) near) refl (subst (λ z. AreHeard (says names) [] z) words heard))

pub returns-in-len6 : goal.returns-in-len6
returns-in-len6 c = λ names heard.
    let xs = c.args.unit.now in
    let words = six-items no_word xs c.in-len6.len_at_least c.in-len6.len_below in
    let low = get_or xs 3 no_word in
    let high = get_or xs 4 no_word in
    let change : Change = record { step = c.step-in-len6.result; node = c.node-in-len6.result; low = kept c.amps.result; high = kept c.amps-in-len6.result } in
    subst (λ z. FindsChange names (map heard_token z) (Some change)) (sym words)
    (range_found names (get_or xs 0 no_word) (get_or xs 1 no_word) (get_or xs 2 no_word) low high (get_or xs 5 no_word) change c.step-in-len6.ensures c.node-in-len6.ensures
    (λ near. ap kept c.amps.ensures ∙ kept_64 (amps_of low.value) near) (λ near. ap kept c.amps-in-len6.ensures ∙ kept_64 (amps_of high.value) near)
    (subst (λ z. AreHeard (says names) [] z) words heard))

pub returns-in_default : goal.returns-in_default
returns-in_default c = λ names heard.
    let few = c.in_default.len_below in
    let count = length-map c.args.unit.now heard_token in
    not_line (map heard_token c.args.unit.now) (λ e. omega (arith, few)) (λ e. omega (arith, few))

pub returns-in_default-2 : goal.returns-in_default-2
returns-in_default-2 c = λ names heard.
    let many = c.in_default.len_at_least in
    let count = length-map c.args.unit.now heard_token in
    not_line (map heard_token c.args.unit.now) (λ e. omega (arith, many)) (λ e. omega (arith, many))
