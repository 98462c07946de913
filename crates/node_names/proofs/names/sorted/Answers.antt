use Rattle.std.proofs.Common.{List, [], ◌∷◌, ◌++◌, take, IsPermutation, ap, sym, subst, ◌∙◌, arith}
use Rattle.std.specs.List.{enumerate_from}
use Rattle.std.proofs.lemmas.List.{map_push, get_or-map, length-map, take_all}
use Rattle.std.proofs.lemmas.List.Sorted.{IsPermutation-map}
use Rattle.node_names.specs.declared.names.Numbered.{Numbered}
use Rattle.node_names.specs.declared.key.Key.{Key}
use Rattle.node_names.specs.inside.Keys.{name_in, names_in}
use Rattle.node_names.specs.inside.Entries.{entry_of, entries_of}
use Rattle.node_names.proofs.EntryLemmas.{Entry, numbered_more}
use Rattle.node_names.proofs.names.sorted.Goals as goal

pub loop-number-preserved : goal.loop-number-preserved
loop-number-preserved c =
    let none : Key = c.index-keys-number.result in
    let keys : List Key = c.args.keys.now in
    let i = c.loop-number.number in
    let entry : Numbered = record { key = none; number = i } in
    let named = get_or-map name_in keys i none [] c.loop-number-test.true ∙ ap name_in (sym c.index-keys-number.is) in
    ap entries_of c.in_ok-push.ensures.items ∙ map_push entry_of c.loop-number.sorted.items entry
    ∙ ap (λ (l : List Entry). l ++ entry_of entry ∷ []) c.loop-number.invariant
    ∙ sym (numbered_more (names_in keys) i [] (omega (arith, length-map keys name_in, c.loop-number-test.true)) ∙ ap (λ n. enumerate_from 0 (take i (names_in keys)) ++ (i, n) ∷ []) named)

pub returns-clause-permutation : goal.returns-clause-permutation
returns-clause-permutation c =
    let names = names_in c.args.keys.now in
    let whole = take_all c.loop-number.number names (omega (arith, length-map c.args.keys.now name_in, c.loop-number-test.false)) in
    subst (λ (l : List Entry). IsPermutation l (entries_of c.sort.new.self.items)) (c.loop-number.invariant ∙ ap (enumerate_from 0) whole)
    (IsPermutation-map entry_of c.loop-number.sorted.items c.sort.new.self.items c.sort.ensures.permutation)
