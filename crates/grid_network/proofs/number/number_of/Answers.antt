use Rattle.std.proofs.Common.{◌≡◌, ◌⊎◌, inl, inr, ℕ, ◌<◌, ◌≤◌, Some, List, Contains, length, slice_get, get_or, sym, ap, subst, ◌∙◌, arith}
use Rattle.std.specs.declared.cmp.Ordering.TheVariants.{Less, Equal, Greater}
use Rattle.std.proofs.lemmas.Bool.{cases_lt}
use Rattle.std.proofs.lemmas.Cmp.{tied_itself}
use Rattle.std.proofs.lemmas.List.Sorted.{searchable_from_sorted}
use Rattle.std.proofs.lemmas.Option.{slice_get-get_or, slice_get_within, get_or_from_slice_get}
use Rattle.grid_network.specs.declared.key.Key.{Key}
use Rattle.grid_network.specs.inside.Steps.{key_cmp}
use Rattle.grid_network.proofs.Numbered.{equal_keys, key_order, number_found, number_missing, sorted_keys}
use Rattle.grid_network.proofs.number.number_of.Goals as goal

pub returns-in-Ok : goal.returns-in-Ok
returns-in-Ok c keys told =
    let places : List Key = c.args.nodes.places.now in
    let key : Key = c.args.key.now in
    let place : ℕ = c.in-Ok.place in
    let within : place < length places = c.in-Ok.ensures.bound in
    let n : ℕ = get_or c.args.nodes.numbers.now place 0 in
    let there : slice_get keys n ≡ Some key = told.told place within ∙ slice_get-get_or places place key within ∙ ap Some (equal_keys (get_or places place key) key (c.in-Ok.ensures.ok key)) in
    number_found keys key n (slice_get_within keys n key there) (get_or_from_slice_get keys n key key there) told.once

pub returns-in-Err : goal.returns-in-Err
returns-in-Err c keys told =
    let places : List Key = c.args.nodes.places.now in
    let key : Key = c.args.key.now in
    let at : ℕ = c.in-Err.field-0 in
    let split = c.in-Err.ensures.position (searchable_from_sorted key_order (λ k. k) places key (sorted_keys places told.sorted)) in
    number_missing keys key (λ h. none places key at split.0 split.1 (told.same key h))
  where
    none : (places : List Key) (key : Key) (at : ℕ) → ((k : ℕ) (d : Key) → 0 ≤ k → k < at → key_cmp (get_or places k d) key ≡ Less)
        → ((k : ℕ) (d : Key) → at ≤ k → k < length places → key_cmp (get_or places k d) key ≡ Greater) → Contains places key → ⊥
    none places key at less greater (k, within, e) = by (cases_lt k at)
      where
        itself : key_cmp key key ≡ Equal
        itself = tied_itself key_order key

        by : ((k < at) ⊎ (at ≤ k)) → ⊥
        by (inl h) = let l : key_cmp key key ≡ Less = subst (λ (q : Key). key_cmp q key ≡ Less) e (less k key (omega arith) h) in let both : Less ≡ Equal = sym l ∙ itself in absurd (cc)
        by (inr h) = let l : key_cmp key key ≡ Greater = subst (λ (q : Key). key_cmp q key ≡ Greater) e (greater k key h within) in let both : Greater ≡ Equal = sym l ∙ itself in absurd (cc)
