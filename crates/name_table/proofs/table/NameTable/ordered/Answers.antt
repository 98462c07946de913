use Rattle.std.proofs.Common.{◌≡◌, ℕ, ◌<◌, List, map, length, slice_get, get_or, All, IsPermutation, ap, sym, subst, ◌∙◌, arith}
use Rattle.std.proofs.lemmas.List.{length-map}
use Rattle.std.specs.List.{IsDistinct}
use Rattle.name_table.specs.declared.table.NumberedName.{NumberedName}
use Rattle.name_table.specs.ByteOrder.{IsInByteOrder}
use Rattle.name_table.specs.inside.Numbered.{IsPlaced}
use Rattle.name_table.proofs.NumberingLemmas.{names_of, same_key}
use Rattle.name_table.proofs.NumberedLemmas.{same_names, numbers_within, length_entries, name_at_place, in_byte_order, slices_of_entries}
use Rattle.name_table.proofs.table.NameTable.ordered.Goals as goal

pub places_of-requires-clause-few : goal.places_of-requires-clause-few
places_of-requires-clause-few c =
    omega (arith, c.self.invariant, ap length c.deref-2.ensures.value, ap length c.as_slice.ensures.keys, length_entries _ _ c.in_ok-sorted.ensures.permutation)

pub places_of-requires-clause-within : goal.places_of-requires-clause-within
places_of-requires-clause-within c =
    let P : List NumberedName → Type 0 = λ l. All (λ n. n.number < length l) l in
    subst P (sym c.deref-2.ensures.value) (numbers_within _ _ c.in_ok-sorted.ensures.permutation)

pub returns-clause-order : goal.returns-clause-order
returns-clause-order c =
    let e = ap (map (λ n. n.now)) (c.new.ensures ∙ c.in_ok-names.ensures ∙ ap (map (λ n. n.name.name)) c.deref.ensures.value) ∙ slices_of_entries c.in_ok-sorted.sorted.items in
    subst IsInByteOrder (sym e)
    (in_byte_order c.as_slice.result.now c.in_ok-sorted.sorted.items (subst (IsDistinct same_key) (sym c.as_slice.ensures.keys) c.as_slice.ensures.unique) c.in_ok-sorted.ensures.permutation c.in_ok-sorted.ensures.sorted)

pub returns-clause-same_names : goal.returns-clause-same_names
returns-clause-same_names c =
    let e = ap (map (λ n. n.now)) (c.new.ensures ∙ c.in_ok-names.ensures ∙ ap (map (λ n. n.name.name)) c.deref.ensures.value) ∙ slices_of_entries c.in_ok-sorted.sorted.items in
    let named = ap names_of c.as_slice.ensures.keys ∙ c.self.view_is in
    subst (λ (names : List (List ℕ)). IsPermutation names (map (λ n. n.now) c.new.result)) named
    (subst (λ (names : List (List ℕ)). IsPermutation (names_of c.as_slice.result.now) names) (sym e)
    (same_names c.as_slice.result.now c.in_ok-sorted.sorted.items c.in_ok-sorted.ensures.permutation))

pub returns-clause-every_number : goal.returns-clause-every_number
returns-clause-every_number c =
    let named = ap names_of c.as_slice.ensures.keys ∙ c.self.view_is in
    ap length c.new-2.ensures ∙ c.in_ok-places.ensures.count ∙ ap length c.deref-2.ensures.value ∙ length_entries _ _ c.in_ok-sorted.ensures.permutation
    ∙ sym (length-map c.as_slice.result.now (λ k. k.name.now)) ∙ ap length named

pub returns-clause-places : goal.returns-clause-places
returns-clause-places c =
    let e = ap (map (λ n. n.now)) (c.new.ensures ∙ c.in_ok-names.ensures ∙ ap (map (λ n. n.name.name)) c.deref.ensures.value) ∙ slices_of_entries c.in_ok-sorted.sorted.items in
    let named = ap names_of c.as_slice.ensures.keys ∙ c.self.view_is in
    let places = c.new-2.result in
    let placed = subst (IsPlaced (map (λ n. n.number) c.in_ok-sorted.sorted.items)) (sym c.new-2.ensures)
    (subst (λ (l : List NumberedName). IsPlaced (map (λ n. n.number) l) c.in_ok-places.places.items) c.deref-2.ensures.value c.in_ok-places.ensures.placed) in
    subst (λ (names : List (List ℕ)). (i : ℕ) → i < length names → slice_get (map (λ n. n.now) c.new.result) (get_or places i 0) ≡ slice_get names i) named
    (subst (λ (names : List (List ℕ)). (i : ℕ) → i < length (names_of c.as_slice.result.now) → slice_get names (get_or places i 0) ≡ slice_get (names_of c.as_slice.result.now) i) (sym e)
    (name_at_place c.as_slice.result.now c.in_ok-sorted.sorted.items places c.in_ok-sorted.ensures.permutation placed))
