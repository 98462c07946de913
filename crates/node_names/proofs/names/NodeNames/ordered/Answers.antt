use Rattle.std.proofs.Common.{◌≡◌, ℕ, ◌<◌, List, length, slice_get, get_or, All, IsPermutation, ap, sym, subst, ◌∙◌, arith}
use Rattle.std.proofs.lemmas.List.{length-map}
use Rattle.std.specs.List.{enumerate_from}
use Rattle.name_table.specs.Numbering.{AreDistinct}
use Rattle.name_table.specs.ByteOrder.{IsInByteOrder}
use Rattle.node_names.specs.declared.names.Numbered.{Numbered}
use Rattle.node_names.specs.inside.Keys.{name_in, names_in}
use Rattle.node_names.specs.inside.Entries.{entry_of, entries_of, IsPlaced}
use Rattle.node_names.proofs.KeyLemmas.{names_are_distinct}
use Rattle.node_names.proofs.EntryLemmas.{Entry, names_of, numbers_of, same_names, count, numbers_within, name_at_place, in_byte_order, entries_are_distinct}
use Rattle.node_names.proofs.names.NodeNames.ordered.Goals as goal

-- The sorted entries have the names of the table.
moved : (held keys : List (List ℕ)) (entries : List Entry) → keys ≡ held → IsPermutation (enumerate_from 0 keys) entries → IsPermutation (enumerate_from 0 held) entries
moved held keys entries e p = subst (λ (names : List (List ℕ)). IsPermutation (enumerate_from 0 names) entries) e p

pub places_of-requires-clause-few : goal.places_of-requires-clause-few
places_of-requires-clause-few c =
    let entries = entries_of c.in_ok-sorted.sorted.items in
    omega (arith, c.self.invariant, ap length c.deref-2.ensures.value, ap length c.as_slice.ensures.keys, length-map c.in_ok-sorted.sorted.items entry_of, length-map c.as_slice.result.now name_in, count _ _ c.in_ok-sorted.ensures.permutation)

pub places_of-requires-clause-within : goal.places_of-requires-clause-within
places_of-requires-clause-within c =
    let sorted : List Numbered = c.in_ok-sorted.sorted.items in
    let P : List Numbered → Type 0 = λ l. All (λ (e : Entry). e.0 < length l) (entries_of l) in
    let all = subst (λ n. All (λ (e : Entry). e.0 < n) (entries_of sorted)) (length-map sorted entry_of) (numbers_within _ _ c.in_ok-sorted.ensures.permutation) in
    subst P (sym c.deref-2.ensures.value) all

pub returns-clause-order : goal.returns-clause-order
returns-clause-order c =
    let sorted : List Numbered = c.in_ok-sorted.sorted.items in
    let written = c.in_ok-names.ensures ∙ ap (λ (l : List Numbered). names_of (entries_of l)) c.deref.ensures.value in
    let unique = subst (λ keys. AreDistinct (names_in keys)) (sym c.as_slice.ensures.keys) (names_are_distinct name_in c.self.inside.keys.keys c.as_slice.ensures.unique) in
    let distinct = entries_are_distinct (names_in c.as_slice.result.now) (entries_of sorted) c.in_ok-sorted.ensures.permutation unique in
    subst IsInByteOrder (sym written) (in_byte_order entry_of sorted distinct c.in_ok-sorted.ensures.sorted)

pub returns-clause-same_names : goal.returns-clause-same_names
returns-clause-same_names c =
    let sorted : List Numbered = c.in_ok-sorted.sorted.items in
    let written = c.in_ok-names.ensures ∙ ap (λ (l : List Numbered). names_of (entries_of l)) c.deref.ensures.value in
    let named = ap names_in c.as_slice.ensures.keys ∙ c.self.view_is in
    subst (λ (names : List (List ℕ)). IsPermutation c.args.self.now names) (sym written)
    (same_names c.args.self.now (entries_of sorted) (moved c.args.self.now _ _ named c.in_ok-sorted.ensures.permutation))

pub returns-clause-every_number : goal.returns-clause-every_number
returns-clause-every_number c =
    let sorted : List Numbered = c.in_ok-sorted.sorted.items in
    let named = ap names_in c.as_slice.ensures.keys ∙ c.self.view_is in
    c.in_ok-places.ensures.count ∙ ap length c.deref-2.ensures.value ∙ sym (length-map sorted entry_of)
    ∙ count c.args.self.now (entries_of sorted) (moved c.args.self.now _ _ named c.in_ok-sorted.ensures.permutation)

pub returns-clause-places : goal.returns-clause-places
returns-clause-places c i within =
    let sorted : List Numbered = c.in_ok-sorted.sorted.items in
    let written = c.in_ok-names.ensures ∙ ap (λ (l : List Numbered). names_of (entries_of l)) c.deref.ensures.value in
    let named = ap names_in c.as_slice.ensures.keys ∙ c.self.view_is in
    let places = c.in_ok-places.places.items in
    let placed = subst (λ (l : List Numbered). IsPlaced (numbers_of (entries_of l)) places) c.deref-2.ensures.value c.in_ok-places.ensures.placed in
    ap (λ (l : List (List ℕ)). slice_get l (get_or places i 0)) written
    ∙ name_at_place c.args.self.now (entries_of sorted) (moved c.args.self.now _ _ named c.in_ok-sorted.ensures.permutation) places placed i within
