-- Numbers with their names, before and after they are sorted. `entries` has what `enumerate_from 0 names` has.
use Rattle.std.proofs.Common.{◌≡◌, ◌≢◌, ℕ, ◌+◌, ◌<◌, false, ◌⊎◌, inl, inr, List, [], ◌∷◌, ◌++◌, Some, map, take, length, get_or, set, slice_get, Contains, All, IsPermutation, IsSorted, refl, sym, ap, subst, ◌∙◌, true≢false, arith}
use Rattle.std.specs.List.{enumerate_from}
use Rattle.std.specs.Option.{option_map}
use Rattle.std.specs.declared.cmp.Ordering.{Ordering}
use Rattle.std.specs.declared.cmp.Ordering.TheVariants.{Less, Equal, Greater}
use Rattle.std.specs.Ordering.{ordering_then, nat_cmp, is_lt, MatchOrdering}
use Rattle.std.specs.Cmp.{IsTotalOrder}
use Rattle.std.specs.Cmp.Lexicographic.{slice_cmp}
use Rattle.std.proofs.lemmas.Bool.{cases_Bool, cases_eq}
use Rattle.std.proofs.lemmas.Cmp.{ranked, nat_list_cmp_total, nat_list_eq_equiv, nat_cmp_total, on_total, then_total}
use Rattle.std.proofs.lemmas.List.{get_or-map, length-map, take_more, get_or-set_same, get_or-set_other, length-take-le}
use Rattle.std.proofs.lemmas.List.FromFn.{length-enumerate_from, get_or-enumerate_from}
use Rattle.std.proofs.lemmas.List.Elements.{All-more, All-weaker, All-contains, Contains-get_or}
use Rattle.std.proofs.lemmas.List.Sorted.{IsPermutation-map, Contains-permutation, All-permutation, length_permutation, ranks_by, sorted_far}
use Rattle.std.proofs.lemmas.Option.{slice_get-get_or, slice_get-map, slice_get_within, get_or_from_slice_get}
use Rattle.name_table.specs.ByteOrder.{IsBefore, IsInByteOrder}
use Rattle.name_table.specs.Numbering.{AreDistinct}
use Rattle.std.proofs.lemmas.Map.Keys.{IsDistinct-IsPermutation, IsDistinct-from_apart}
use Rattle.std.proofs.lemmas.Slice.Eq.{bytes_eq-Decides}
use Rattle.node_names.specs.inside.Entries.{entry_cmp, IsPlaced}
use Rattle.node_names.proofs.KeyLemmas.{is_one, names_are_distinct}

abbrev pub Entry : Type 0
Entry = ℕ × List ℕ

abbrev pub numbers_of : List Entry → List ℕ
numbers_of entries = map (λ e. e.0) entries

abbrev pub names_of : List Entry → List (List ℕ)
names_of entries = map (λ e. e.1) entries

-- ---- the list that is sorted
enumerate_push : (n : ℕ) (names : List (List ℕ)) (name : List ℕ) → enumerate_from n (names ++ name ∷ []) ≡ enumerate_from n names ++ (n + length names, name) ∷ []
enumerate_push n [] name = let e : n ≡ n + 0 = omega arith in ap (λ k. (k, name) ∷ []) e
enumerate_push n (x ∷ xs) name =
    let e : n + 1 + length xs ≡ n + length (x ∷ xs) = omega arith in
    ap (λ l. (n, x) ∷ l) (enumerate_push (n + 1) xs name ∙ ap (λ k. enumerate_from (n + 1) xs ++ (k, name) ∷ []) e)

-- One more name is numbered.
pub numbered_more : (names : List (List ℕ)) (i : ℕ) (d : List ℕ) → i < length names → enumerate_from 0 (take (i + 1) names) ≡ enumerate_from 0 (take i names) ++ (i, get_or names i d) ∷ []
numbered_more names i d within =
    let count : 0 + length (take i names) ≡ i = omega (arith, length-take-le i names (omega arith)) in
    ap (enumerate_from 0) (take_more names i d within) ∙ enumerate_push 0 (take i names) (get_or names i d)
    ∙ ap (λ k. enumerate_from 0 (take i names) ++ (k, get_or names i d) ∷ []) count

entry_at : (names : List (List ℕ)) (i : ℕ) (d : Entry) → i < length names → get_or (enumerate_from 0 names) i d ≡ (i, get_or names i d.1)
entry_at names i d within = let e : 0 + i ≡ i = omega arith in get_or-enumerate_from 0 names i d within ∙ ap (λ k. (k, get_or names i d.1)) e

names_numbered : (n : ℕ) (names : List (List ℕ)) → names_of (enumerate_from n names) ≡ names
names_numbered n [] = refl
names_numbered n (x ∷ xs) = ap (λ l. x ∷ l) (names_numbered (n + 1) xs)

-- ---- places
abbrev pub IsPlacedAt : List ℕ → List ℕ → ℕ → Type 0
IsPlacedAt numbers places m = slice_get numbers (get_or places m 0) ≡ Some m

-- One more number is placed; a number that comes again is placed anew.
pub placed_more : (numbers places : List ℕ) (i n : ℕ) → i < length numbers → get_or numbers i 0 ≡ n → n < length places
    → All (IsPlacedAt numbers places) (take i numbers) → All (IsPlacedAt numbers (set places n i)) (take (i + 1) numbers)
placed_more numbers places i n within at n_within before =
    All-more (IsPlacedAt numbers (set places n i)) numbers i 0 within
    (All-weaker (IsPlacedAt numbers places) (IsPlacedAt numbers (set places n i)) (λ m old. kept m old (cases_eq m n)) (take i numbers) before)
    (subst (IsPlacedAt numbers (set places n i)) (sym at) here)
  where
    here : IsPlacedAt numbers (set places n i) n
    here = ap (slice_get numbers) (get_or-set_same places n i 0 n_within) ∙ slice_get-get_or numbers i 0 within ∙ ap Some at

    kept : (m : ℕ) → IsPlacedAt numbers places m → ((m ≡ n) ⊎ (m ≡ n → ⊥)) → IsPlacedAt numbers (set places n i) m
    kept m old (inl e) = subst (IsPlacedAt numbers (set places n i)) (sym e) here
    kept m old (inr e) = ap (slice_get numbers) (get_or-set_other places n m i 0 e) ∙ old

module _ (names : List (List ℕ)) (entries : List Entry) (moved : IsPermutation (enumerate_from 0 names) entries) where
  -- The sorted list has the names, as many entries, and no number beyond them.
  pub same_names : IsPermutation names (names_of entries)
  same_names = subst (λ (l : List (List ℕ)). IsPermutation l (names_of entries)) (names_numbered 0 names) (IsPermutation-map (λ e. e.1) _ _ moved)

  pub count : length entries ≡ length names
  count = length_permutation (enumerate_from 0 names) entries moved ∙ length-enumerate_from 0 names

  abbrev IsEntry : Entry → Type 0
  IsEntry e = (e.0 < length names) × (slice_get names e.0 ≡ Some e.1)

  all_entries : All IsEntry entries
  all_entries = All-permutation IsEntry (enumerate_from 0 names) entries moved each
    where
      each : All IsEntry (enumerate_from 0 names)
      each i d within =
          let in_names : i < length names = omega (arith, length-enumerate_from 0 names) in
          subst IsEntry (sym (entry_at names i d in_names)) (in_names, slice_get-get_or names i d.1 in_names)

  pub numbers_within : All (λ e. e.0 < length entries) entries
  numbers_within k d within = let e = all_entries k d within in omega (arith, e.0, count)

  has_entry : (i : ℕ) → i < length names → Contains entries (i, get_or names i [])
  has_entry i within =
      let none : Entry = (0, []) in
      let here = Contains-get_or (enumerate_from 0 names) i none (omega (arith, length-enumerate_from 0 names)) in
      Contains-permutation (enumerate_from 0 names) entries _ moved (subst (Contains (enumerate_from 0 names)) (entry_at names i none within) here)

  number_there : (i : ℕ) → Contains entries (i, get_or names i []) → Contains (numbers_of entries) i
  number_there i (k, k_within, e) = (k, omega (arith, length-map entries (λ n. n.0)), get_or-map (λ n. n.0) entries k (i, get_or names i []) i k_within ∙ ap (λ m. m.0) e)

  -- So a number that is placed is placed at its name.
  pub name_at_place : (places : List ℕ) → IsPlaced (numbers_of entries) places → (i : ℕ) → i < length names → slice_get (names_of entries) (get_or places i 0) ≡ slice_get names i
  name_at_place places placed i within =
      let place : ℕ = get_or places i 0 in
      let at : slice_get (numbers_of entries) place ≡ Some i = All-contains (IsPlacedAt (numbers_of entries) places) (numbers_of entries) i placed (number_there i (has_entry i within)) in
      let in_entries : place < length entries = omega (arith, slice_get_within (numbers_of entries) place i at, length-map entries (λ n. n.0)) in
      let found : Entry = get_or entries place (0, []) in
      let there : slice_get entries place ≡ Some found = slice_get-get_or entries place (0, []) in_entries in
      let same : found.0 ≡ i = sym (get_or-map (λ n. n.0) entries place (0, []) 0 in_entries) ∙ get_or_from_slice_get (numbers_of entries) place i 0 at in
      slice_get-map (λ n. n.1) entries place ∙ ap (option_map (λ n. n.1)) there ∙ sym (ap (slice_get names) (sym same) ∙ (all_entries place (0, []) in_entries).1)

-- ---- order
-- What a sort by name and number says of two different names.
before_from_cmp : (a b : List ℕ) (o : Ordering) → a ≢ b → is_lt (ordering_then (slice_cmp nat_cmp b a) o) ≡ false → IsBefore a b
before_from_cmp [] [] o other low = absurd (other refl)
before_from_cmp [] (y ∷ ys) o other low = tt
before_from_cmp (x ∷ xs) [] o other low = absurd (true≢false low)
before_from_cmp (x ∷ xs) (y ∷ ys) o other low = by (nat_cmp y x) (ranked y x (nat_cmp y x) refl) low (before_from_cmp xs ys o)
  where
    by : (r : Ordering) → MatchOrdering r (y < x) (y ≡ x) (x < y) → is_lt (ordering_then (ordering_then r (slice_cmp nat_cmp ys xs)) o) ≡ false
        → (xs ≢ ys → is_lt (ordering_then (slice_cmp nat_cmp ys xs) o) ≡ false → IsBefore xs ys) → IsBefore (x ∷ xs) (y ∷ ys)
    by Less rank l rest = absurd (true≢false l)
    by Equal rank l rest = inr (sym rank, rest (λ e. other (λ j. sym rank j ∷ e j)) l)
    by Greater rank l rest = inl rank

entry_order : IsTotalOrder entry_cmp
entry_order = then_total (on_total (λ e. e.1) nat_list_cmp_total) (on_total (λ e. e.0) nat_cmp_total)

-- Entries that are sorted, with names of which no two are the same, have them in byte order.
pub in_byte_order : {N : Type 0} (entry : N → Entry) (sorted : List N) → AreDistinct (names_of (map entry sorted)) → IsSorted (λ x y. entry_cmp (entry x) (entry y)) sorted → IsInByteOrder (names_of (map entry sorted))
in_byte_order entry [] distinct up i j d below within = absurd (omega arith)
in_byte_order {N} entry (n ∷ ns) distinct up i j d below within =
    let sorted : List N = n ∷ ns in
    let j_within : j < length sorted = omega (arith, length-map (map entry sorted) (λ e. e.1), length-map sorted entry) in
    let at_i = name_of i (omega arith) in
    let at_j = name_of j j_within in
    let far = sorted_far _ (ranks_by entry_order entry) sorted up i j n (omega arith) j_within in
    let other : (entry (get_or sorted i n)).1 ≢ (entry (get_or sorted j n)).1 = λ e. distinct i j d below within (at_i ∙ e ∙ sym at_j) in
    subst (λ (a : List ℕ). IsBefore a (get_or (names_of (map entry sorted)) j d)) (sym at_i)
    (subst (λ (b : List ℕ). IsBefore (entry (get_or sorted i n)).1 b) (sym at_j) (before_from_cmp _ _ _ other far))
  where
    name_of : (k : ℕ) → k < length (n ∷ ns) → get_or (names_of (map entry (n ∷ ns))) k d ≡ (entry (get_or (n ∷ ns) k n)).1
    name_of k within_k =
        get_or-map (λ e. e.1) (map entry (n ∷ ns)) k (entry n) d (omega (arith, length-map (n ∷ ns) entry))
        ∙ ap (λ e. e.1) (get_or-map entry (n ∷ ns) k n (entry n) within_k)

-- No name stands twice among the entries of names of which none does.
pub entries_are_distinct : (names : List (List ℕ)) (entries : List Entry) → IsPermutation (enumerate_from 0 names) entries → AreDistinct names → AreDistinct (names_of entries)
entries_are_distinct names entries moved distinct =
    names_are_distinct (λ (e : Entry). e.1) entries (IsDistinct-IsPermutation (is_one (λ (e : Entry). e.1)) flips (enumerate_from 0 names) entries moved (IsDistinct-from_apart (is_one (λ (e : Entry). e.1)) (enumerate_from 0 names) apart))
  where
    flips : (x y : Entry) → is_one (λ (e : Entry). e.1) x y ≡ is_one (λ (e : Entry). e.1) y x
    flips x y = nat_list_eq_equiv.symm x.1 y.1

    apart : (i j : ℕ) (d : Entry) → i < j → j < length (enumerate_from 0 names) → is_one (λ (e : Entry). e.1) (get_or (enumerate_from 0 names) i d) (get_or (enumerate_from 0 names) j d) ≡ false
    apart i j d below within =
        let j_within : j < length names = omega (arith, length-enumerate_from 0 names) in
        let at_i = ap (λ (e : Entry). e.1) (entry_at names i d (omega arith)) in
        let at_j = ap (λ (e : Entry). e.1) (entry_at names j d j_within) in
        elim (cases_Bool (is_one (λ (e : Entry). e.1) (get_or (enumerate_from 0 names) i d) (get_or (enumerate_from 0 names) j d))) [
          | inl e ↦ absurd (distinct i j d.1 below j_within (sym at_i ∙ (bytes_eq-Decides _ _).0 e ∙ at_j))
          | inr e ↦ e
        ]
