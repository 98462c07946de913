-- Names with their numbers, before and after they are sorted.
use Rattle.std.proofs.Common.{◌≡◌, ◌≢◌, ℕ, ◌+◌, ◌<◌, false, ◌⊎◌, inl, inr, List, [], ◌∷◌, ◌++◌, Some, map, take, length, get_or, set, slice_get, Contains, All, IsPermutation, IsSorted, refl, sym, ap, subst, ◌∙◌, true≢false, arith}
use Rattle.std.specs.List.{IsDistinct, enumerate_from}
use Rattle.std.specs.Option.{option_map}
use Rattle.std.specs.declared.cmp.Ordering.{Ordering}
use Rattle.std.specs.declared.cmp.Ordering.TheVariants.{Less, Equal, Greater}
use Rattle.std.specs.Ordering.{ordering_then, nat_cmp, is_lt, MatchOrdering}
use Rattle.std.specs.Cmp.{IsTotalOrder}
use Rattle.std.specs.Cmp.Lexicographic.{slice_cmp}
use Rattle.std.proofs.lemmas.Bool.{cases_eq}
use Rattle.std.proofs.lemmas.Cmp.{ranked, nat_list_cmp_total, nat_list_eq_equiv, nat_cmp_total, on_total, then_total}
use Rattle.std.proofs.lemmas.List.{get_or-map, length-map, map_push, take_more, get_or-set_same, get_or-set_other, length-take-le}
use Rattle.std.proofs.lemmas.List.FromFn.{length-enumerate_from, get_or-enumerate_from}
use Rattle.std.proofs.lemmas.List.Elements.{All-more, All-weaker, All-contains, Contains-get_or}
use Rattle.std.proofs.lemmas.List.Sorted.{IsPermutation-map, Contains-permutation, All-permutation, length_permutation, ranks_by, sorted_far}
use Rattle.std.proofs.lemmas.Map.Keys.{IsDistinct-IsPermutation}
use Rattle.std.proofs.lemmas.Option.{slice_get-get_or, slice_get-map, slice_get_within, get_or_from_slice_get}
use Rattle.name_table.specs.declared.key.Key.{Key}
use Rattle.name_table.specs.declared.table.NumberedName.{NumberedName}
use Rattle.name_table.specs.ByteOrder.{IsBefore, IsInByteOrder}
use Rattle.name_table.specs.inside.Numbered.{numbered, numbered_cmp, IsPlaced}
use Rattle.name_table.proofs.NumberingLemmas.{names_of, same_key, distinct_names}

-- ---- the list that is sorted.
enumerate_push : {X : Type 0} (n : ℕ) (xs : List X) (x : X) → enumerate_from n (xs ++ x ∷ []) ≡ enumerate_from n xs ++ (n + length xs, x) ∷ []
enumerate_push n [] x = let e : n ≡ n + 0 = omega arith in ap (λ k. (k, x) ∷ []) e
enumerate_push n (y ∷ ys) x =
    let e : n + 1 + length ys ≡ n + length (y ∷ ys) = omega arith in
    ap (λ l. (n, y) ∷ l) (enumerate_push (n + 1) ys x ∙ ap (λ k. enumerate_from (n + 1) ys ++ (k, x) ∷ []) e)

abbrev with_number : ℕ × Key → NumberedName
with_number p = record { name = p.1; number = p.0 }

pub numbered_more : (names : List Key) (i : ℕ) (d : Key) → i < length names → numbered (take (i + 1) names) ≡ numbered (take i names) ++ record { name = get_or names i d; number = i } ∷ []
numbered_more names i d within =
    let count : 0 + length (take i names) ≡ i = omega (arith, length-take-le i names (omega arith)) in
    ap numbered (take_more names i d within) ∙ ap (map with_number) (enumerate_push 0 (take i names) (get_or names i d))
    ∙ map_push with_number (enumerate_from 0 (take i names)) (0 + length (take i names), get_or names i d)
    ∙ ap (λ k. numbered (take i names) ++ with_number (k, get_or names i d) ∷ []) count

length-numbered : (names : List Key) → length (numbered names) ≡ length names
length-numbered names = length-map (enumerate_from 0 names) with_number ∙ length-enumerate_from 0 names

numbered_at : (names : List Key) (i : ℕ) (d : NumberedName) → i < length names → get_or (numbered names) i d ≡ record { name = get_or names i d.name; number = i }
numbered_at names i d within =
    let first : ℕ × Key = (d.number, d.name) in
    let e : 0 + i ≡ i = omega arith in
    get_or-map with_number (enumerate_from 0 names) i first d (omega (arith, length-enumerate_from 0 names))
    ∙ ap with_number (get_or-enumerate_from 0 names i first within) ∙ ap (λ k. with_number (k, get_or names i d.name)) e

names_numbered : (n : ℕ) (names : List Key) → map (λ p. p.name) (map with_number (enumerate_from n names)) ≡ names
names_numbered n [] = refl
names_numbered n (x ∷ xs) = ap (λ l. x ∷ l) (names_numbered (n + 1) xs)

-- ---- places
-- the number m stands at its place.
abbrev pub IsPlacedAt : List ℕ → List ℕ → ℕ → Type 0
IsPlacedAt numbers places m = slice_get numbers (get_or places m 0) ≡ Some m

-- One more number is placed; a number that comes again is placed anew.
pub placed_more : (numbers places : List ℕ) (i n : ℕ) → i < length numbers → get_or numbers i 0 ≡ n → n < length places
    → All (IsPlacedAt numbers places) (take i numbers) → All (IsPlacedAt numbers (set places n i)) (take (i + 1) numbers)
placed_more numbers places i n within at n_within before =
    All-more (IsPlacedAt numbers (set places n i)) numbers i 0 within
    (All-weaker (IsPlacedAt numbers places) (IsPlacedAt numbers (set places n i)) (λ m old. kept m old (cases_eq m n)) (take i numbers) before)
    (subst (IsPlacedAt numbers (set places n i)) (sym at) here)
  where
    here : IsPlacedAt numbers (set places n i) n
    here = ap (slice_get numbers) (get_or-set_same places n i 0 n_within) ∙ slice_get-get_or numbers i 0 within ∙ ap Some at

    kept : (m : ℕ) → IsPlacedAt numbers places m → ((m ≡ n) ⊎ (m ≡ n → ⊥)) → IsPlacedAt numbers (set places n i) m
    kept m old (inl e) = subst (IsPlacedAt numbers (set places n i)) (sym e) here
    kept m old (inr e) = ap (slice_get numbers) (get_or-set_other places n m i 0 e) ∙ old

-- ---- the sorted list: `entries` holds what `numbered names` holds.
none_of : List ℕ → NumberedName
none_of d = record { name = record { name = record { ref_ptr = (0, 0); now = d } }; number = 0 }

pub same_names : (names : List Key) (entries : List NumberedName) → IsPermutation (numbered names) entries → IsPermutation (names_of names) (names_of (map (λ n. n.name) entries))
same_names names entries moved =
    let P : List Key → Type 0 = λ l. IsPermutation (names_of l) (names_of (map (λ n. n.name) entries)) in
    subst P (names_numbered 0 names) (IsPermutation-map (λ k. k.name.now) _ _ (IsPermutation-map (λ n. n.name) _ _ moved))

-- Each name has its entry.
has_entry : (names : List Key) (entries : List NumberedName) → IsPermutation (numbered names) entries → (i : ℕ) (d : Key) → i < length names → Contains entries (record { name = get_or names i d; number = i })
has_entry names entries moved i d within =
    let none : NumberedName = record { name = d; number = 0 } in
    let here : Contains (numbered names) (get_or (numbered names) i none) = Contains-get_or (numbered names) i none (omega (arith, length-numbered names)) in
    Contains-permutation (numbered names) entries _ moved (subst (Contains (numbered names)) (numbered_at names i none within) here)

-- An entry of the sorted list is a name with its place.
abbrev IsEntryOf : List Key → NumberedName → Type 0
IsEntryOf names n = (n.number < length names) × (slice_get names n.number ≡ Some n.name)

all_entries : (names : List Key) (entries : List NumberedName) → IsPermutation (numbered names) entries → All (IsEntryOf names) entries
all_entries names entries moved = All-permutation (IsEntryOf names) (numbered names) entries moved each
  where
    each : All (IsEntryOf names) (numbered names)
    each i d within =
        let in' : i < length names = omega (arith, length-numbered names) in
        subst (IsEntryOf names) (sym (numbered_at names i d in')) (in', slice_get-get_or names i d.name in')

pub numbers_within : (names : List Key) (entries : List NumberedName) → IsPermutation (numbered names) entries → All (λ n. n.number < length entries) entries
numbers_within names entries moved k d within =
    let e = all_entries names entries moved k d within in
    omega (arith, e.0, length_permutation (numbered names) entries moved, length-numbered names)

pub length_entries : (names : List Key) (entries : List NumberedName) → IsPermutation (numbered names) entries → length entries ≡ length names
length_entries names entries moved = length_permutation (numbered names) entries moved ∙ length-numbered names

-- So a number that is placed is placed at its name.
pub name_at_place : (names : List Key) (entries : List NumberedName) (places : List ℕ) → IsPermutation (numbered names) entries → IsPlaced (map (λ n. n.number) entries) places
    → (i : ℕ) → i < length (names_of names) → slice_get (names_of (map (λ n. n.name) entries)) (get_or places i 0) ≡ slice_get (names_of names) i
name_at_place [] entries places moved placed i within = absurd (omega arith)
name_at_place (x ∷ xs) entries places moved placed i within =
    let names : List Key = x ∷ xs in
    let numbers : List ℕ = map (λ n. n.number) entries in
    let place : ℕ = get_or places i 0 in
    let none : NumberedName = record { name = x; number = 0 } in
    let count : length numbers ≡ length entries = length-map entries (λ n. n.number) in
    let in_names : i < length names = omega (arith, length-map names (λ k. k.name.now)) in
    let at : slice_get numbers place ≡ Some i = All-contains (IsPlacedAt numbers places) numbers i placed (number_there numbers entries i (get_or names i x) refl (has_entry names entries moved i x in_names)) in
    let in_numbers : place < length numbers = slice_get_within numbers place i at in
    let found : NumberedName = get_or entries place none in
    let there : slice_get entries place ≡ Some found = slice_get-get_or entries place none (omega arith) in
    let same : found.number ≡ i = sym (get_or-map (λ n. n.number) entries place none 0 (omega arith)) ∙ get_or_from_slice_get numbers place i 0 at in
    let entry = all_entries names entries moved place none (omega arith) in
    let named : slice_get names i ≡ Some found.name = ap (slice_get names) (sym same) ∙ entry.1 in
    slice_get-map (λ k. k.name.now) (map (λ n. n.name) entries) place ∙ ap (option_map (λ k. k.name.now)) (slice_get-map (λ n. n.name) entries place ∙ ap (option_map (λ n. n.name)) there)
    ∙ sym (slice_get-map (λ k. k.name.now) names i ∙ ap (option_map (λ k. k.name.now)) named)
  where
    number_there : (numbers : List ℕ) (entries : List NumberedName) (i : ℕ) (key : Key) → numbers ≡ map (λ n. n.number) entries → Contains entries (record { name = key; number = i }) → Contains numbers i
    number_there numbers entries i key is (k, k_within, e) =
        let n : NumberedName = record { name = key; number = i } in
        (k, omega (arith, ap length is, length-map entries (λ n. n.number)), ap (λ l. get_or l k i) is ∙ get_or-map (λ n. n.number) entries k n i k_within ∙ ap (λ m. m.number) e)

-- ---- order
-- what a sort by name and number says of two different names.
before_from_cmp : (a b : List ℕ) (o : Ordering) → a ≢ b → is_lt (ordering_then (slice_cmp nat_cmp b a) o) ≡ false → IsBefore a b
before_from_cmp [] [] o other low = absurd (other refl)
before_from_cmp [] (y ∷ ys) o other low = tt
before_from_cmp (x ∷ xs) [] o other low = absurd (true≢false low)
before_from_cmp (x ∷ xs) (y ∷ ys) o other low = by (nat_cmp y x) (ranked y x (nat_cmp y x) refl) low (before_from_cmp xs ys o)
  where
    by : (r : Ordering) → MatchOrdering r (y < x) (y ≡ x) (x < y) → is_lt (ordering_then (ordering_then r (slice_cmp nat_cmp ys xs)) o) ≡ false
        → (xs ≢ ys → is_lt (ordering_then (slice_cmp nat_cmp ys xs) o) ≡ false → IsBefore xs ys) → IsBefore (x ∷ xs) (y ∷ ys)
    by Less rank l rest = absurd (true≢false l)
    by Equal rank l rest = inr (sym rank, rest (λ e. other (λ j. sym rank j ∷ e j)) l)
    by Greater rank l rest = inl rank

numbered_order : IsTotalOrder numbered_cmp
numbered_order = then_total (on_total (λ n. n.name.name.now) nat_list_cmp_total) (on_total (λ n. n.number) nat_cmp_total)

same_key_flips : (x y : Key) → same_key x y ≡ same_key y x
same_key_flips x y = nat_list_eq_equiv.symm x.name.now y.name.now

pub in_byte_order : (names : List Key) (entries : List NumberedName) → IsDistinct same_key names → IsPermutation (numbered names) entries → IsSorted numbered_cmp entries → IsInByteOrder (names_of (map (λ n. n.name) entries))
in_byte_order names entries apart moved up i j d below within =
    let keys : List Key = map (λ n. n.name) entries in
    let none : NumberedName = none_of d in
    let count : length (names_of keys) ≡ length entries = length-map keys (λ k. k.name.now) ∙ length-map entries (λ n. n.name) in
    let P : List Key → Type 0 = λ l. IsPermutation l keys in
    let renamed : IsPermutation names keys = subst P (names_numbered 0 names) (IsPermutation-map (λ n. n.name) _ _ moved) in
    let distinct = distinct_names keys (IsDistinct-IsPermutation same_key same_key_flips names keys renamed apart) i j d below within in
    let j_within : j < length entries = omega arith in
    let at_i = name_of_entry i (omega arith) in
    let at_j = name_of_entry j j_within in
    let far = sorted_far _ (ranks_by numbered_order (λ n. n)) entries up i j none (omega arith) j_within in
    let Q : List ℕ → List ℕ → Type 0 = λ a b. IsBefore a b in
    subst (λ (a : List ℕ). IsBefore a (get_or (names_of keys) j d)) (sym at_i)
    (subst (λ (b : List ℕ). IsBefore (get_or entries i none).name.name.now b) (sym at_j)
    (before_from_cmp (get_or entries i none).name.name.now (get_or entries j none).name.name.now _ (λ e. distinct (at_i ∙ e ∙ sym at_j)) far))
  where
    name_of_entry : (k : ℕ) → k < length entries → get_or (names_of (map (λ n. n.name) entries)) k d ≡ (get_or entries k (none_of d)).name.name.now
    name_of_entry k k_within =
        get_or-map (λ k. k.name.now) (map (λ n. n.name) entries) k (none_of d).name d (omega (arith, length-map entries (λ n. n.name)))
        ∙ ap (λ k. k.name.now) (get_or-map (λ n. n.name) entries k (none_of d) (none_of d).name k_within)

-- The slices of the entries are the names of their keys.
pub slices_of_entries : (entries : List NumberedName) → map (λ n. n.now) (map (λ n. n.name.name) entries) ≡ names_of (map (λ n. n.name) entries)
slices_of_entries [] = refl
slices_of_entries (n ∷ ns) = ap (λ l. n.name.name.now ∷ l) (slices_of_entries ns)
