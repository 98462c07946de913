-- Names with the numbers of their points, in byte order.
use Rattle.std.proofs.Common.{◌≡◌, ◌≢◌, ◌⊎◌, inl, inr, suc, ℕ, ◌+◌, ◌^◌, ◌<◌, ◌≤◌, false, true≢false, pos, List, [], ◌∷◌, Some, map, take, set, length, get_or, slice_get, All, Contains, refl, sym, subst, ap, ◌∙◌, arith}
use Rattle.std.specs.Cmp.{IsTotalOrder}
use Rattle.std.specs.Cmp.Lexicographic.{slice_cmp}
use Rattle.std.specs.List.{range_with_len}
use Rattle.std.specs.List.Sorted.{IsPermutation, IsSortedBy, IsStrictlySortedBy}
use Rattle.std.specs.Option.{option_map}
use Rattle.std.specs.Ordering.{ordering_then, nat_cmp, is_lt, MatchOrdering}
use Rattle.std.specs.declared.cmp.Ordering.{Ordering}
use Rattle.std.specs.declared.cmp.Ordering.TheVariants.{Less, Equal, Greater}
use Rattle.std.proofs.lemmas.Bool.{cases_eq}
use Rattle.std.proofs.lemmas.Cmp.{ranked, nat_list_cmp_total, nat_cmp_total, on_total, then_total}
use Rattle.std.proofs.lemmas.List.{ext_get_or, get_or-map, length-map, get_or-set_same, get_or-set_other}
use Rattle.std.proofs.lemmas.List.Elements.{All-more, All-weaker, All-contains, Contains-get_or}
use Rattle.std.proofs.lemmas.List.FromFn.{length-range_with_len, get_or-range_with_len, length-map-range_with_len, get_or-map-range_with_len}
use Rattle.std.proofs.lemmas.List.Sorted.{IsPermutation-keeps, IsPermutation-map, IsPermutation-sym, Contains-permutation, All-permutation, length_permutation, ranks_by, sorted_far}
use Rattle.std.proofs.lemmas.Option.{slice_get-get_or, slice_get-map}
use Rattle.name_table.specs.ByteOrder.{IsBefore, IsInByteOrder}
use Rattle.grid_network.specs.declared.key.Key.{Key}
use Rattle.grid_network.specs.declared.numbered_names.NumberedName.{NumberedName}
use Rattle.grid_network.specs.Listing.{ListsAll, EachOnce}
use Rattle.grid_network.specs.Nodes.{name_of}
use Rattle.grid_network.specs.inside.Steps.{TellsNumbers, IsPlaced, IsShort, place_of, numbered_name, name_cmp, key_cmp, front_of}
use Rattle.grid_network.proofs.Fronts.{Bytes, bytes_from_all, front_before}
use Rattle.grid_network.proofs.Moved.{once_swap}
use Rattle.grid_network.proofs.Names as n

-- ---- places

-- the number m stands at its place
abbrev pub IsPlacedAt : List ℕ → List ℕ → ℕ → Type 0
IsPlacedAt numbers places m = slice_get numbers (get_or places m 0) ≡ Some m

-- one more number is placed; a number that comes again is placed anew
pub placed_more : (numbers places : List ℕ) (i n : ℕ) → i < length numbers → get_or numbers i 0 ≡ n → n < length places
    → All (IsPlacedAt numbers places) (take i numbers) → All (IsPlacedAt numbers (set places n i)) (take (i + 1) numbers)
placed_more numbers places i n within at n_within before =
    All-more (IsPlacedAt numbers (set places n i)) numbers i 0 within
    (All-weaker (IsPlacedAt numbers places) (IsPlacedAt numbers (set places n i)) (λ m old. kept m old (cases_eq m n)) (take i numbers) before)
    (subst (IsPlacedAt numbers (set places n i)) (sym at) here)
  where
    here : IsPlacedAt numbers (set places n i) n
    here = ap (slice_get numbers) (get_or-set_same places n i 0 n_within) ∙ slice_get-get_or numbers i 0 within ∙ ap Some at

    kept : (m : ℕ) → IsPlacedAt numbers places m → ((m ≡ n) ⊎ (m ≡ n → ⊥)) → IsPlacedAt numbers (set places n i) m
    kept m old (inl e) = subst (IsPlacedAt numbers (set places n i)) (sym e) here
    kept m old (inr e) = ap (slice_get numbers) (get_or-set_other places n m i 0 e) ∙ old

-- ---- order

-- what is not less among two different names comes before
not_less : (a b : List ℕ) → a ≢ b → is_lt (slice_cmp nat_cmp b a) ≡ false → IsBefore a b
not_less [] [] other low = absurd (other refl)
not_less [] (y ∷ ys) other low = tt
not_less (x ∷ xs) [] other low = absurd (true≢false low)
not_less (x ∷ xs) (y ∷ ys) other low = by (nat_cmp y x) (ranked y x (nat_cmp y x) refl) low (not_less xs ys)
  where
    by : (r : Ordering) → MatchOrdering r (y < x) (y ≡ x) (x < y) → is_lt (ordering_then r (slice_cmp nat_cmp ys xs)) ≡ false
        → (xs ≢ ys → is_lt (slice_cmp nat_cmp ys xs) ≡ false → IsBefore xs ys) → IsBefore (x ∷ xs) (y ∷ ys)
    by Less rank l rest = absurd (true≢false l)
    by Equal rank l rest = inr (sym rank, rest (λ e. other (λ j. sym rank j ∷ e j)) l)
    by Greater rank l rest = inl rank

pub name_order : IsTotalOrder name_cmp
name_order = then_total (on_total (λ n. n.front) nat_cmp_total) (on_total (λ n. n.name) nat_list_cmp_total)

-- the number that stands before a name is that of its first bytes
abbrev IsFronted : NumberedName → Type 0
IsFronted n = (n.front ≡ front_of n.name 16) × Bytes n.name

earlier : (a b : NumberedName) → IsFronted a → IsFronted b → a.name ≢ b.name → is_lt (name_cmp b a) ≡ false → IsBefore a.name b.name
earlier a b p q other low = by (nat_cmp b.front a.front) (ranked b.front a.front (nat_cmp b.front a.front) refl) low
  where
    by : (r : Ordering) → MatchOrdering r (b.front < a.front) (b.front ≡ a.front) (a.front < b.front) → is_lt (ordering_then r (slice_cmp nat_cmp b.name a.name)) ≡ false → IsBefore a.name b.name
    by Less rank l = absurd (true≢false l)
    by Equal rank l = not_less a.name b.name other l
    by Greater rank l =
        let f = p.0 in
        let g = q.0 in
        front_before a.name b.name 16 p.1 q.1 (omega (arith, f, g, rank))

in_order : (es : List NumberedName) → All IsFronted es → EachOnce (map (λ n. n.name) es) → IsSortedBy (λ a b. is_lt (name_cmp a b)) es → IsInByteOrder (map (λ n. n.name) es)
in_order es fronted apart up i j d below within =
    let none : NumberedName = record { front = 0; name = d; number = 0 } in
    let long = length-map es (λ n. n.name) in
    let i_within : i < length es = omega (arith, below, within, long) in
    let j_within : j < length es = omega (arith, within, long) in
    let a : NumberedName = get_or es i none in
    let b : NumberedName = get_or es j none in
    let at_i : get_or (map (λ n. n.name) es) i d ≡ a.name = get_or-map (λ n. n.name) es i none d i_within in
    let at_j : get_or (map (λ n. n.name) es) j d ≡ b.name = get_or-map (λ n. n.name) es j none d j_within in
    let far = sorted_far (λ a b. is_lt (name_cmp a b)) (ranks_by name_order (λ n. n)) es up i j none (omega arith) j_within in
    let here : IsBefore a.name b.name = earlier a b (fronted i none i_within) (fronted j none j_within) (λ e. apart i j d below within (at_i ∙ e ∙ sym at_j)) far in
    subst (λ (s : List ℕ). IsBefore s (get_or (map (λ n. n.name) es) j d)) (sym at_i) (subst (λ (t : List ℕ). IsBefore a.name t) (sym at_j) here)

-- ---- all numbers, in another order

once_moved : {X : Type 0} (xs ys : List X) → IsPermutation xs ys → EachOnce xs → EachOnce ys
once_moved xs ys moved once = IsPermutation-keeps xs EachOnce once (λ l i j p q h. once_swap l i j p q h) ys moved

numbers_made : (l : ℕ) (places : List Key) (ns : List ℕ) → map (λ n. n.number) (map (numbered_name l places) ns) ≡ ns
numbers_made l places [] = refl
numbers_made l places (i ∷ ns) = ap (λ t. i ∷ t) (numbers_made l places ns)

map_again : {X Y : Type 0} (f g : X → Y) (xs : List X) → All (λ x. f x ≡ g x) xs → map f xs ≡ map g xs
map_again f g [] same = refl
map_again f g (x ∷ xs) same = let here = same 0 x (omega arith) in let rest = map_again f g xs (λ k d within. same (suc k) d (omega arith)) in λ i. here i ∷ rest i

map_both : {X Y Z : Type 0} (f : X → Y) (g : Y → Z) (xs : List X) → map g (map f xs) ≡ map (λ x. g (f x)) xs
map_both f g [] = refl
map_both f g (x ∷ xs) = ap (λ t. g (f x) ∷ t) (map_both f g xs)

-- the names of all points, in another order
abbrev pub IsMoved : ℕ → List Key → List NumberedName → Type 0
IsMoved l places es = IsPermutation (map (numbered_name l places) (range_with_len 0 (length places))) es

module _ (l : ℕ) (places : List Key) (es : List NumberedName) (moved : IsMoved l places es) where
  -- the numbers as they stand now
  abbrev now : List ℕ
  now = map (λ n. n.number) es

  numbers_moved : IsPermutation (range_with_len 0 (length places)) now
  numbers_moved = subst (λ (ns : List ℕ). IsPermutation ns now) (numbers_made l places (range_with_len 0 (length places))) (IsPermutation-map (λ n. n.number) _ _ moved)

  pub as_many : length es ≡ length places
  as_many = length_permutation _ _ moved ∙ length-map-range_with_len (numbered_name l places) 0 (length places)

  -- each has the name of its point
  abbrev IsMade : NumberedName → Type 0
  IsMade n = (n.number < length places) × (n ≡ numbered_name l places n.number)

  made : All IsMade es
  made = All-permutation IsMade _ es moved each
    where
      each : All IsMade (map (numbered_name l places) (range_with_len 0 (length places)))
      each k d within =
          let below : k < length places = omega (arith, within, length-map-range_with_len (numbered_name l places) 0 (length places)) in
          let e = get_or-map-range_with_len (numbered_name l places) 0 (length places) k k d below (omega arith) in
          subst IsMade (sym e) (below, refl)

  pub numbers_within : All (λ n. n.number < length places) es
  numbers_within k d within = (made k d within).0

  -- the points in the order of the names
  abbrev keys : List Key
  keys = map (λ n. place_of places n.number) es

  keys_from : keys ≡ map (place_of places) now
  keys_from = sym (map_both (λ n. n.number) (place_of places) es)

  places_again : map (place_of places) (range_with_len 0 (length places)) ≡ places
  places_again =
      let none : Key = record { net = 0; layer = 0; x = pos 0; y = pos 0 } in
      let long = length-map-range_with_len (place_of places) 0 (length places) in
      ext_get_or none (map (place_of places) (range_with_len 0 (length places))) places long
      (λ j below. get_or-map-range_with_len (place_of places) 0 (length places) j j none (omega (arith, below, long)) (omega arith))

  keys_moved : IsPermutation places keys
  keys_moved =
      subst (λ (ks : List Key). IsPermutation ks keys) places_again
      (subst (λ (ks : List Key). IsPermutation (map (place_of places) (range_with_len 0 (length places))) ks) (sym keys_from)
      (IsPermutation-map (place_of places) _ _ numbers_moved))

  pub keys_same : ListsAll (λ k. Contains places k) keys
  keys_same key = (λ h. Contains-permutation keys places key (IsPermutation-sym places keys keys_moved) h, λ h. Contains-permutation places keys key keys_moved h)

  pub names_are : map (λ n. n.name) es ≡ map (name_of l) keys
  names_are =
      map_again (λ n. n.name) (λ n. name_of l (place_of places n.number)) es (λ k d within. ap (λ n. n.name) (made k d within).1)
      ∙ sym (map_both (λ n. place_of places n.number) (name_of l) es)

  module _ (few : l < 2 ^ 32) (low : All (λ k. k.layer < l) places) (short : All IsShort places) (once : EachOnce places) where
    keys_once : EachOnce keys
    keys_once = once_moved places keys keys_moved once

    names_once : EachOnce (map (λ n. n.name) es)
    names_once =
        subst (λ (ns : List (List ℕ)). EachOnce ns) (sym names_are)
        (n.names_differ l keys few (All-permutation (λ k. k.layer < l) places keys keys_moved low) (All-permutation IsShort places keys keys_moved short) keys_once)

    fronted : All IsFronted es
    fronted k d within =
        let e : NumberedName = get_or es k d in
        let is = made k d within in
        let key : Key = place_of places e.number in
        let none : Key = record { net = 0; layer = 0; x = pos 0; y = pos 0 } in
        let all_bytes = n.name_bytes l key few (low e.number none is.0) (short e.number none is.0) in
        (ap (λ n. n.front) is.1 ∙ ap (λ (s : List ℕ). front_of s 16) (sym (ap (λ n. n.name) is.1)), subst Bytes (sym (ap (λ n. n.name) is.1)) (bytes_from_all (name_of l key) all_bytes))

    pub order : IsSortedBy (λ a b. is_lt (name_cmp a b)) es → IsInByteOrder (map (name_of l) keys)
    order up = subst IsInByteOrder names_are (in_order es fronted names_once up)

    pub tells : (numbers : List ℕ) → IsStrictlySortedBy key_cmp places → length numbers ≡ length es → IsPlaced now numbers → TellsNumbers keys places numbers
    tells numbers up long placed = record {
      sorted = up;
      one_each = long ∙ as_many;
      as_many = length-map es (λ n. place_of places n.number) ∙ as_many;
      told = told;
      once = keys_once;
      same = λ key h. (keys_same key).0 h;
    }
      where
        there : (i : ℕ) → i < length places → Contains now i
        there i within =
            let below : i < length (range_with_len 0 (length places)) = omega (arith, within, length-range_with_len 0 (length places)) in
            let e : get_or (range_with_len 0 (length places)) i i ≡ i = get_or-range_with_len 0 (length places) i i within ∙ (let f : 0 + i ≡ i = omega arith in f) in
            Contains-permutation (range_with_len 0 (length places)) now i numbers_moved (i, below, e)

        told : (i : ℕ) → i < length places → slice_get keys (get_or numbers i 0) ≡ slice_get places i
        told i within =
            let none : Key = record { net = 0; layer = 0; x = pos 0; y = pos 0 } in
            let at : slice_get now (get_or numbers i 0) ≡ Some i = All-contains (IsPlacedAt now numbers) now i placed (there i within) in
            ap (λ (ks : List Key). slice_get ks (get_or numbers i 0)) keys_from ∙ slice_get-map (place_of places) now (get_or numbers i 0) ∙ ap (option_map (place_of places)) at
            ∙ sym (slice_get-get_or places i none within)
