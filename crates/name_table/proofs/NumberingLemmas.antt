-- The names that the keys of a table stand for.
use Rattle.std.proofs.Common.{IsTrue, ◌↔◌, ◌≡◌, ◌≢◌, ℕ, ◌<◌, Bool, true, false, ◌||◌, inl, inr, List, [], ◌∷◌, ◌++◌, Some, map, length, get_or, slice_get, if◌then◌else◌, Contains, AllPairs, refl, sym, ap, ◌∙◌, true≢false, position, arith}
use Rattle.std.specs.List.{list_any, IsDistinct}
use Rattle.std.specs.Str.{bytes_eq}
use Rattle.std.specs.Option.{option_map}
use Rattle.std.proofs.lemmas.List.{get_or-map, length-map, map_push}
use Rattle.std.proofs.lemmas.Option.{slice_get-map, slice_get-get_or}
use Rattle.std.proofs.lemmas.List.Quantifiers.{position-Some}
use Rattle.std.proofs.lemmas.Cmp.{nat_list_eq_equiv}
use Rattle.std.proofs.lemmas.Slice.Eq.{bytes_eq-Decides}
use Rattle.std.proofs.lemmas.Map.Keys.{apart_from_distinct}
use Rattle.std.proofs.lemmas.Map.Views.{Contains-from_any, list_any-from_Contains}
use Rattle.name_table.specs.declared.key.Key.{Key}
use Rattle.name_table.specs.Numbering.{TakesName}

abbrev pub names_of : List Key → List (List ℕ)
names_of keys = map (λ k. k.name.now) keys

abbrev pub same_key : Key → Key → Bool
same_key x y = bytes_eq x.name.now y.name.now

-- No two names of distinct keys are the same.
pub distinct_names : (keys : List Key) → IsDistinct same_key keys → AllPairs (λ a b. a ≢ b) (names_of keys)
distinct_names [] apart i j d below within same = omega arith
distinct_names (k ∷ ks) apart i j d below within same =
    let keys : List Key = k ∷ ks in
    let count : length (names_of keys) ≡ length keys = length-map keys (λ k. k.name.now) in
    let j_within : j < length keys = omega arith in
    let i_within : i < length keys = omega arith in
    let first = get_or-map (λ k. k.name.now) keys i k d i_within in
    let second = get_or-map (λ k. k.name.now) keys j k d j_within in
    let tested = (bytes_eq-Decides (get_or keys i k).name.now (get_or keys j k).name.now).1 (sym first ∙ same ∙ second) in
    true≢false (sym tested ∙ apart_from_distinct same_key keys i j k apart below j_within)

any-names_of : (name : List ℕ) (keys : List Key) → list_any (λ k. bytes_eq name k.name.now) keys ≡ list_any (bytes_eq name) (names_of keys)
any-names_of name [] = refl
any-names_of name (k ∷ ks) = ap (λ b. bytes_eq name k.name.now || b) (any-names_of name ks)

-- What the test of a key says of its name.
pub is_named : (name : List ℕ) (keys : List Key) → list_any (λ k. bytes_eq name k.name.now) keys ≡ true → Contains (names_of keys) name
is_named name keys e =
    Contains-from_any (λ x y. (bytes_eq-Decides x y).0) name (names_of keys) (sym (any-names_of name keys) ∙ e)

pub is_not_named : (name : List ℕ) (keys : List Key) → list_any (λ k. bytes_eq name k.name.now) keys ≡ false → Contains (names_of keys) name → ⊥
is_not_named name keys e there =
    true≢false (sym (any-names_of name keys ∙ list_any-from_Contains nat_list_eq_equiv name (names_of keys) there) ∙ e)

-- The name at the place of a key.
pub name_at : (keys : List Key) (i : ℕ) (key found : Key) → slice_get keys i ≡ Some found → same_key key found ≡ true → slice_get (names_of keys) i ≡ Some key.name.now
name_at keys i key found at same =
    slice_get-map (λ k. k.name.now) keys i ∙ ap (option_map (λ k. k.name.now)) at ∙ ap Some (sym ((bytes_eq-Decides key.name.now found.name.now).0 same))

-- The name at the place where the test of a key passes.
pub name_at_position : (keys : List Key) (i : ℕ) (key : Key) → position (λ k. bytes_eq key.name.now k.name.now) keys ≡ Some i → slice_get (names_of keys) i ≡ Some key.name.now
name_at_position keys i key e =
    let found = position-Some (λ k. bytes_eq key.name.now k.name.now) keys i key e in
    name_at keys i key (get_or keys i key) (slice_get-get_or keys i key found.0) found.1

-- The names after a key is inserted.
pub takes_name : (keys : List Key) (key : Key) → TakesName (names_of keys) (names_of (if list_any (same_key key) keys then keys else (keys ++ key ∷ []))) key.name.now
takes_name keys key = by (list_any (same_key key) keys) refl
  where
    by : (b : Bool) → list_any (same_key key) keys ≡ b → TakesName (names_of keys) (names_of (if b then keys else (keys ++ key ∷ []))) key.name.now
    by true e = inl (is_named key.name.now keys e, refl)
    by false e = inr (is_not_named key.name.now keys e, map_push (λ k. k.name.now) keys key)

-- Whether a name is there, as it is told.
pub tells : (name : List ℕ) (keys : List Key) (r : Bool) → r ≡ list_any (λ k. bytes_eq name k.name.now) keys → IsTrue r ↔ Contains (names_of keys) name
tells name keys true e = (λ h. is_named name keys (sym e), λ h. refl)
tells name keys false e = (λ h. absurd (true≢false (sym h)), λ h. absurd (is_not_named name keys (sym e) h))
