-- What the test of a key says of the names of a table. K is a key, and `named` its name.
use Rattle.std.proofs.Common.{IsTrue, ◌↔◌, ◌≡◌, ℕ, ◌<◌, Bool, true, false, ◌||◌, inl, inr, List, [], ◌∷◌, ◌++◌, ◌+◌, cond, Some, map, length, get_or, slice_get, if◌then◌else◌, Contains, refl, sym, ap, ◌∙◌, true≢false, position, arith}
use Rattle.std.specs.Prelude.{None, not, nat_lt}
use Rattle.std.specs.List.{list_any, prefix_len, IsDistinct}
use Rattle.std.specs.Str.{bytes_eq}
use Rattle.std.specs.Option.{option_map}
use Rattle.std.proofs.lemmas.List.{get_or-map, length-map, map_push}
use Rattle.std.proofs.lemmas.Option.{slice_get-map, slice_get-get_or}
use Rattle.std.proofs.lemmas.List.Quantifiers.{position-Some}
use Rattle.std.proofs.lemmas.Cmp.{nat_list_eq_equiv}
use Rattle.std.proofs.lemmas.Slice.Eq.{bytes_eq-Decides}
use Rattle.std.proofs.lemmas.Map.Keys.{apart_from_distinct}
use Rattle.std.proofs.lemmas.Map.Views.{Contains-from_any, list_any-from_Contains}
use Rattle.name_table.specs.Numbering.{TakesName, AreDistinct}

module _ {K : Type 0} (named : K → List ℕ) where
  abbrev pub is_one : K → K → Bool
  is_one x y = bytes_eq (named x) (named y)

  -- Keys of which no two are one have distinct names.
  pub names_are_distinct : (keys : List K) → IsDistinct is_one keys → AreDistinct (map named keys)
  names_are_distinct [] apart i j d below within same = omega arith
  names_are_distinct (k ∷ ks) apart i j d below within same =
      let keys : List K = k ∷ ks in
      let j_within : j < length keys = omega (arith, length-map keys named) in
      let at_i = get_or-map named keys i k d (omega arith) in
      let at_j = get_or-map named keys j k d j_within in
      let one = (bytes_eq-Decides (named (get_or keys i k)) (named (get_or keys j k))).1 (sym at_i ∙ same ∙ at_j) in
      true≢false (sym one ∙ apart_from_distinct is_one keys i j k apart below j_within)

  any_named : (name : List ℕ) (keys : List K) → list_any (λ k. bytes_eq name (named k)) keys ≡ list_any (bytes_eq name) (map named keys)
  any_named name [] = refl
  any_named name (k ∷ ks) = ap (λ b. bytes_eq name (named k) || b) (any_named name ks)

  pub is_there : (name : List ℕ) (keys : List K) → list_any (λ k. bytes_eq name (named k)) keys ≡ true → Contains (map named keys) name
  is_there name keys e = Contains-from_any (λ x y. (bytes_eq-Decides x y).0) name (map named keys) (sym (any_named name keys) ∙ e)

  pub is_new : (name : List ℕ) (keys : List K) → list_any (λ k. bytes_eq name (named k)) keys ≡ false → Contains (map named keys) name → ⊥
  is_new name keys e there = true≢false (sym (any_named name keys ∙ list_any-from_Contains nat_list_eq_equiv name (map named keys) there) ∙ e)

  pub answers : (name : List ℕ) (keys : List K) (r : Bool) → r ≡ list_any (λ k. bytes_eq name (named k)) keys → IsTrue r ↔ Contains (map named keys) name
  answers name keys true e = (λ h. is_there name keys (sym e), λ h. refl)
  answers name keys false e = (λ h. absurd (true≢false (sym h)), λ h. absurd (is_new name keys (sym e) h))

  -- The name at the place of a key that is one with it.
  pub name_there : (keys : List K) (i : ℕ) (key found : K) → slice_get keys i ≡ Some found → is_one key found ≡ true → slice_get (map named keys) i ≡ Some (named key)
  name_there keys i key found at one =
      slice_get-map named keys i ∙ ap (option_map named) at ∙ ap Some (sym ((bytes_eq-Decides (named key) (named found)).0 one))

  pub name_at_first : (keys : List K) (i : ℕ) (key : K) → position (λ k. bytes_eq (named key) (named k)) keys ≡ Some i → slice_get (map named keys) i ≡ Some (named key)
  name_at_first keys i key e =
      let first = position-Some (λ k. bytes_eq (named key) (named k)) keys i key e in
      name_there keys i key (get_or keys i key) (slice_get-get_or keys i key first.0) first.1

  -- A place among the keys is the place among their names.
  first_named : (p : List ℕ → Bool) (keys : List K) → prefix_len (λ k. p (named k)) keys ≡ prefix_len p (map named keys)
  first_named p [] = refl
  first_named p (k ∷ ks) = ap (λ n. cond (p (named k)) (1 + n) 0) (first_named p ks)

  pub position_named : (p : List ℕ → Bool) (keys : List K) → position (λ k. p (named k)) keys ≡ position p (map named keys)
  position_named p keys =
      let count = sym (length-map keys named) in
      let first = first_named (λ n. not (p n)) keys in
      λ i. cond (nat_lt (first i) (count i)) (Some (first i)) None

  -- The names after a key is inserted.
  pub takes : (keys : List K) (key : K) → TakesName (map named keys) (map named (if list_any (is_one key) keys then keys else (keys ++ key ∷ []))) (named key)
  takes keys key = by (list_any (is_one key) keys) refl
    where
      by : (b : Bool) → list_any (is_one key) keys ≡ b → TakesName (map named keys) (map named (if b then keys else (keys ++ key ∷ []))) (named key)
      by true e = inl (is_there (named key) keys e, refl)
      by false e = inr (is_new (named key) keys e, map_push named keys key)
