-- Tables of the names of a list.
use Rattle.std.proofs.Common.{◌≡◌, ◌↔◌, ◌⊎◌, inl, inr, ℕ, ◌+◌, ◌<◌, ◌≤◌, List, [], ◌∷◌, ◌++◌, map, take, length, get_or, Contains, refl, sym, ap, ◌∙◌, subst, arith}
use Rattle.std.proofs.lemmas.List.{map_push, take_more, take_all, get_or_append_left, get_or_push, length_push}
use Rattle.std.proofs.lemmas.List.Elements.{Contains-push, Contains-push_cases, Contains-append_left}
use Rattle.name_table.specs.Numbering.{TakesName, AreDistinct}

-- The table has the names, and where none stands twice it is their list.
pub record HoldsNames (names table : List (List ℕ)) : Type 0 where
  pub same : (name : List ℕ) → Contains table name ↔ Contains names name
  pub places : AreDistinct names → table ≡ names

pub holds_none : HoldsNames [] []
holds_none = record { same = λ name. (λ h. h, λ h. h); places = λ distinct. refl }

front : (xs : List (List ℕ)) (y : List ℕ) → AreDistinct (xs ++ y ∷ []) → AreDistinct xs
front xs y distinct i j d less below = λ same.
    distinct i j d less (omega (arith, length_push xs y))
    (get_or_append_left xs (y ∷ []) d i (omega arith) ∙ same ∙ sym (get_or_append_left xs (y ∷ []) d j below))

twice : (xs : List (List ℕ)) (y : List ℕ) → AreDistinct (xs ++ y ∷ []) → Contains xs y → ⊥
twice xs y distinct (k, within, is) =
    distinct k (length xs) y within (omega (arith, length_push xs y))
    (get_or_append_left xs (y ∷ []) y k within ∙ is ∙ sym (get_or_push xs y y (length xs) refl))

pub holds_push : (names old new : List (List ℕ)) (name : List ℕ) → TakesName old new name → HoldsNames names old → HoldsNames (names ++ name ∷ []) new
holds_push names old new name (inl (there, is)) holds = record {
  same = λ n. (
    λ h. Contains-append_left names (name ∷ []) n ((holds.same n).0 (subst (λ z. Contains z n) is h)),
    λ h. subst (λ z. Contains z n) (sym is) ((holds.same n).1 (by_place n (Contains-push_cases names name n h))),
  );
  places = λ distinct. absurd (twice names name distinct ((holds.same name).0 there));
}
  where
    by_place : (n : List ℕ) → Contains names n ⊎ (name ≡ n) → Contains names n
    by_place n (inl h) = h
    by_place n (inr one) = subst (λ z. Contains names z) one ((holds.same name).0 there)
holds_push names old new name (inr (fresh, is)) holds = record {
  same = λ n. (
    λ h. over n (Contains-push_cases old name n (subst (λ z. Contains z n) is h)),
    λ h. subst (λ z. Contains z n) (sym is) (back n (Contains-push_cases names name n h)),
  );
  places = λ distinct. is ∙ ap (λ z. z ++ name ∷ []) (holds.places (front names name distinct));
}
  where
    over : (n : List ℕ) → Contains old n ⊎ (name ≡ n) → Contains (names ++ name ∷ []) n
    over n (inl h) = Contains-append_left names (name ∷ []) n ((holds.same n).0 h)
    over n (inr one) = subst (λ z. Contains (names ++ name ∷ []) z) one (Contains-push names name)

    back : (n : List ℕ) → Contains names n ⊎ (name ≡ n) → Contains (old ++ name ∷ []) n
    back n (inl h) = Contains-append_left old (name ∷ []) n ((holds.same n).1 h)
    back n (inr one) = subst (λ z. Contains (old ++ name ∷ []) z) one (Contains-push old name)

pub holds_more : {X : Type 0} (name_of : X → List ℕ) (items : List X) (i : ℕ) (d : X) (old new : List (List ℕ)) (name : List ℕ) → i < length items
    → name ≡ name_of (get_or items i d) → TakesName old new name → HoldsNames (map name_of (take i items)) old
    → HoldsNames (map name_of (take (i + 1) items)) new
holds_more {X} name_of items i d old new name within is taken holds =
    subst (λ (ns : List (List ℕ)). HoldsNames ns new)
    (ap (λ n. map name_of (take i items) ++ n ∷ []) is ∙ sym (map_push name_of (take i items) (get_or items i d))
    ∙ ap (λ (xs : List X). map name_of xs) (sym (take_more items i d within)))
    (holds_push (map name_of (take i items)) old new name taken holds)

pub holds_all : {X : Type 0} (name_of : X → List ℕ) (items : List X) (i : ℕ) (table : List (List ℕ)) → length items ≤ i
    → HoldsNames (map name_of (take i items)) table → HoldsNames (map name_of items) table
holds_all {X} name_of items i table le holds = subst (λ (xs : List X). HoldsNames (map name_of xs) table) (take_all i items le) holds
