-- The place of a name in a list in which no name stands twice.
use Rattle.std.proofs.Common.{◌≡◌, ℕ, zero, suc, ◌+◌, ◌<◌, Bool, true, false, cond, List, [], ◌∷◌, length, get_or, Some, refl, sym, ap, ◌∙◌, arith}
use Rattle.std.specs.Prelude.{Contains}
use Rattle.std.specs.List.{position_from}
use Rattle.std.specs.Str.{bytes_eq}
use Rattle.std.proofs.lemmas.Bool.{true≢false}
use Rattle.std.proofs.lemmas.Slice.Eq.{bytes_eq-Decides}
use Rattle.name_table.specs.Numbering.{AreDistinct}
use Rattle.name_places.specs.Places.{place_of}

-- The first place from i on at which the test holds, where it holds at the place k and at none before.
first_at : {X : Type 0} (t : X → Bool) (i : ℕ) (xs : List X) (k : ℕ) (d : X) → k < length xs → t (get_or xs k d) ≡ true
    → ((j : ℕ) → j < k → t (get_or xs j d) ≡ false) → position_from t i xs ≡ Some (i + k)
first_at t i [] k d within is none = absurd (omega (arith, within))
first_at t i (x ∷ xs) zero d within is none = ap (λ b. cond b (Some i) (position_from t (i + 1) xs)) is ∙ ap Some (omega arith)
first_at t i (x ∷ xs) (suc k) d within is none =
    ap (λ b. cond b (Some i) (position_from t (i + 1) xs)) (none 0 (omega arith))
    ∙ first_at t (i + 1) xs k d (omega (arith, within)) is (λ j below. none (suc j) (omega (arith, below))) ∙ ap Some (omega arith)

tested : (a b : List ℕ) → a ≡ b → bytes_eq a b ≡ true
tested a b e = (bytes_eq-Decides a b).1 e

untested : (a b : List ℕ) → (a ≡ b → ⊥) → bytes_eq a b ≡ false
untested a b other = by (bytes_eq a b) refl
  where
    by : (r : Bool) → bytes_eq a b ≡ r → bytes_eq a b ≡ false
    by true e = absurd (other ((bytes_eq-Decides a b).0 e))
    by false e = e

-- A name that stands at a place stands there first.
pub place_is : (names : List (List ℕ)) → AreDistinct names → (k : ℕ) (d : List ℕ) → k < length names → place_of names (get_or names k d) ≡ Some k
place_is names distinct k d within =
    let name : List ℕ = get_or names k d in
    first_at (λ (other : List ℕ). bytes_eq other name) 0 names k d within (tested name name refl)
    (λ j below. untested (get_or names j d) name (distinct j k d below within)) ∙ ap Some (omega arith)

-- Where a name that stands among others is found.
record IsFound (names : List (List ℕ)) (name : List ℕ) : Type 0 where
  pub place : ℕ
  pub within : place < length names
  pub at : (d : List ℕ) → get_or names place d ≡ name
  pub found : (i : ℕ) → position_from (λ (other : List ℕ). bytes_eq other name) i names ≡ Some (i + place)

found_from : (names : List (List ℕ)) (name : List ℕ) → Contains names name → IsFound names name
found_from [] name (n, within, at) = absurd (omega (arith, within))
found_from (x ∷ xs) name (n, within, at) = by (found_from xs name) (bytes_eq x name) refl
  where
    by : (Contains xs name → IsFound xs name) → (b : Bool) → bytes_eq x name ≡ b → IsFound (x ∷ xs) name
    by more true e = record {
      place = 0;
      within = omega arith;
      at = λ d. (bytes_eq-Decides x name).0 e;
      found = λ i. ap (λ c. cond c (Some i) (position_from (λ (other : List ℕ). bytes_eq other name) (i + 1) xs)) e ∙ ap Some (omega arith);
    }
    by more false e = later n within at
      where
        later : (m : ℕ) → m < length (x ∷ xs) → get_or (x ∷ xs) m name ≡ name → IsFound (x ∷ xs) name
        later zero in_all here = absurd (true≢false (sym (tested x name here) ∙ e))
        later (suc m) in_all here =
            let rest : IsFound xs name = more (m, omega (arith, in_all), here) in
            let inside = rest.within in
            record {
              place = suc rest.place;
              within = omega (arith, inside);
              at = rest.at;
              found = λ i. ap (λ c. cond c (Some i) (position_from (λ (other : List ℕ). bytes_eq other name) (i + 1) xs)) e ∙ rest.found (i + 1) ∙ ap Some (omega arith);
            }

pub found_in : (names : List (List ℕ)) (name : List ℕ) → Contains names name → (k : ℕ) × (k < length names) × ((d : List ℕ) → get_or names k d ≡ name) × (place_of names name ≡ Some k)
found_in names name there =
    let is : IsFound names name = found_from names name there in
    (is.place, is.within, is.at, is.found 0 ∙ ap Some (omega arith))
