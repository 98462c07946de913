-- The first of what is found in a list, entry after entry.
use Rattle.std.proofs.Common.{◌≡◌, ℕ, suc, ◌+◌, ◌<◌, Bool, true, false, cond, List, [], ◌∷◌, ◌++◌, length, take, drop, get_or, Option, Some, None, refl, sym, ◌∙◌, ap, arith}
use Rattle.std.specs.List.{position_from}
use Rattle.std.specs.Option.{option_or}
use Rattle.std.proofs.lemmas.List.{take_more, take-append-drop, length-take-le}
use Rattle.grid_plan.specs.Order.{first_some, first_place}

or_none : {Y : Type 0} (o : Option Y) → option_or o None ≡ o
or_none None = refl
or_none (Some y) = refl

or_or : {Y : Type 0} (a b c : Option Y) → option_or a (option_or b c) ≡ option_or (option_or a b) c
or_or None b c = refl
or_or (Some y) b c = refl

pub some_append : {X Y : Type 0} (f : X → Option Y) (xs ys : List X)
    → first_some f (xs ++ ys) ≡ option_or (first_some f xs) (first_some f ys)
some_append f [] ys = refl
some_append f (x ∷ xs) ys = ap (option_or (f x)) (some_append f xs ys) ∙ or_or (f x) (first_some f xs) (first_some f ys)

-- One more entry has nothing.
pub some_none : {X Y : Type 0} (f : X → Option Y) (xs : List X) (i : ℕ) (d : X) → i < length xs
    → first_some f (take i xs) ≡ None → f (get_or xs i d) ≡ None → first_some f (take (i + 1) xs) ≡ None
some_none f xs i d within none more = ap (first_some f) (take_more xs i d within) ∙ some_append f (take i xs) (get_or xs i d ∷ [])
    ∙ ap (λ o. option_or o (option_or (f (get_or xs i d)) None)) none ∙ or_none (f (get_or xs i d)) ∙ more

-- An entry is the first that has something.
pub some_found : {X Y : Type 0} (f : X → Option Y) (xs : List X) (i : ℕ) (d : X) (y : Y) → i < length xs
    → first_some f (take i xs) ≡ None → f (get_or xs i d) ≡ Some y → first_some f xs ≡ Some y
some_found f xs i d y within none more =
    ap (first_some f) (sym (take-append-drop (i + 1) xs)) ∙ some_append f (take (i + 1) xs) (drop (i + 1) xs)
    ∙ ap (λ o. option_or o (first_some f (drop (i + 1) xs))) (ap (first_some f) (take_more xs i d within) ∙ some_append f (take i xs) (get_or xs i d ∷ [])
    ∙ ap (λ o. option_or o (option_or (f (get_or xs i d)) None)) none ∙ or_none (f (get_or xs i d)) ∙ more)

-- The same of an entry that stands there.
pub none_at : {X Y : Type 0} (f : X → Option Y) (xs : List X) (i : ℕ) (e : X) → i < length xs → e ≡ get_or xs i e
    → first_some f (take i xs) ≡ None → f e ≡ None → first_some f (take (i + 1) xs) ≡ None
none_at f xs i e within is none more = some_none f xs i e within none (ap f (sym is) ∙ more)

pub found_at : {X Y : Type 0} (f : X → Option Y) (xs : List X) (i : ℕ) (e : X) (y : Y) → i < length xs → e ≡ get_or xs i e
    → first_some f (take i xs) ≡ None → f e ≡ Some y → first_some f xs ≡ Some y
found_at f xs i e y within is none more = some_found f xs i e y within none (ap f (sym is) ∙ more)

-- ## places

head_place : (b : Bool) (i k n : ℕ) (rest more tail next : Option ℕ) → k ≡ i + suc n → more ≡ option_or rest tail
    → cond b (Some i) more ≡ option_or (cond b (Some i) rest) tail
head_place true i k n rest more tail next e h = refl
head_place false i k n rest more tail next e h = h

place_append : {X : Type 0} (t : X → Bool) (i k : ℕ) (xs ys : List X) → k ≡ i + length xs
    → position_from t i (xs ++ ys) ≡ option_or (position_from t i xs) (position_from t k ys)
place_append t i k [] ys e = ap (λ n. position_from t n ys) (sym (e ∙ omega arith))
place_append t i k (x ∷ xs) ys e =
    head_place (t x) i k (length xs) (position_from t (i + 1) xs) (position_from t (i + 1) (xs ++ ys)) (position_from t k ys) None e
    (place_append t (i + 1) k xs ys (omega arith))

one_place : {X : Type 0} (t : X → Bool) (xs : List X) (i : ℕ) (d : X) (b : Bool) → i < length xs
    → first_place t (take i xs) ≡ None → t (get_or xs i d) ≡ b → first_place t (take (i + 1) xs) ≡ cond b (Some i) None
one_place t xs i d b within none is =
    let many : i ≡ 0 + length (take i xs) = grind (arith, length-take-le i xs) in
    ap (first_place t) (take_more xs i d within) ∙ place_append t 0 i (take i xs) (get_or xs i d ∷ []) many
    ∙ ap (λ o. option_or o (cond (t (get_or xs i d)) (Some i) None)) none ∙ ap (λ z. cond z (Some i) None) is

-- One more entry does not pass.
pub place_none : {X : Type 0} (t : X → Bool) (xs : List X) (i : ℕ) (d : X) → i < length xs
    → first_place t (take i xs) ≡ None → t (get_or xs i d) ≡ false → first_place t (take (i + 1) xs) ≡ None
place_none t xs i d within none is = one_place t xs i d false within none is

-- An entry is the first that passes.
pub place_found : {X : Type 0} (t : X → Bool) (xs : List X) (i : ℕ) (d : X) → i < length xs
    → first_place t (take i xs) ≡ None → t (get_or xs i d) ≡ true → first_place t xs ≡ Some i
place_found t xs i d within none is =
    let many : i + 1 ≡ 0 + length (take (i + 1) xs) = grind (arith, length-take-le (i + 1) xs) in
    ap (first_place t) (sym (take-append-drop (i + 1) xs)) ∙ place_append t 0 (i + 1) (take (i + 1) xs) (drop (i + 1) xs) many
    ∙ ap (λ o. option_or o (position_from t (i + 1) (drop (i + 1) xs))) (one_place t xs i d true within none is)

pub none_passes : {X : Type 0} (t : X → Bool) (xs : List X) (i : ℕ) (e : X) → i < length xs → e ≡ get_or xs i e
    → first_place t (take i xs) ≡ None → t e ≡ false → first_place t (take (i + 1) xs) ≡ None
none_passes t xs i e within is none more = place_none t xs i e within none (ap t (sym is) ∙ more)

pub first_passes : {X : Type 0} (t : X → Bool) (xs : List X) (i : ℕ) (e : X) → i < length xs → e ≡ get_or xs i e
    → first_place t (take i xs) ≡ None → t e ≡ true → first_place t xs ≡ Some i
first_passes t xs i e within is none more = place_found t xs i e within none (ap t (sym is) ∙ more)
