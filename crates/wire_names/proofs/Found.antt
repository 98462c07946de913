-- The first of what is found in a list, entry after entry.
use Rattle.std.proofs.Common.{◌≡◌, ℕ, ◌+◌, ◌<◌, List, [], ◌∷◌, ◌++◌, length, take, drop, get_or, Option, Some, None, refl, sym, ◌∙◌, ap}
use Rattle.std.specs.Option.{option_or}
use Rattle.std.proofs.lemmas.List.{take_more, take-append-drop}
use Rattle.wire_names.specs.Names.{first_some}

or_none : {Y : Type 0} (o : Option Y) → option_or o None ≡ o
or_none None = refl
or_none (Some y) = refl

or_or : {Y : Type 0} (a b c : Option Y) → option_or a (option_or b c) ≡ option_or (option_or a b) c
or_or None b c = refl
or_or (Some y) b c = refl

some_append : {X Y : Type 0} (f : X → Option Y) (xs ys : List X)
    → first_some f (xs ++ ys) ≡ option_or (first_some f xs) (first_some f ys)
some_append f [] ys = refl
some_append f (x ∷ xs) ys = ap (option_or (f x)) (some_append f xs ys) ∙ or_or (f x) (first_some f xs) (first_some f ys)

-- One more entry has nothing.
pub none_at : {X Y : Type 0} (f : X → Option Y) (xs : List X) (i : ℕ) (e : X) → i < length xs → e ≡ get_or xs i e
    → first_some f (take i xs) ≡ None → f e ≡ None → first_some f (take (i + 1) xs) ≡ None
none_at f xs i e within is none more = ap (first_some f) (take_more xs i e within) ∙ some_append f (take i xs) (get_or xs i e ∷ [])
    ∙ ap (λ o. option_or o (option_or (f (get_or xs i e)) None)) none ∙ or_none (f (get_or xs i e)) ∙ ap f (sym is) ∙ more

-- An entry is the first that has something.
pub found_at : {X Y : Type 0} (f : X → Option Y) (xs : List X) (i : ℕ) (e : X) (y : Y) → i < length xs → e ≡ get_or xs i e
    → first_some f (take i xs) ≡ None → f e ≡ Some y → first_some f xs ≡ Some y
found_at f xs i e y within is none more =
    ap (first_some f) (sym (take-append-drop (i + 1) xs)) ∙ some_append f (take (i + 1) xs) (drop (i + 1) xs)
    ∙ ap (λ o. option_or o (first_some f (drop (i + 1) xs))) (ap (first_some f) (take_more xs i e within) ∙ some_append f (take i xs) (get_or xs i e ∷ [])
    ∙ ap (λ o. option_or o (option_or (f (get_or xs i e)) None)) none ∙ or_none (f (get_or xs i e)) ∙ ap f (sym is) ∙ more)
