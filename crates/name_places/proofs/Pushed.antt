-- One more name.
use Rattle.std.proofs.Common.{◌≡◌, ℕ, suc, ◌+◌, ◌<◌, Bor, map, take, get_or, Bool, true, false, cond, List, [], ◌∷◌, ◌++◌, length, Option, Some, None, refl, sym, ◌∙◌, ap, subst, arith}
use Rattle.std.proofs.lemmas.Bool.{true≢false}
use Rattle.std.proofs.lemmas.Slice.Eq.{bytes_eq-Decides}
use Rattle.std.specs.List.{position_from}
use Rattle.std.specs.Option.{option_or, is_some}
use Rattle.std.specs.Str.{bytes_eq}
use Rattle.std.proofs.lemmas.List.{take_more, map_push, length-map, length-take}
use Rattle.name_places.specs.Places.{place_of}

head_or : (b : Bool) (i n : ℕ) (rest more : Option ℕ) (y : Bool) → more ≡ option_or rest (cond y (Some (i + 1 + n)) None)
    → cond b (Some i) more ≡ option_or (cond b (Some i) rest) (cond y (Some (i + suc n)) None)
head_or true i n rest more y e = refl
head_or false i n rest more y e = e ∙ ap (λ k. option_or rest (cond y (Some k) None)) (omega arith)

pub push : {X : Type 0} (t : X → Bool) (i : ℕ) (xs : List X) (y : X)
    → position_from t i (xs ++ y ∷ []) ≡ option_or (position_from t i xs) (cond (t y) (Some (i + length xs)) None)
push t i [] y = ap (λ n. cond (t y) (Some n) None) (omega arith)
push t i (x ∷ xs) y =
    head_or (t x) i (length xs) (position_from t (i + 1) xs) (position_from t (i + 1) (xs ++ y ∷ [])) (t y) (push t (i + 1) xs y)

or_none : (o : Option ℕ) → o ≡ option_or o None
or_none None = refl
or_none (Some n) = refl

-- The name is new.
pub new_or : (f : List ℕ → Option ℕ) (name q : List ℕ) (place : ℕ) → is_some (f name) ≡ false
    → cond (bytes_eq name q) (Some place) (f q) ≡ option_or (f q) (cond (bytes_eq name q) (Some place) None)
new_or f name q place none = by_same (bytes_eq name q) refl
  where
    at_name : (o : Option ℕ) → is_some o ≡ false → Some place ≡ option_or o (Some place)
    at_name None e = refl
    at_name (Some n) e = absurd (true≢false e)

    by_same : (b : Bool) → bytes_eq name q ≡ b → cond b (Some place) (f q) ≡ option_or (f q) (cond b (Some place) None)
    by_same true e = at_name (f q) (ap (λ z. is_some (f z)) (sym ((bytes_eq-Decides name q).0 e)) ∙ none)
    by_same false e = or_none (f q)

-- The name has a place.
pub kept_or : (f : List ℕ → Option ℕ) (name q : List ℕ) (place : ℕ) → is_some (f name) ≡ true
    → f q ≡ option_or (f q) (cond (bytes_eq name q) (Some place) None)
kept_or f name q place some = by_same (bytes_eq name q) refl
  where
    at_name : (o : Option ℕ) → is_some o ≡ true → o ≡ option_or o (Some place)
    at_name None e = absurd (true≢false (sym e))
    at_name (Some n) e = refl

    by_same : (b : Bool) → bytes_eq name q ≡ b → f q ≡ option_or (f q) (cond b (Some place) None)
    by_same true e = at_name (f q) (ap (λ z. is_some (f z)) (sym ((bytes_eq-Decides name q).0 e)) ∙ some)
    by_same false e = or_none (f q)

-- One more name in a list.
pub place_more : (xs : List (Bor (List ℕ))) (i : ℕ) (d : Bor (List ℕ)) (name : List ℕ) (old new : Option ℕ) → i < length xs
    → old ≡ place_of (map (λ (n : Bor (List ℕ)). n.now) (take i xs)) name
    → new ≡ option_or old (cond (bytes_eq (get_or xs i d).now name) (Some i) None)
    → new ≡ place_of (map (λ (n : Bor (List ℕ)). n.now) (take (i + 1) xs)) name
place_more xs i d name old new within was is =
    let names = map (λ (n : Bor (List ℕ)). n.now) (take i xs) in
    let many : i ≡ 0 + length names = grind (arith, length-map (take i xs) (λ (n : Bor (List ℕ)). n.now), length-take i xs) in
    is ∙ ap (λ o. option_or o (cond (bytes_eq (get_or xs i d).now name) (Some i) None)) was
    ∙ ap (λ k. option_or (place_of names name) (cond (bytes_eq (get_or xs i d).now name) (Some k) None)) many
    ∙ sym (push (λ (other : List ℕ). bytes_eq other name) 0 names (get_or xs i d).now)
    ∙ ap (λ (ns : List (List ℕ)). place_of ns name) (sym (map_push (λ (n : Bor (List ℕ)). n.now) (take i xs) (get_or xs i d)) ∙ ap (map (λ (n : Bor (List ℕ)). n.now)) (sym (take_more xs i d within)))
