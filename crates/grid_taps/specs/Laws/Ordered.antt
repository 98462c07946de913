-- What one more source gives.
use Rattle.std.proofs.Common.{ℕ, ◌+◌, ◌<◌, List, [], ◌∷◌, ◌++◌, length, get_or, take, refl, sym, ap, ◌∙◌, subst, append_assoc}
use Rattle.std.proofs.lemmas.List.{append-nil, take_more}
use Rattle.grid_taps.specs.Pads.{InOrder}

pub order_push : {S E : Type 0} (gives : S → List E → Type 0) (xs : List S) (x : S) (all added : List E) → InOrder gives xs all → gives x added
    → InOrder gives (xs ++ x ∷ []) (all ++ added)
order_push {S} {E} gives [] x all added none given = (added, [], given, refl, ap (λ (z : List E). z ++ added) none ∙ sym (append-nil added))
order_push {S} {E} gives (y ∷ ys) x all added (first, rest, g, r, e) given =
    (first, rest ++ added, g, order_push gives ys x rest added r given, ap (λ (z : List E). z ++ added) e ∙ append_assoc first rest added)

pub order_more : {S E : Type 0} (gives : S → List E → Type 0) (xs : List S) (i : ℕ) (d : S) (all added : List E) → i < length xs
    → InOrder gives (take i xs) all → gives (get_or xs i d) added → InOrder gives (take (i + 1) xs) (all ++ added)
order_more {S} gives xs i d all added within before given =
    subst (λ (z : List S). InOrder gives z (all ++ added)) (sym (take_more xs i d within)) (order_push gives (take i xs) (get_or xs i d) all added before given)
