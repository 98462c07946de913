-- Lists with one more element at the end.
use Rattle.std.proofs.Common.{◌≡◌, ◌-◌, ◌<◌, ◌↔◌, ◌⊎◌, inl, inr, ℤ, List, [], ◌∷◌, ◌++◌, length, get_or, take, All, AllPairs, Contains, subst, refl, sym, ap, ◌∙◌, arith}
use Rattle.std.proofs.lemmas.List.{get_or_append_left, get_or_push, length_push, take_more, take_all}
use Rattle.std.proofs.lemmas.List.Elements.{Contains-push, Contains-push_cases, Contains-append_left}
use Rattle.std.proofs.lemmas.List.Quantifiers.{all_pairs_push}
use Rattle.geom_rect.specs.declared.run.Run.{Run}
use Rattle.geom_rect.specs.Run.{HasCell, IsHeld}

-- what holds of each element holds of those in front, and of the last
pub All-front : {X : Type 0} (P : X → Type 0) (xs : List X) (y : X) → All P (xs ++ y ∷ []) → All P xs
All-front P xs y all k d below = subst P (get_or_append_left xs (y ∷ []) d k below) (all k d (omega (arith, length_push xs y)))

pub All-last : {X : Type 0} (P : X → Type 0) (xs : List X) (y : X) → All P (xs ++ y ∷ []) → P y
All-last P xs y all = subst P (get_or_push xs y y (length xs) refl) (all (length xs) y (omega (arith, length_push xs y)))

pub AllPairs-front : {X : Type 0} (R : X → X → Type 0) (xs : List X) (y : X) → AllPairs R (xs ++ y ∷ []) → AllPairs R xs
AllPairs-front R xs y all i j d less below =
    let at_i = get_or_append_left xs (y ∷ []) d i (omega arith) in
    let at_j = get_or_append_left xs (y ∷ []) d j below in
    subst (λ x. R x (get_or xs j d)) at_i (subst (λ x. R (get_or (xs ++ y ∷ []) i d) x) at_j (all i j d less (omega (arith, length_push xs y))))

pub AllPairs-last : {X : Type 0} (R : X → X → Type 0) (xs : List X) (y : X) → AllPairs R (xs ++ y ∷ []) → All (λ x. R x y) xs
AllPairs-last R xs y all k d below =
    let at_k = get_or_append_left xs (y ∷ []) d k below in
    let at_end = get_or_push xs y d (length xs) refl in
    subst (λ x. R x y) at_k (subst (λ x. R (get_or (xs ++ y ∷ []) k d) x) at_end (all k (length xs) d below (omega (arith, length_push xs y))))

pub AllPairs-push : {X : Type 0} (R : X → X → Type 0) (xs : List X) (y : X) → AllPairs R xs → All (λ x. R x y) xs → AllPairs R (xs ++ y ∷ [])
AllPairs-push R xs y pairs all = all_pairs_push R xs y pairs all

-- a cell is held by one of the runs in front, or the last run has it
pub IsHeld-push : (runs : List Run) (last : Run) (t : ℤ) → IsHeld (runs ++ last ∷ []) t ↔ (IsHeld runs t ⊎ HasCell last t)
IsHeld-push runs last t = (split, joined)
  where
    by_place : (run : Run) → HasCell run t → Contains runs run ⊎ (last ≡ run) → IsHeld runs t ⊎ HasCell last t
    by_place run has (inl in_front) = inl (run, in_front, has)
    by_place run has (inr is_last) = inr (subst (λ (r : Run). HasCell r t) (sym is_last) has)

    split : IsHeld (runs ++ last ∷ []) t → IsHeld runs t ⊎ HasCell last t
    split held = by_place held.0 held.2 (Contains-push_cases runs last held.0 held.1)

    joined : IsHeld runs t ⊎ HasCell last t → IsHeld (runs ++ last ∷ []) t
    joined (inl held) = (held.0, Contains-append_left runs (last ∷ []) held.0 held.1, held.2)
    joined (inr has) = (last, Contains-push runs last, has)

-- a list with an element, as its front and its last one
pub front_and_last : {X : Type 0} (xs : List X) (d : X) → 0 < length xs → xs ≡ take (length xs - 1) xs ++ get_or xs (length xs - 1) d ∷ []
front_and_last xs d some =
    sym (take_all (length xs) xs (omega arith)) ∙ ap (λ n. take n xs) (omega arith) ∙ take_more xs (length xs - 1) d (omega arith)
