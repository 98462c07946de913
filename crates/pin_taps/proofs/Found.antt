-- What is found among the entries that a list gives.
use Rattle.std.proofs.Common.{◌≡◌, Bool, true, false, cond, ◌&&◌, ◌||◌, List, [], ◌∷◌, map, filter, refl, ap, ◌∙◌}
use Rattle.std.specs.List.{list_any}

any_step : {E T : Type 0} (item : E → T) (q : T → Bool) (e : E) (es : List E) (b rest : Bool) → list_any q (map item es) ≡ rest
    → list_any q (map item (cond b (e ∷ es) es)) ≡ ((b && q (item e)) || rest)
any_step item q e es true rest h = ap (λ z. q (item e) || z) h
any_step item q e es false rest h = h

-- A test that one of those found passes is one that an element passes which is found.
pub any_found : {X E T : Type 0} (entry : X → E) (item : E → T) (p : E → Bool) (q : T → Bool) (xs : List X)
    → list_any q (map item (filter p (map entry xs))) ≡ list_any (λ x. p (entry x) && q (item (entry x))) xs
any_found entry item p q [] = refl
any_found entry item p q (x ∷ xs) =
    any_step item q (entry x) (filter p (map entry xs)) (p (entry x)) (list_any (λ z. p (entry z) && q (item (entry z))) xs) (any_found entry item p q xs)

kept_step : {X E T : Type 0} (entry : X → E) (item : E → T) (p : E → Bool) (x : X) (ys zs : List X) (a b : Bool) → p (entry x) ≡ b
    → map item (filter p (map entry ys)) ≡ map (λ z. item (entry z)) zs
    → map item (filter p (map entry (cond a (x ∷ ys) ys))) ≡ map (λ z. item (entry z)) (cond (b && a) (x ∷ zs) zs)
kept_step {X} {E} {T} entry item p x ys zs true true e h =
    ap (λ (c : Bool). map item (cond c (entry x ∷ filter p (map entry ys)) (filter p (map entry ys)))) e ∙ ap (λ (ts : List T). item (entry x) ∷ ts) h
kept_step entry item p x ys zs true false e h =
    ap (λ (c : Bool). map item (cond c (entry x ∷ filter p (map entry ys)) (filter p (map entry ys)))) e ∙ h
kept_step entry item p x ys zs false true e h = h
kept_step entry item p x ys zs false false e h = h

-- What is found among the entries of those of a list that pass a test.
pub kept_found : {X E T : Type 0} (entry : X → E) (item : E → T) (j k : X → Bool) (p : E → Bool) → ((x : X) → p (entry x) ≡ k x) → (xs : List X)
    → map item (filter p (map entry (filter j xs))) ≡ map (λ x. item (entry x)) (filter (λ x. k x && j x) xs)
kept_found entry item j k p same [] = refl
kept_found entry item j k p same (x ∷ xs) =
    kept_step entry item p x (filter j xs) (filter (λ z. k z && j z) xs) (j x) (k x) (same x) (kept_found entry item j k p same xs)
