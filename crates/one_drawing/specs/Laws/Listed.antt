-- Lists that an order sorts are one where they have the same elements, and a list whose elements differ is no longer than
-- one that has them all.
use Rattle.std.proofs.Common.{◌≡◌, ◌≢◌, zero, suc, ◌+◌, ◌≤◌, ◌⊎◌, inl, inr, List, [], ◌∷◌, map, length, get_or, AllPairs, Contains, subst, refl, sym, ap, ◌∙◌, arith}
use Rattle.std.proofs.lemmas.List.Elements.{All-map}
use Rattle.std.proofs.lemmas.List.Kept.{AllPairs-cons}

-- ## the first of a list and the others

pub has_first : {X : Type 0} (x : X) (xs : List X) → Contains (x ∷ xs) x
has_first x xs = (0, omega arith, refl)

pub has_later : {X : Type 0} (x : X) (xs : List X) (y : X) → Contains xs y → Contains (x ∷ xs) y
has_later x xs y (k, within, is) = (suc k, omega arith, is)

pub has_cases : {X : Type 0} (x : X) (xs : List X) (y : X) → Contains (x ∷ xs) y → (y ≡ x) ⊎ Contains xs y
has_cases x xs y (zero, within, is) = inl (sym is)
has_cases x xs y (suc k, within, is) = inr (k, omega arith, is)

pub has_none : {X : Type 0} (y : X) → Contains [] y → ⊥
has_none y has = absurd (omega (arith, has.1))

pub pairs_later : {X : Type 0} (R : X → X → Type 0) (x : X) (xs : List X) → AllPairs R (x ∷ xs) → AllPairs R xs
pairs_later R x xs pairs i j d less within = pairs (suc i) (suc j) d (omega arith) (omega arith)

pub pairs_first : {X : Type 0} (R : X → X → Type 0) (x : X) (xs : List X) → AllPairs R (x ∷ xs) → (y : X) → Contains xs y → R x y
pairs_first R x xs pairs y (k, within, is) = subst (R x) is (pairs 0 (suc k) y (omega arith) (omega arith))

-- ## images

pub pairs_map : {X Y : Type 0} (f : X → Y) (R : Y → Y → Type 0) (xs : List X) → AllPairs (λ (a b : X). R (f a) (f b)) xs → AllPairs R (map f xs)
pairs_map f R [] pairs = λ i j d less within. absurd (omega arith)
pairs_map {X} f R (x ∷ xs) pairs =
    AllPairs-cons R (f x) (map f xs) (All-map (R (f x)) f xs (λ k d within. pairs 0 (suc k) d (omega arith) (omega arith)))
    (pairs_map f R xs (pairs_later (λ (a b : X). R (f a) (f b)) x xs pairs))

-- ## sorted lists

-- An order that never goes both ways sorts the elements of a list in one way.
pub same_list : {X : Type 0} (R : X → X → Type 0) → ((a b : X) → R a b → R b a → ⊥) → (xs ys : List X) → AllPairs R xs → AllPairs R ys
    → ((x : X) → Contains xs x → Contains ys x) → ((x : X) → Contains ys x → Contains xs x) → xs ≡ ys
same_list R one_way [] [] xp yp there back = refl
same_list R one_way [] (y ∷ ys) xp yp there back = absurd (has_none y (back y (has_first y ys)))
same_list R one_way (x ∷ xs) [] xp yp there back = absurd (has_none x (there x (has_first x xs)))
same_list {X} R one_way (x ∷ xs) (y ∷ ys) xp yp there back =
    ap (λ z. z ∷ xs) same
    ∙ ap (λ zs. y ∷ zs)
    (same_list R one_way xs ys (pairs_later R x xs xp) (pairs_later R y ys yp)
    (λ z has. later_there z has (has_cases y ys z (there z (has_later x xs z has))))
    (λ z has. later_back z has (has_cases x xs z (back z (has_later y ys z has)))))
  where
    heads : (x ≡ y) ⊎ Contains ys x → (y ≡ x) ⊎ Contains xs y → x ≡ y
    heads (inl e) _ = e
    heads (inr _) (inl e) = sym e
    heads (inr h) (inr k) = absurd (one_way x y (pairs_first R x xs xp y k) (pairs_first R y ys yp x h))

    same : x ≡ y
    same = heads (has_cases y ys x (there x (has_first x xs))) (has_cases x xs y (back y (has_first y ys)))

    later_there : (z : X) → Contains xs z → (z ≡ y) ⊎ Contains ys z → Contains ys z
    later_there z has (inr k) = k
    later_there z has (inl e) =
        let before : R x z = pairs_first R x xs xp z has in
        let itself : R x x = subst (R x) (e ∙ sym same) before in
        absurd (one_way x x itself itself)

    later_back : (z : X) → Contains ys z → (z ≡ x) ⊎ Contains xs z → Contains xs z
    later_back z has (inr k) = k
    later_back z has (inl e) =
        let before : R y z = pairs_first R y ys yp z has in
        let itself : R y y = subst (R y) (e ∙ same) before in
        absurd (one_way y y itself itself)

-- Its elements differ.
pub sorted_differ : {X : Type 0} (R : X → X → Type 0) → ((a b : X) → R a b → R b a → ⊥) → (xs : List X) → AllPairs R xs → AllPairs (λ (a b : X). a ≢ b) xs
sorted_differ R one_way xs pairs i j d less within same =
    let before = pairs i j d less within in
    let itself : R (get_or xs j d) (get_or xs j d) = subst (λ x. R x (get_or xs j d)) same before in
    one_way (get_or xs j d) (get_or xs j d) itself itself

-- ## lengths

-- The other list is one element shorter, and has all elements of this one but for that one.
abbrev IsWithout : {X : Type 0} → X → List X → List X → Type 0
IsWithout {X} x ys rest = (length ys ≡ length rest + 1) × ((y : X) → Contains ys y → (y ≡ x) ⊎ Contains rest y)

without_later : {X : Type 0} (x y : X) (ys rest : List X) → IsWithout x ys rest → IsWithout x (y ∷ ys) (y ∷ rest)
without_later {X} x y ys rest without = (omega (arith, without.0), λ z has. by_place z (has_cases y ys z has))
  where
    behind : (z : X) → (z ≡ x) ⊎ Contains rest z → (z ≡ x) ⊎ Contains (y ∷ rest) z
    behind z (inl e) = inl e
    behind z (inr has) = inr (has_later y rest z has)

    by_place : (z : X) → (z ≡ y) ⊎ Contains ys z → (z ≡ x) ⊎ Contains (y ∷ rest) z
    by_place z (inl e) = inr (subst (Contains (y ∷ rest)) (sym e) (has_first y rest))
    by_place z (inr has) = behind z (without.1 z has)

take_out : {X : Type 0} (x : X) (ys : List X) → Contains ys x → (rest : List X) × IsWithout x ys rest
take_out x [] has = absurd (has_none x has)
take_out {X} x (y ∷ ys) (zero, within, is) = (ys, (omega arith, λ z has. by_place z (has_cases y ys z has)))
  where
    by_place : (z : X) → (z ≡ y) ⊎ Contains ys z → (z ≡ x) ⊎ Contains ys z
    by_place z (inl e) = inl (e ∙ is)
    by_place z (inr has) = inr has
take_out x (y ∷ ys) (suc k, within, is) = let more = take_out x ys (k, omega arith, is) in (y ∷ more.0, without_later x y ys more.0 more.1)

pub no_longer : {X : Type 0} (xs ys : List X) → AllPairs (λ (a b : X). a ≢ b) xs → ((x : X) → Contains xs x → Contains ys x) → length xs ≤ length ys
no_longer [] ys differ each = omega arith
no_longer {X} (x ∷ xs) ys differ each =
    let rest : length xs ≤ length out.0 =
    no_longer xs out.0 (pairs_later (λ (a b : X). a ≢ b) x xs differ) (λ y has. other y has (out.1.1 y (each y (has_later x xs y has)))) in
    omega (arith, out.1.0)
  where
    out : (rest : List X) × IsWithout x ys rest
    out = take_out x ys (each x (has_first x xs))

    other : (y : X) → Contains xs y → (y ≡ x) ⊎ Contains out.0 y → Contains out.0 y
    other y has (inl e) = absurd (pairs_first (λ (a b : X). a ≢ b) x xs differ y has (sym e))
    other y has (inr k) = k
