-- Lists joined end to end, and lists of one element more.
use Rattle.std.proofs.Common.{◌≡◌, ◌⊎◌, inl, inr, ℕ, zero, suc, ◌+◌, ◌-◌, ◌<◌, ◌≤◌, List, [], ◌∷◌, ◌++◌, length, get_or, take, map, All, AllPairs, Contains, subst, refl, sym, ap, ◌∙◌, arith, length-append}
use Rattle.std.specs.List.{flat_map}
use Rattle.std.proofs.lemmas.Bool.{cases_lt}
use Rattle.std.proofs.lemmas.List.{get_or_append_left, get_or-append_right, get_or_default, get_or-map, length-map, take_more, take_all, length-take-le, get_or-take}
use Rattle.std.proofs.lemmas.List.Elements.{All-append, All-head, All-tail, All-nil, Contains-get_or, Contains-append_left, Contains-append_right, Contains-append_cases}

pub AllPairs-append : {X : Type 0} (R : X → X → Type 0) (xs ys : List X) → AllPairs R xs → AllPairs R ys → ((x y : X) → Contains xs x → Contains ys y → R x y) → AllPairs R (xs ++ ys)
AllPairs-append {X} R xs ys left right across i j d less within = by_place (cases_lt i (length xs)) (cases_lt j (length xs))
  where
    n : ℕ
    n = length xs

    long : length (xs ++ ys) ≡ n + length ys
    long = length-append xs ys

    by_place : ((i < n) ⊎ (n ≤ i)) → ((j < n) ⊎ (n ≤ j)) → R (get_or (xs ++ ys) i d) (get_or (xs ++ ys) j d)
    by_place (inl a) (inl b) = rw (get_or_append_left xs ys d i a, get_or_append_left xs ys d j b) (left i j d less b)
    by_place (inl a) (inr b) =
        let l : j - n < length ys = omega (arith, long) in
        rw (get_or_append_left xs ys d i a, get_or-append_right xs ys n j d refl b) (across (get_or xs i d) (get_or ys (j - n) d) (Contains-get_or xs i d a) (Contains-get_or ys (j - n) d l))
    by_place (inr a) (inl b) = absurd (omega arith)
    by_place (inr a) (inr b) = rw (get_or-append_right xs ys n i d refl a, get_or-append_right xs ys n j d refl b) (right (i - n) (j - n) d (omega arith) (omega (arith, long)))

pub AllPairs-tail : {X : Type 0} (R : X → X → Type 0) (x : X) (xs : List X) → AllPairs R (x ∷ xs) → AllPairs R xs
AllPairs-tail R x xs pairs i j d less within = pairs (suc i) (suc j) d (omega arith) (omega arith)

AllPairs-nil : {X : Type 0} (R : X → X → Type 0) → AllPairs R []
AllPairs-nil R i j d less within = absurd (omega arith)

pub AllPairs-map : {X Y : Type 0} (R : Y → Y → Type 0) (f : X → Y) (xs : List X) → AllPairs (λ a b. R (f a) (f b)) xs → AllPairs R (map f xs)
AllPairs-map {X} {Y} R f xs pairs i j d less within = by_list xs refl
  where
    long : length (map f xs) ≡ length xs
    long = length-map xs f

    by_list : (ys : List X) → ys ≡ xs → R (get_or (map f xs) i d) (get_or (map f xs) j d)
    by_list [] is = let none : length xs ≡ 0 = ap length (sym is) in absurd (omega (arith, none, long))
    by_list (e ∷ ys) is =
        let in_j : j < length xs = omega (arith, long) in
        let in_i : i < length xs = omega arith in
        rw (get_or-map f xs i e d in_i, get_or-map f xs j e d in_j) (pairs i j e less in_j)

pub Contains-head : {X : Type 0} (x : X) (xs : List X) → Contains (x ∷ xs) x
Contains-head x xs = (0, omega arith, refl)

pub Contains-tail : {X : Type 0} (x y : X) (xs : List X) → Contains xs y → Contains (x ∷ xs) y
Contains-tail x y xs w = (suc w.0, omega (arith, w.1), w.2)

pub Contains-cons : {X : Type 0} (x y : X) (xs : List X) → Contains (x ∷ xs) y → (x ≡ y) ⊎ Contains xs y
Contains-cons x y xs (zero, within, is) = inl is
Contains-cons x y xs (suc k, within, is) = inr (k, omega arith, is)

pub Contains-map : {X Y : Type 0} (f : X → Y) (xs : List X) (x : X) → Contains xs x → Contains (map f xs) (f x)
Contains-map f xs x w = (w.0, omega (arith, w.1, length-map xs f), get_or-map f xs w.0 x (f x) w.1 ∙ ap f w.2)

pub from_map : {X Y : Type 0} (f : X → Y) (xs : List X) (y : Y) → Contains (map f xs) y → (x : X) × Contains xs x × (f x ≡ y)
from_map {X} {Y} f [] y w = absurd (omega (arith, w.1))
from_map {X} {Y} f (e ∷ xs) y w =
    let long : length (map f (e ∷ xs)) ≡ length (e ∷ xs) = length-map (e ∷ xs) f in
    let within : w.0 < length (e ∷ xs) = omega (arith, w.1) in
    (get_or (e ∷ xs) w.0 e, Contains-get_or (e ∷ xs) w.0 e within, sym (get_or-map f (e ∷ xs) w.0 e y within) ∙ w.2)

pub All-flat_map : {X Y : Type 0} (P : Y → Type 0) (f : X → List Y) (xs : List X) → ((x : X) → Contains xs x → All P (f x)) → All P (flat_map f xs)
All-flat_map P f [] each = All-nil P
All-flat_map P f (x ∷ xs) each =
    All-append P (f x) (flat_map f xs) (each x (Contains-head x xs)) (All-flat_map P f xs (λ y has. each y (Contains-tail x y xs has)))

has_head : {X Y : Type 0} (f : X → List Y) (e x : X) (rest : List Y) (y : Y) → e ≡ x → Contains (f x) y → Contains (f e ++ rest) y
has_head f e x rest y is has = Contains-append_left (f e) rest y (subst (λ z. Contains (f z) y) (sym is) has)

pub Contains-flat_map : {X Y : Type 0} (f : X → List Y) (xs : List X) (x : X) (y : Y) → Contains xs x → Contains (f x) y → Contains (flat_map f xs) y
Contains-flat_map {X} {Y} f [] x y w has = absurd (omega (arith, w.1))
Contains-flat_map {X} {Y} f (e ∷ xs) x y w has =
    elim (Contains-cons e x xs w) [
      | inl is ↦ has_head f e x (flat_map f xs) y is has
      | inr more ↦ Contains-append_right (f e) (flat_map f xs) y (Contains-flat_map f xs x y more has)
    ]

pub from_flat_map : {X Y : Type 0} (f : X → List Y) (xs : List X) (y : Y) → Contains (flat_map f xs) y → (x : X) × Contains xs x × Contains (f x) y
from_flat_map {X} {Y} f [] y w = absurd (omega (arith, w.1))
from_flat_map {X} {Y} f (e ∷ xs) y w =
    elim (Contains-append_cases (f e) (flat_map f xs) y w) [
      | inl has ↦ (e, Contains-head e xs, has)
      | inr has ↦ let r = from_flat_map f xs y has in (r.0, Contains-tail e r.0 xs r.1, r.2)
    ]

pub AllPairs-flat_map : {X Y : Type 0} (R : Y → Y → Type 0) (S : X → X → Type 0) (f : X → List Y) (xs : List X) → AllPairs S xs → ((x : X) → Contains xs x → AllPairs R (f x))
    → ((a b : X) (y z : Y) → Contains xs a → Contains xs b → S a b → Contains (f a) y → Contains (f b) z → R y z) → AllPairs R (flat_map f xs)
AllPairs-flat_map {X} {Y} R S f [] pairs each across = AllPairs-nil R
AllPairs-flat_map {X} {Y} R S f (x ∷ xs) pairs each across =
    AllPairs-append R (f x) (flat_map f xs) (each x (Contains-head x xs))
    (AllPairs-flat_map R S f xs (AllPairs-tail S x xs pairs) (λ y has. each y (Contains-tail x y xs has))
    (λ a b y z a_is b_is. across a b y z (Contains-tail x a xs a_is) (Contains-tail x b xs b_is)))
    (λ y z has_y has_z.
    let r = from_flat_map f xs z has_z in
    let less : S x r.0 = before r.0 r.1 in
    across x r.0 y z (Contains-head x xs) (Contains-tail x r.0 xs r.1) less has_y r.2)
  where
    before : (b : X) → Contains xs b → S x b
    before b w = subst (S x) w.2 (pairs 0 (suc w.0) b (omega arith) (omega (arith, w.1)))

-- a list that has an element is all but its last, and its last
pub split_last : {X : Type 0} (xs : List X) (d : X) → 0 < length xs → xs ≡ take (length xs - 1) xs ++ get_or xs (length xs - 1) d ∷ []
split_last xs d some =
    let at : length xs - 1 < length xs = omega arith in
    let n : length xs - 1 + 1 ≡ length xs = omega arith in
    sym (take_all (length xs) xs (omega arith)) ∙ ap (λ k. take k xs) (sym n) ∙ take_more xs (length xs - 1) d at

-- a list of one element
pub one_alone : {X : Type 0} (xs : List X) (d : X) → length xs ≡ 1 → xs ≡ get_or xs 0 d ∷ []
one_alone [] d one = absurd (omega arith)
one_alone (x ∷ []) d one = refl
one_alone (x ∷ y ∷ xs) d one = absurd (omega arith)

pub get_or_last : {X : Type 0} (xs : List X) (x d : X) (k : ℕ) → k ≡ length xs → get_or (xs ++ x ∷ []) k d ≡ x
get_or_last xs x d k is =
    let none : k - length xs ≡ 0 = omega arith in
    get_or-append_right xs (x ∷ []) (length xs) k d refl (omega arith) ∙ ap (λ n. get_or (x ∷ []) n d) none

pub length_more : {X : Type 0} (xs : List X) (x : X) → length (xs ++ x ∷ []) ≡ length xs + 1
length_more xs x = length-append xs (x ∷ []) ∙ omega arith
