-- Some of a list has a property: lists with one more element, and the cells that runs hold beside it.
use Rattle.std.proofs.Common.{◌≡◌, ℕ, zero, suc, ◌+◌, ◌<◌, ◌↔◌, ◌⊎◌, inl, inr, ℤ, Bool, true, false, cond, IsTrue, Option, Some, None, List, [], ◌∷◌, ◌++◌, length, get_or, take, map, filter, Contains, subst, refl, sym, ap, ◌∙◌, arith}
use Rattle.std.specs.List.{filter_map, cons_option}
use Rattle.std.specs.List.Sorted.{IsPermutation}
use Rattle.std.proofs.lemmas.Bool.{false≢true}
use Rattle.std.proofs.lemmas.List.Sorted.{IsPermutation-sym, Contains-permutation}
use Rattle.std.proofs.lemmas.List.{take_more, get_or-map, length-map}
use Rattle.std.proofs.lemmas.List.Elements.{Contains-push, Contains-push_cases, Contains-append_left}
use Rattle.geom_rect.specs.declared.run.Run.{Run}
use Rattle.geom_rect.specs.Run.{HasCell, IsHeld}
use Rattle.grid_pieces.specs.Piece.{Among}

pub Among-push : {X : Type 0} (P : X → Type 0) (xs : List X) (y : X) → Among P (xs ++ y ∷ []) ↔ (Among P xs ⊎ P y)
Among-push {X} P xs y = (split, joined)
  where
    by_place : (x : X) → P x → Contains xs x ⊎ (y ≡ x) → Among P xs ⊎ P y
    by_place x has (inl front) = inl (x, front, has)
    by_place x has (inr is) = inr (subst P (sym is) has)

    split : Among P (xs ++ y ∷ []) → Among P xs ⊎ P y
    split w = by_place w.0 w.2 (Contains-push_cases xs y w.0 w.1)

    joined : Among P xs ⊎ P y → Among P (xs ++ y ∷ [])
    joined (inl w) = (w.0, Contains-append_left xs (y ∷ []) w.0 w.1, w.2)
    joined (inr has) = (y, Contains-push xs y, has)

pub Among-more : {X : Type 0} (P : X → Type 0) (xs : List X) (i : ℕ) (d : X) → i < length xs → Among P (take (i + 1) xs) ↔ (Among P (take i xs) ⊎ P (get_or xs i d))
Among-more P xs i d within =
    subst (λ ys. Among P ys ↔ (Among P (take i xs) ⊎ P (get_or xs i d))) (sym (take_more xs i d within)) (Among-push P (take i xs) (get_or xs i d))

pub Among-none : {X : Type 0} (P : X → Type 0) → Among P [] → ⊥
Among-none P w = absurd (omega (arith, w.1.1))

-- at each one, the property gives the other
pub Among-weaker : {X : Type 0} (P Q : X → Type 0) (xs : List X) → ((x : X) → P x → Q x) → Among P xs → Among Q xs
Among-weaker P Q xs gives w = (w.0, w.1, gives w.0 w.2)

or_iff : (A B C D : Type 0) → A ↔ C → B ↔ D → (A ⊎ B) ↔ (C ⊎ D)
or_iff A B C D ac bd = (there, back)
  where
    there : A ⊎ B → C ⊎ D
    there (inl a) = inl (ac.0 a)
    there (inr b) = inr (bd.0 b)

    back : C ⊎ D → A ⊎ B
    back (inl c) = inl (ac.1 c)
    back (inr d) = inr (bd.1 d)

-- no cell is held at the start
pub held_none : {X : Type 0} (P : X → ℤ → Type 0) (xs : List X) → (t : ℤ) → IsHeld [] t ↔ Among (λ x. P x t) (take 0 xs)
held_none P xs t = (λ w. absurd (omega (arith, w.1.1)), λ w. absurd (omega (arith, w.1.1)))

-- one more element, with the cells of one more run
pub held_pushed : {X : Type 0} (P : X → ℤ → Type 0) (xs : List X) (i : ℕ) (d : X) (runs : List Run) (run : Run) → i < length xs
    → ((t : ℤ) → HasCell run t ↔ P (get_or xs i d) t)
    → ((t : ℤ) → IsHeld runs t ↔ Among (λ x. P x t) (take i xs)) → (t : ℤ) → IsHeld (runs ++ run ∷ []) t ↔ Among (λ x. P x t) (take (i + 1) xs)
held_pushed P xs i d runs run within same held t =
    let pushed = Among-push (λ (r : Run). HasCell r t) runs run in
    let more = Among-more (λ x. P x t) xs i d within in
    let both = or_iff (IsHeld runs t) (HasCell run t) (Among (λ x. P x t) (take i xs)) (P (get_or xs i d) t) (held t) (same t) in
    (λ w. more.1 (both.0 (pushed.0 w)), λ w. pushed.1 (both.1 (more.0 w)))

-- one more element, without cells
pub held_kept : {X : Type 0} (P : X → ℤ → Type 0) (xs : List X) (i : ℕ) (d : X) (runs : List Run) → i < length xs → ((t : ℤ) → P (get_or xs i d) t → ⊥)
    → ((t : ℤ) → IsHeld runs t ↔ Among (λ x. P x t) (take i xs)) → (t : ℤ) → IsHeld runs t ↔ Among (λ x. P x t) (take (i + 1) xs)
held_kept {X} P xs i d runs within none held t = (λ w. more.1 (inl ((held t).0 w)), λ w. (held t).1 (front (more.0 w)))
  where
    more : Among (λ x. P x t) (take (i + 1) xs) ↔ (Among (λ x. P x t) (take i xs) ⊎ P (get_or xs i d) t)
    more = Among-more (λ x. P x t) xs i d within

    front : Among (λ x. P x t) (take i xs) ⊎ P (get_or xs i d) t → Among (λ x. P x t) (take i xs)
    front (inl w) = w
    front (inr has) = absurd (none t has)

-- some of the images has the property: some of the list has it of its image
pub Among-map : {X Y : Type 0} (f : X → Y) (P : Y → Type 0) (xs : List X) → Among P (map f xs) ↔ Among (λ x. P (f x)) xs
Among-map {X} {Y} f P xs = (there xs, back)
  where
    first : (ys : List X) (y : X) → P (f y) → Among (λ x. P (f x)) (y ∷ ys)
    first ys y has = (y, (0, omega arith, refl), has)

    behind : (ys : List X) (y : X) → Among (λ x. P (f x)) ys → Among (λ x. P (f x)) (y ∷ ys)
    behind ys y w = (w.0, (suc w.1.0, omega (arith, w.1.1), w.1.2), w.2)

    there : (ys : List X) → Among P (map f ys) → Among (λ x. P (f x)) ys
    there [] w = absurd (omega (arith, w.1.1))
    there (y ∷ ys) (z, (zero, within, is), has) = first ys y (subst P (sym is) has)
    there (y ∷ ys) (z, (suc k, within, is), has) = behind ys y (there ys (z, (k, omega arith, is), has))

    back : Among (λ x. P (f x)) xs → Among P (map f xs)
    back w =
        let k = w.1.0 in
        let within : k < length xs = w.1.1 in
        let at : get_or (map f xs) k (f w.0) ≡ f w.0 = get_or-map f xs k w.0 (f w.0) within ∙ ap f w.1.2 in
        (f w.0, (k, omega (arith, length-map xs f), at), w.2)

pub Among-cons : {X : Type 0} (P : X → Type 0) (x : X) (xs : List X) → Among P (x ∷ xs) ↔ (P x ⊎ Among P xs)
Among-cons {X} P x xs = (there, back)
  where
    there : Among P (x ∷ xs) → P x ⊎ Among P xs
    there (z, (zero, within, is), has) = inl (subst P (sym is) has)
    there (z, (suc k, within, is), has) = inr (z, (k, omega arith, is), has)

    back : P x ⊎ Among P xs → Among P (x ∷ xs)
    back (inl has) = (x, (0, omega arith, refl), has)
    back (inr w) = (w.0, (suc w.1.0, omega (arith, w.1.1), w.1.2), w.2)

-- an element that the test passes, before others of which this is known
filter_step : {X : Type 0} (test : X → Bool) (P : X → Type 0) (x : X) (xs ys : List X) → Among P ys ↔ Among (λ x. IsTrue (test x) × P x) xs
    → (b : Bool) → b ≡ test x → Among P (cond b (x ∷ ys) ys) ↔ Among (λ x. IsTrue (test x) × P x) (x ∷ xs)
filter_step {X} test P x xs ys rest true is = (λ w. all.1 (there (front.0 w)), λ w. front.1 (back (all.0 w)))
  where
    front : Among P (x ∷ ys) ↔ (P x ⊎ Among P ys)
    front = Among-cons P x ys

    all : Among (λ x. IsTrue (test x) × P x) (x ∷ xs) ↔ ((IsTrue (test x) × P x) ⊎ Among (λ x. IsTrue (test x) × P x) xs)
    all = Among-cons (λ x. IsTrue (test x) × P x) x xs

    there : P x ⊎ Among P ys → (IsTrue (test x) × P x) ⊎ Among (λ x. IsTrue (test x) × P x) xs
    there (inl has) = inl (sym is, has)
    there (inr w) = inr (rest.0 w)

    back : (IsTrue (test x) × P x) ⊎ Among (λ x. IsTrue (test x) × P x) xs → P x ⊎ Among P ys
    back (inl has) = inl has.1
    back (inr w) = inr (rest.1 w)
filter_step {X} test P x xs ys rest false is = (λ w. all.1 (inr (rest.0 w)), λ w. back (all.0 w))
  where
    all : Among (λ x. IsTrue (test x) × P x) (x ∷ xs) ↔ ((IsTrue (test x) × P x) ⊎ Among (λ x. IsTrue (test x) × P x) xs)
    all = Among-cons (λ x. IsTrue (test x) × P x) x xs

    back : (IsTrue (test x) × P x) ⊎ Among (λ x. IsTrue (test x) × P x) xs → Among P ys
    back (inl has) = absurd (false≢true (is ∙ has.0))
    back (inr w) = rest.1 w

-- some that passes the test has the property
pub Among-filter : {X : Type 0} (test : X → Bool) (P : X → Type 0) (xs : List X) → Among P (filter test xs) ↔ Among (λ x. IsTrue (test x) × P x) xs
Among-filter test P [] = (λ w. absurd (omega (arith, w.1.1)), λ w. absurd (omega (arith, w.1.1)))
Among-filter test P (x ∷ xs) = filter_step test P x xs (filter test xs) (Among-filter test P xs) (test x) refl

-- nothing is no value
Given : {Y : Type 0} → Option Y → Type 0
Given None = Unit {0}
Given (Some y) = ⊥

pub none_is_no_value : {Y : Type 0} (y : Y) → None ≡ Some y → ⊥
unfolding Given
none_is_no_value y e = subst Given e tt

value_or : {Y : Type 0} → Y → Option Y → Y
value_or d None = d
value_or d (Some y) = y

-- two that are the same value
pub same_value : {Y : Type 0} (y z : Y) → Some y ≡ Some z → y ≡ z
unfolding value_or
same_value y z e = ap (value_or y) e

-- an element that gives a value, or gives none
filter_map_step : {X Y : Type 0} (h : X → Option Y) (P : Y → Type 0) (x : X) (xs : List X) (ys : List Y) → Among P ys ↔ Among (λ x. (y : Y) × (h x ≡ Some y) × P y) xs
    → (o : Option Y) → h x ≡ o → Among P (cons_option o ys) ↔ Among (λ x. (y : Y) × (h x ≡ Some y) × P y) (x ∷ xs)
filter_map_step {X} {Y} h P x xs ys rest (Some z) is = (λ w. all.1 (there (front.0 w)), λ w. front.1 (back (all.0 w)))
  where
    front : Among P (z ∷ ys) ↔ (P z ⊎ Among P ys)
    front = Among-cons P z ys

    all : Among (λ x. (y : Y) × (h x ≡ Some y) × P y) (x ∷ xs) ↔ (((y : Y) × (h x ≡ Some y) × P y) ⊎ Among (λ x. (y : Y) × (h x ≡ Some y) × P y) xs)
    all = Among-cons (λ x. (y : Y) × (h x ≡ Some y) × P y) x xs

    there : P z ⊎ Among P ys → ((y : Y) × (h x ≡ Some y) × P y) ⊎ Among (λ x. (y : Y) × (h x ≡ Some y) × P y) xs
    there (inl has) = inl (z, is, has)
    there (inr w) = inr (rest.0 w)

    back : ((y : Y) × (h x ≡ Some y) × P y) ⊎ Among (λ x. (y : Y) × (h x ≡ Some y) × P y) xs → P z ⊎ Among P ys
    back (inl has) = inl (subst P (same_value has.0 z (sym has.1 ∙ is)) has.2)
    back (inr w) = inr (rest.1 w)
filter_map_step {X} {Y} h P x xs ys rest None is = (λ w. all.1 (inr (rest.0 w)), λ w. back (all.0 w))
  where
    all : Among (λ x. (y : Y) × (h x ≡ Some y) × P y) (x ∷ xs) ↔ (((y : Y) × (h x ≡ Some y) × P y) ⊎ Among (λ x. (y : Y) × (h x ≡ Some y) × P y) xs)
    all = Among-cons (λ x. (y : Y) × (h x ≡ Some y) × P y) x xs

    back : ((y : Y) × (h x ≡ Some y) × P y) ⊎ Among (λ x. (y : Y) × (h x ≡ Some y) × P y) xs → Among P ys
    back (inl has) = absurd (none_is_no_value has.0 (sym is ∙ has.1))
    back (inr w) = rest.1 w

-- some of what is given has the property
pub Among-filter_map : {X Y : Type 0} (h : X → Option Y) (P : Y → Type 0) (xs : List X) → Among P (filter_map h xs)
    ↔ Among (λ x. (y : Y) × (h x ≡ Some y) × P y) xs
Among-filter_map h P [] = (λ w. absurd (omega (arith, w.1.1)), λ w. absurd (omega (arith, w.1.1)))
Among-filter_map h P (x ∷ xs) = filter_map_step h P x xs (filter_map h xs) (Among-filter_map h P xs) (h x) refl

-- a permutation of a list has some with the property where the list has
pub Among-permutation : {X : Type 0} (P : X → Type 0) (xs ys : List X) → IsPermutation xs ys → Among P ys ↔ Among P xs
Among-permutation P xs ys moved = (
  λ w. (w.0, Contains-permutation ys xs w.0 (IsPermutation-sym xs ys moved) w.1, w.2),
  λ w. (w.0, Contains-permutation xs ys w.0 moved w.1, w.2),
)

-- the property may be given in another form
pub Among-same : {X : Type 0} (P Q : X → Type 0) (xs : List X) → ((x : X) → P x ↔ Q x) → Among P xs ↔ Among Q xs
Among-same P Q xs same = (λ w. (w.0, w.1, (same w.0).0 w.2), λ w. (w.0, w.1, (same w.0).1 w.2))
