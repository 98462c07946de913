-- The least number with a property, over a list that grows.
use Rattle.std.proofs.Common.{◌≡◌, ℕ, ◌+◌, ◌<◌, ◌≤◌, ◌⊎◌, inl, inr, ◌↔◌, List, length, get_or, take, Option, Some, None, refl, sym, ap, ◌∙◌, subst, arith, min}
use Rattle.std.proofs.lemmas.Bool.{cases_lt}
use Rattle.grid_pieces.specs.Piece.{Among}
use Rattle.grid_pieces.specs.Laws.Amongst.{Among-more, Among-none}
use Rattle.grid_taps.specs.Naming.{IsLeast, IsFirst}
use Rattle.grid_taps.specs.inside.Steps.{lesser, NumberAmong}

-- of two properties
pub first_either : (P Q : ℕ → Type 0) (a b : Option ℕ) → IsFirst P a → IsFirst Q b → IsFirst (λ n. P n ⊎ Q n) (lesser a b)
first_either P Q None None p q = λ n. none n
  where
    none : (n : ℕ) → P n ⊎ Q n → ⊥
    none n (inl h) = p n h
    none n (inr h) = q n h
first_either P Q None (Some b) p q = record { is = inr q.is; least = λ m. least m }
  where
    least : (m : ℕ) → P m ⊎ Q m → b ≤ m
    least m (inl h) = absurd (p m h)
    least m (inr h) = q.least m h
first_either P Q (Some a) None p q = record { is = inl p.is; least = λ m. least m }
  where
    least : (m : ℕ) → P m ⊎ Q m → a ≤ m
    least m (inl h) = p.least m h
    least m (inr h) = absurd (q m h)
first_either P Q (Some a) (Some b) p q = by_order (cases_lt a b)
  where
    least : (m : ℕ) → P m ⊎ Q m → min a b ≤ m
    least m (inl h) = let low = p.least m h in omega arith
    least m (inr h) = let low = q.least m h in omega arith

    by_order : (a < b) ⊎ (b ≤ a) → IsLeast (λ n. P n ⊎ Q n) (min a b)
    by_order (inl le) = let same : a ≡ min a b = omega arith in
        record { is = inl (subst P same p.is); least = λ m. least m }
    by_order (inr le) = let same : b ≡ min a b = omega arith in
        record { is = inr (subst Q same q.is); least = λ m. least m }

-- the same of another form of the property
pub first_same : (P Q : ℕ → Type 0) → ((n : ℕ) → P n → Q n) → ((n : ℕ) → Q n → P n) → (a : Option ℕ) → IsFirst P a → IsFirst Q a
first_same P Q there back None none = λ n h. none n (back n h)
first_same P Q there back (Some a) first = record { is = there a first.is; least = λ m h. first.least m (back m h) }

-- of nothing
pub first_none : {X : Type 0} (number_of : X → ℕ) (P : X → Type 0) (xs : List X) → IsFirst (NumberAmong number_of P (take 0 xs)) None
first_none {X} number_of P xs = λ n h. Among-none (λ (x : X). (number_of x ≡ n) × P x) h

-- one more that has the property
pub first_more : {X : Type 0} (number_of : X → ℕ) (P : X → Type 0) (xs : List X) (i : ℕ) (d : X) (a : Option ℕ) → i < length xs
    → IsFirst (NumberAmong number_of P (take i xs)) a → P (get_or xs i d)
    → IsFirst (NumberAmong number_of P (take (i + 1) xs)) (lesser a (Some (number_of (get_or xs i d))))
first_more {X} number_of P xs i d a within before has =
    first_same (λ n. NumberAmong number_of P (take i xs) n ⊎ (number_of x ≡ n)) (NumberAmong number_of P (take (i + 1) xs)) there back
    (lesser a (Some (number_of x)))
    (first_either (NumberAmong number_of P (take i xs)) (λ n. number_of x ≡ n) a (Some (number_of x)) before
    (record { is = refl; least = λ m same. omega (arith, same) }))
  where
    x : X
    x = get_or xs i d

    more : (n : ℕ) → Among (λ (y : X). (number_of y ≡ n) × P y) (take (i + 1) xs)
        ↔ (Among (λ (y : X). (number_of y ≡ n) × P y) (take i xs) ⊎ ((number_of (get_or xs i d) ≡ n) × P (get_or xs i d)))
    more n = Among-more (λ (y : X). (number_of y ≡ n) × P y) xs i d within

    with_it : (n : ℕ) → NumberAmong number_of P (take i xs) n ⊎ (number_of x ≡ n)
        → NumberAmong number_of P (take i xs) n ⊎ ((number_of x ≡ n) × P x)
    with_it n (inl h) = inl h
    with_it n (inr same) = inr (same, has)

    there : (n : ℕ) → NumberAmong number_of P (take i xs) n ⊎ (number_of x ≡ n) → NumberAmong number_of P (take (i + 1) xs) n
    there n h = (more n).1 (with_it n h)

    without : (n : ℕ) → NumberAmong number_of P (take i xs) n ⊎ ((number_of x ≡ n) × P x)
        → NumberAmong number_of P (take i xs) n ⊎ (number_of x ≡ n)
    without n (inl h) = inl h
    without n (inr h) = inr h.0

    back : (n : ℕ) → NumberAmong number_of P (take (i + 1) xs) n → NumberAmong number_of P (take i xs) n ⊎ (number_of x ≡ n)
    back n h = without n ((more n).0 h)

-- one more that has it not
pub first_kept : {X : Type 0} (number_of : X → ℕ) (P : X → Type 0) (xs : List X) (i : ℕ) (d : X) (a : Option ℕ) → i < length xs
    → IsFirst (NumberAmong number_of P (take i xs)) a → (P (get_or xs i d) → ⊥)
    → IsFirst (NumberAmong number_of P (take (i + 1) xs)) a
first_kept {X} number_of P xs i d a within before none =
    first_same (NumberAmong number_of P (take i xs)) (NumberAmong number_of P (take (i + 1) xs)) (λ n h. (more n).1 (inl h)) (λ n h. without n ((more n).0 h)) a before
  where
    more : (n : ℕ) → Among (λ (y : X). (number_of y ≡ n) × P y) (take (i + 1) xs)
        ↔ (Among (λ (y : X). (number_of y ≡ n) × P y) (take i xs) ⊎ ((number_of (get_or xs i d) ≡ n) × P (get_or xs i d)))
    more n = Among-more (λ (y : X). (number_of y ≡ n) × P y) xs i d within

    without : (n : ℕ) → NumberAmong number_of P (take i xs) n ⊎ ((number_of (get_or xs i d) ≡ n) × P (get_or xs i d))
        → NumberAmong number_of P (take i xs) n
    without n (inl h) = h
    without n (inr h) = absurd (none h.1)

-- the same of the element that stands there, with its number
pub more_at : {X : Type 0} (number_of : X → ℕ) (P : X → Type 0) (xs : List X) (i : ℕ) (x : X) (n : ℕ) (a : Option ℕ) → i < length xs → x ≡ get_or xs i x
    → n ≡ number_of x → IsFirst (NumberAmong number_of P (take i xs)) a → P x → IsFirst (NumberAmong number_of P (take (i + 1) xs)) (lesser a (Some n))
more_at {X} number_of P xs i x n a within is number before has =
    subst (λ m. IsFirst (NumberAmong number_of P (take (i + 1) xs)) (lesser a (Some m))) (ap number_of (sym is) ∙ sym number)
    (first_more number_of P xs i x a within before (subst P is has))

pub kept_at : {X : Type 0} (number_of : X → ℕ) (P : X → Type 0) (xs : List X) (i : ℕ) (x : X) (a : Option ℕ) → i < length xs → x ≡ get_or xs i x
    → IsFirst (NumberAmong number_of P (take i xs)) a → (P x → ⊥) → IsFirst (NumberAmong number_of P (take (i + 1) xs)) a
kept_at {X} number_of P xs i x a within is before none = first_kept number_of P xs i x a within before (λ h. none (subst P (sym is) h))
