-- One more of a list that is joined of parts.
use Rattle.std.proofs.Common.{◌≡◌, ℕ, zero, suc, ◌+◌, ◌<◌, ◌≤◌, Bool, true, false, cond, List, [], ◌∷◌, ◌++◌, All, filter, take, length, get_or, refl, sym, ap, ◌∙◌, append_assoc, arith}
use Rattle.std.specs.List.{flat_map, range_with_len}
use Rattle.std.proofs.lemmas.List.{append-nil, take_more}
use Rattle.std.proofs.lemmas.List.Concat.{flat_map-append}
use Rattle.std.proofs.lemmas.List.Elements.{All-nil, All-cons, All-append, All-head, All-tail, filter_more}

pub flat_more : {X A : Type 0} (f : X → List A) (xs : List X) (i : ℕ) (d : X) (old before after : List A) → i < length xs
    → before ≡ old ++ flat_map f (take i xs) → after ≡ before ++ f (get_or xs i d) → after ≡ old ++ flat_map f (take (i + 1) xs)
flat_more f xs i d old before after within are joined =
    let one : flat_map f (take (i + 1) xs) ≡ flat_map f (take i xs) ++ f (get_or xs i d) =
    ap (flat_map f) (take_more xs i d within) ∙ flat_map-append f (take i xs) (get_or xs i d ∷ [])
    ∙ ap (λ ys. flat_map f (take i xs) ++ ys) (append-nil (f (get_or xs i d))) in
    joined ∙ ap (λ ys. ys ++ f (get_or xs i d)) are ∙ append_assoc old (flat_map f (take i xs)) (f (get_or xs i d)) ∙ ap (λ ys. old ++ ys) (sym one)

chosen : {X A : Type 0} (f : X → List A) (b : Bool) (x : X) → flat_map f (cond b (x ∷ []) []) ≡ cond b (f x) []
chosen f true x = append-nil (f x)
chosen f false x = refl

-- Of those that pass a test.
pub flat_passed : {X A : Type 0} (f : X → List A) (p : X → Bool) (xs : List X) (i : ℕ) (d : X) (old before after : List A) → i < length xs
    → before ≡ old ++ flat_map f (filter p (take i xs)) → after ≡ before ++ cond (p (get_or xs i d)) (f (get_or xs i d)) []
    → after ≡ old ++ flat_map f (filter p (take (i + 1) xs))
flat_passed f p xs i d old before after within are joined =
    let x = get_or xs i d in
    let done = filter p (take i xs) in
    let one : flat_map f (filter p (take (i + 1) xs)) ≡ flat_map f done ++ cond (p x) (f x) [] =
    ap (flat_map f) (filter_more p xs i d within) ∙ flat_map-append f done (cond (p x) (x ∷ []) [])
    ∙ ap (λ ys. flat_map f done ++ ys) (chosen f (p x) x) in
    joined ∙ ap (λ ys. ys ++ cond (p x) (f x) []) are ∙ append_assoc old (flat_map f done) (cond (p x) (f x) []) ∙ ap (λ ys. old ++ ys) (sym one)

-- What holds of each part.
pub All-flat_map : {X Y : Type 0} (Q : X → Type 0) (P : Y → Type 0) (f : X → List Y) → ((x : X) → Q x → All P (f x)) → (xs : List X) → All Q xs
    → All P (flat_map f xs)
All-flat_map Q P f each [] all = All-nil P
All-flat_map Q P f each (x ∷ xs) all =
    All-append P (f x) (flat_map f xs) (each x (All-head Q x xs all)) (All-flat_map Q P f each xs (All-tail Q x xs all))

pub numbers_below : (a n m : ℕ) → a + n ≤ m → All (λ (k : ℕ). k < m) (range_with_len a n)
numbers_below a zero m few = All-nil (λ (k : ℕ). k < m)
numbers_below a (suc n) m few =
    All-cons (λ (k : ℕ). k < m) a (range_with_len (a + 1) n) (omega arith) (numbers_below (a + 1) n m (omega arith))

pub all_four : {X : Type 0} (P : X → Type 0) (a b c d : X) → P a → P b → P c → P d → All P (a ∷ b ∷ c ∷ d ∷ [])
all_four P a b c d is_a is_b is_c is_d =
    All-cons P a (b ∷ c ∷ d ∷ []) is_a (All-cons P b (c ∷ d ∷ []) is_b (All-cons P c (d ∷ []) is_c (All-cons P d [] is_d (All-nil P))))
