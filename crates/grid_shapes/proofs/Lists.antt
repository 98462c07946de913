-- What holds of each part of a list that is joined of parts.
use Rattle.std.proofs.Common.{ℕ, zero, suc, ◌+◌, ◌<◌, ◌≤◌, List, [], ◌∷◌, All, arith}
use Rattle.std.specs.List.{flat_map, range_with_len}
use Rattle.std.proofs.lemmas.List.Elements.{All-nil, All-cons, All-append, All-head, All-tail}

pub All-flat_map : {X Y : Type 0} (Q : X → Type 0) (P : Y → Type 0) (f : X → List Y) → ((x : X) → Q x → All P (f x)) → (xs : List X) → All Q xs
    → All P (flat_map f xs)
All-flat_map Q P f each [] all = All-nil P
All-flat_map Q P f each (x ∷ xs) all =
    All-append P (f x) (flat_map f xs) (each x (All-head Q x xs all)) (All-flat_map Q P f each xs (All-tail Q x xs all))

pub numbers_below : (a n m : ℕ) → a + n ≤ m → All (λ (k : ℕ). k < m) (range_with_len a n)
numbers_below a zero m few = All-nil (λ (k : ℕ). k < m)
numbers_below a (suc n) m few =
    All-cons (λ (k : ℕ). k < m) a (range_with_len (a + 1) n) (omega arith) (numbers_below (a + 1) n m (omega arith))

pub all_four : {X : Type 0} (P : X → Type 0) (a b c d : X) → P a → P b → P c → P d → All P (a ∷ b ∷ c ∷ d ∷ [])
all_four P a b c d is_a is_b is_c is_d =
    All-cons P a (b ∷ c ∷ d ∷ []) is_a (All-cons P b (c ∷ d ∷ []) is_b (All-cons P c (d ∷ []) is_c (All-cons P d [] is_d (All-nil P))))

pub all_two : {X : Type 0} (P : X → Type 0) (a b : X) → P a → P b → All P (a ∷ b ∷ [])
all_two P a b is_a is_b = All-cons P a (b ∷ []) is_a (All-cons P b [] is_b (All-nil P))
