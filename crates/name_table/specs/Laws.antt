-- Members of a list.
use Rattle.std.proofs.Common.{◌≡◌, ◌⊎◌, inl, inr, zero, suc, List, ◌∷◌, Contains, refl, arith}

-- What is in a list is its first member or in the rest.
pub member_cases : {X : Type 0} (x : X) (xs : List X) (n : X) → Contains (x ∷ xs) n → (x ≡ n) ⊎ Contains xs n
member_cases x xs n (zero, h, e) = inl e
member_cases x xs n (suc k, h, e) = inr (k, omega arith, e)

-- The first member is in the list.
pub member_head : {X : Type 0} (x : X) (xs : List X) → Contains (x ∷ xs) x
member_head x xs = (0, omega arith, refl)

-- What is in the rest is in the list.
pub member_tail : {X : Type 0} (x : X) (xs : List X) (n : X) → Contains xs n → Contains (x ∷ xs) n
member_tail x xs n (k, h, e) = (suc k, omega arith, e)
