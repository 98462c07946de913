-- Byte order is strict, so distinct names stand in it in one way only.
use Rattle.std.proofs.Common.{◌≡◌, ℕ, suc, ◌⊎◌, inl, inr, List, [], ◌∷◌, Contains, refl, sym, subst, arith}
use Rattle.name_table.specs.Laws.{member_cases, member_head, member_tail}
use Rattle.name_table.specs.ByteOrder.{IsBefore, IsInByteOrder}

-- No name stands before itself.
pub before_itself : (a : List ℕ) → IsBefore a a → ⊥
before_itself [] h = h
before_itself (x ∷ xs) (inl h) = omega arith
before_itself (x ∷ xs) (inr h) = before_itself xs h.1

-- Of two names at most one stands before the other.
pub before_once : (a b : List ℕ) → IsBefore a b → IsBefore b a → ⊥
before_once [] [] h k = h
before_once [] (y ∷ ys) h k = k
before_once (x ∷ xs) [] h k = h
before_once (x ∷ xs) (y ∷ ys) (inl h) (inl k) = omega arith
before_once (x ∷ xs) (y ∷ ys) (inl h) (inr k) = let e = k.0 in omega arith
before_once (x ∷ xs) (y ∷ ys) (inr h) (inl k) = let e = h.0 in omega arith
before_once (x ∷ xs) (y ∷ ys) (inr h) (inr k) = before_once xs ys h.1 k.1

-- In a list in order the head stands before each member of the tail, and the tail is in order.
pub before_rest : (x : List ℕ) (xs : List (List ℕ)) → IsInByteOrder (x ∷ xs) → (n : List ℕ) → Contains xs n → IsBefore x n
before_rest x xs up n (k, h, e) = subst (IsBefore x) e (up 0 (suc k) n (omega arith) (omega arith))

pub rest_in_order : (x : List ℕ) (xs : List (List ℕ)) → IsInByteOrder (x ∷ xs) → IsInByteOrder xs
rest_in_order x xs up i j d i_below within = up (suc i) (suc j) d (omega arith) (omega arith)

-- Each member of the one list is a member of the other.
abbrev pub HasAll : List (List ℕ) → List (List ℕ) → Type 0
HasAll xs ys = (name : List ℕ) → Contains xs name → Contains ys name

-- The heads of two lists in order with the same members are one name.
pub same_heads : (x : List ℕ) (xs : List (List ℕ)) (y : List ℕ) (ys : List (List ℕ))
    → IsInByteOrder (x ∷ xs) → IsInByteOrder (y ∷ ys) → HasAll (x ∷ xs) (y ∷ ys) → HasAll (y ∷ ys) (x ∷ xs) → x ≡ y
same_heads x xs y ys up_x up_y there back =
    by (member_cases y ys x (there x (member_head x xs))) (member_cases x xs y (back y (member_head y ys)))
  where
    by : ((y ≡ x) ⊎ Contains ys x) → ((x ≡ y) ⊎ Contains xs y) → x ≡ y
    by (inl e) k = sym e
    by (inr h) (inl e) = e
    by (inr h) (inr k) = absurd (before_once x y (before_rest x xs up_x y k) (before_rest y ys up_y x h))

-- So each member of the one tail is a member of the other.
pub same_rest : (x : List ℕ) (xs ys : List (List ℕ)) → IsInByteOrder (x ∷ xs) → HasAll (x ∷ xs) (x ∷ ys) → HasAll xs ys
same_rest x xs ys up there n h = by (member_cases x ys n (there n (member_tail x xs n h)))
  where
    by : ((x ≡ n) ⊎ Contains ys n) → Contains ys n
    by (inl e) = absurd (before_itself x (subst (IsBefore x) (sym e) (before_rest x xs up n h)))
    by (inr k) = k

no_member : (n : List ℕ) → Contains [] n → ⊥
no_member n (k, h, e) = omega arith

-- Distinct names stand in byte order in one way only.
pub same_in_order : (xs ys : List (List ℕ)) → IsInByteOrder xs → IsInByteOrder ys → HasAll xs ys → HasAll ys xs → xs ≡ ys
same_in_order [] [] up_x up_y there back = refl
same_in_order [] (y ∷ ys) up_x up_y there back = absurd (no_member y (back y (member_head y ys)))
same_in_order (x ∷ xs) [] up_x up_y there back = absurd (no_member x (there x (member_head x xs)))
same_in_order (x ∷ xs) (y ∷ ys) up_x up_y there back =
    let e = same_heads x xs y ys up_x up_y there back in
    let there' = subst (λ n. HasAll (x ∷ xs) (n ∷ ys)) (sym e) there in
    let back' = subst (λ n. HasAll (n ∷ ys) (x ∷ xs)) (sym e) back in
    let up_x' = subst (λ n. IsInByteOrder (n ∷ ys)) (sym e) up_y in
    let rest = same_in_order xs ys (rest_in_order x xs up_x) (rest_in_order y ys up_y) (same_rest x xs ys up_x there') (same_rest x ys xs up_x' back') in
    λ i. e i ∷ rest i
