-- Members of lists that are made of lists.
use Rattle.std.proofs.Common.{◌≡◌, ◌⊎◌, inl, inr, ℕ, zero, suc, ◌<◌, List, [], ◌∷◌, ◌++◌, length, get_or, refl, sym, ap, ◌∙◌, subst, arith}
use Rattle.std.specs.Prelude.{Contains}
use Rattle.std.specs.List.{flat_map}

pub member_here : {X : Type 0} (x : X) (xs : List X) → Contains (x ∷ xs) x
member_here x xs = (0, omega arith, refl)

pub member_later : {X : Type 0} (x : X) (xs : List X) (n : X) → Contains xs n → Contains (x ∷ xs) n
member_later x xs n (k, within, is) = (suc k, omega arith, is)

pub member_front : {X : Type 0} (xs ys : List X) (n : X) → Contains xs n → Contains (xs ++ ys) n
member_front [] ys n (k, within, is) = absurd (omega (arith, within))
member_front (x ∷ xs) ys n (zero, within, is) = (0, omega arith, is)
member_front (x ∷ xs) ys n (suc k, within, is) = member_later x (xs ++ ys) n (member_front xs ys n (k, omega (arith, within), is))

pub member_back : {X : Type 0} (xs ys : List X) (n : X) → Contains ys n → Contains (xs ++ ys) n
member_back [] ys n is = is
member_back (x ∷ xs) ys n is = member_later x (xs ++ ys) n (member_back xs ys n is)

-- a member of two lists is one of either
pub member_either : {X : Type 0} (xs ys : List X) (n : X) → Contains (xs ++ ys) n → Contains xs n ⊎ Contains ys n
member_either [] ys n is = inr is
member_either (x ∷ xs) ys n (zero, within, is) = inl (0, omega arith, is)
member_either (x ∷ xs) ys n (suc k, within, is) = by (member_either xs ys n (k, omega (arith, within), is))
  where
    by : Contains xs n ⊎ Contains ys n → Contains (x ∷ xs) n ⊎ Contains ys n
    by (inl h) = inl (member_later x xs n h)
    by (inr h) = inr h

-- a member of the members of lists is one of some list
pub member_of_some : {X : Type 0} (lists : List (List X)) (n : X) → Contains (flat_map (λ (xs : List X). xs) lists) n
    → (xs : List X) × Contains lists xs × Contains xs n
member_of_some [] n (k, within, is) = absurd (omega (arith, within))
member_of_some {X} (xs ∷ lists) n is = by (member_of_some lists n) (member_either xs (flat_map (λ (ys : List X). ys) lists) n is)
  where
    by : (Contains (flat_map (λ (ys : List X). ys) lists) n → (ys : List X) × Contains lists ys × Contains ys n)
        → Contains xs n ⊎ Contains (flat_map (λ (ys : List X). ys) lists) n → (ys : List X) × Contains (xs ∷ lists) ys × Contains ys n
    by rest (inl h) = (xs, member_here xs lists, h)
    by rest (inr h) = let (ys, in_lists, in_ys) = rest h in (ys, member_later xs lists ys in_lists, in_ys)

pub some_member : {X : Type 0} (lists : List (List X)) (xs : List X) (n : X) → Contains lists xs → Contains xs n → Contains (flat_map (λ (ys : List X). ys) lists) n
some_member [] xs n (k, within, is) in_xs = absurd (omega (arith, within))
some_member (ys ∷ lists) xs n (zero, within, is) in_xs = member_front ys (flat_map (λ (zs : List _). zs) lists) n (subst (λ (zs : List _). Contains zs n) (sym is) in_xs)
some_member (ys ∷ lists) xs n (suc k, within, is) in_xs =
    member_back ys (flat_map (λ (zs : List _). zs) lists) n (some_member lists xs n (k, omega (arith, within), is) in_xs)

-- what stands at each place tells a list
pub same_by_place : {X : Type 0} (xs ys : List X) → length xs ≡ length ys → ((k : ℕ) (d : X) → k < length xs → get_or xs k d ≡ get_or ys k d) → xs ≡ ys
same_by_place [] [] long each = refl
same_by_place [] (y ∷ ys) long each = absurd (omega (arith, long))
same_by_place (x ∷ xs) [] long each = absurd (omega (arith, long))
same_by_place (x ∷ xs) (y ∷ ys) long each =
    ap (λ z. z ∷ xs) (each 0 x (omega arith)) ∙ ap (λ l. y ∷ l) (same_by_place xs ys (omega (arith, long)) (λ k d within. each (suc k) d (omega (arith, within))))
