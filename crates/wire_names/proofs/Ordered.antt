-- Where a name stands, and the order of two names.
use Rattle.std.proofs.Common.{◌≡◌, ℕ, suc, ◌+◌, ◌<◌, Bool, true, false, cond, ◌⊎◌, inl, inr, List, [], ◌∷◌, length, Option, Some, refl, sym, subst, arith}
use Rattle.std.specs.List.{position_from}
use Rattle.std.specs.declared.cmp.Ordering.{Ordering}
use Rattle.std.specs.declared.cmp.Ordering.TheVariants.{Less, Equal, Greater}
use Rattle.std.specs.Ordering.{ordering_then, nat_cmp, MatchOrdering}
use Rattle.std.specs.Cmp.Lexicographic.{slice_cmp}
use Rattle.std.proofs.lemmas.Cmp.{ranked}
use Rattle.name_places.specs.Places.{place_of}
use Rattle.name_table.specs.ByteOrder.{IsBefore}

position_within : {X : Type 0} (t : X → Bool) (i : ℕ) (xs : List X) (k : ℕ) → position_from t i xs ≡ Some k → k < i + length xs
position_within t i [] k e = cc
position_within t i (x ∷ xs) k e = by (t x) (position_from t (i + 1) xs) (position_within t (i + 1) xs k) e
  where
    by : (b : Bool) (rest : Option ℕ) → (rest ≡ Some k → k < i + 1 + length xs) → cond b (Some i) rest ≡ Some k → k < i + suc (length xs)
    by true rest more is = let same : i ≡ k = cc in omega arith
    by false rest more is = let behind = more is in omega arith

-- A name stands within the list.
pub place_within : (names : List (List ℕ)) (name : List ℕ) (k : ℕ) → place_of names name ≡ Some k → k < length names
place_within names name k e = let within = position_within _ 0 names k e in omega arith

less : (a b : List ℕ) → Less ≡ slice_cmp nat_cmp a b → IsBefore a b
less [] [] e = cc
less [] (y ∷ ys) e = tt
less (x ∷ xs) [] e = cc
less (x ∷ xs) (y ∷ ys) e = by (nat_cmp x y) (ranked x y (nat_cmp x y) refl) (less xs ys) e
  where
    by : (r : Ordering) → MatchOrdering r (x < y) (x ≡ y) (y < x) → (Less ≡ slice_cmp nat_cmp xs ys → IsBefore xs ys)
        → Less ≡ ordering_then r (slice_cmp nat_cmp xs ys) → (x < y) ⊎ ((x ≡ y) × IsBefore xs ys)
    by Less rank rest is = inl rank
    by Equal rank rest is = inr (rank, rest is)
    by Greater rank rest is = cc

greater : (a b : List ℕ) → Greater ≡ slice_cmp nat_cmp a b → IsBefore b a
greater [] [] e = cc
greater [] (y ∷ ys) e = cc
greater (x ∷ xs) [] e = tt
greater (x ∷ xs) (y ∷ ys) e = by (nat_cmp x y) (ranked x y (nat_cmp x y) refl) (greater xs ys) e
  where
    by : (r : Ordering) → MatchOrdering r (x < y) (x ≡ y) (y < x) → (Greater ≡ slice_cmp nat_cmp xs ys → IsBefore ys xs)
        → Greater ≡ ordering_then r (slice_cmp nat_cmp xs ys) → (y < x) ⊎ ((y ≡ x) × IsBefore ys xs)
    by Less rank rest is = cc
    by Equal rank rest is = inr (sym rank, rest is)
    by Greater rank rest is = inl rank

-- Of two names the lesser stands before the other.
pub before_if_less : (a b p g : List ℕ) → Less ≡ slice_cmp nat_cmp a b → p ≡ a → g ≡ b → IsBefore p g
before_if_less a b p g is one other = subst (λ z. IsBefore z g) (sym one) (subst (IsBefore a) (sym other) (less a b is))

pub before_if_greater : (a b p g : List ℕ) → Greater ≡ slice_cmp nat_cmp a b → p ≡ a → g ≡ b → IsBefore g p
before_if_greater a b p g is one other = subst (IsBefore g) (sym one) (subst (λ z. IsBefore z a) (sym other) (greater a b is))
