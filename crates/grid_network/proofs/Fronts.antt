-- The first bytes of names as numbers: names stand as their numbers do.
use Rattle.std.proofs.Common.{◌≡◌, ◌⊎◌, inl, inr, zero, suc, ℕ, ◌+◌, ◌*◌, ◌^◌, ◌<◌, ◌≤◌, List, [], ◌∷◌, All, get_or, refl, sym, subst, ap, ◌∙◌, arith}
use Rattle.std.proofs.lemmas.Bool.{cases_lt}
use Rattle.std.proofs.lemmas.Nat.{pow-add}
use Rattle.std.proofs.Math.Pow.{pow_mono}
use Rattle.name_table.specs.ByteOrder.{IsBefore}
use Rattle.grid_network.specs.inside.Steps.{front_of}

-- all are bytes; what stands behind the end is 0
abbrev pub Bytes : List ℕ → Type 0
Bytes xs = (k : ℕ) → get_or xs k 0 < 256

pub bytes_from_all : (xs : List ℕ) → All (λ c. c < 256) xs → Bytes xs
bytes_from_all [] all k = omega arith
bytes_from_all (x ∷ xs) all zero = all 0 0 (omega arith)
bytes_from_all (x ∷ xs) all (suc k) = bytes_from_all xs (λ j d within. all (suc j) d (omega arith)) k

pub front_none : (xs : List ℕ) → front_of xs 0 ≡ 0
unfolding front_of
front_none xs = refl

pub front_more : (xs : List ℕ) (n : ℕ) → front_of xs (suc n) ≡ front_of xs n * 256 + get_or xs n 0
unfolding front_of
front_more xs n = refl

-- one more byte fits
pub front_fits : (n front byte : ℕ) → n < 16 → front < 2 ^ (8 * n) → byte < 256 → (front * 256 + byte < 2 ^ (8 * (n + 1))) × (front * 256 + byte < 2 ^ 128)
front_fits n front byte below small fits =
    let e : 2 ^ (8 * (n + 1)) ≡ 2 ^ (8 * n) * 2 ^ 8 = ap (λ k. 2 ^ k) (let f : 8 * (n + 1) ≡ 8 * n + 8 = omega arith in f) ∙ pow-add 2 (8 * n) 8 in
    let high : 2 ^ (8 * (n + 1)) ≤ 2 ^ 128 = pow_mono (let f : 8 * (n + 1) ≤ 128 = omega arith in f) in
    let one : front * 256 + byte < 2 ^ (8 * (n + 1)) = omega (arith, e, small, fits) in
    (one, omega (arith, one, high))

module _ (xs ys : List ℕ) (x_bytes : Bytes xs) (y_bytes : Bytes ys) where
  -- the first n bytes are the same
  abbrev Alike : ℕ → Type 0
  Alike n = (j : ℕ) → j < n → get_or xs j 0 ≡ get_or ys j 0

  -- numbers of one byte more
  longer : (n : ℕ) → front_of xs (suc n) ≡ front_of ys (suc n) → (front_of xs n ≡ front_of ys n) × (get_or xs n 0 ≡ get_or ys n 0)
  longer n e =
      let both : front_of xs n * 256 + get_or xs n 0 ≡ front_of ys n * 256 + get_or ys n 0 = sym (front_more xs n) ∙ e ∙ front_more ys n in
      (omega (arith, both, x_bytes n, y_bytes n), omega (arith, both, x_bytes n, y_bytes n))

  alike_more : (n : ℕ) → Alike n → get_or xs n 0 ≡ get_or ys n 0 → Alike (suc n)
  alike_more n before last j below = by (cases_lt j n)
    where
      by : ((j < n) ⊎ (n ≤ j)) → get_or xs j 0 ≡ get_or ys j 0
      by (inl h) = before j h
      by (inr h) = let same : n ≡ j = omega arith in subst (λ (m : ℕ). get_or xs m 0 ≡ get_or ys m 0) same last

  alike : (n : ℕ) → front_of xs n ≡ front_of ys n → Alike n
  alike zero e = λ j below. absurd (omega arith)
  alike (suc n) e = let both = longer n e in alike_more n (alike n both.0) both.1

  -- the bytes first differ at a place, where the first list has the smaller one
  abbrev Differs : Type 0
  Differs = (k : ℕ) × (get_or xs k 0 < get_or ys k 0) × Alike k

  differs_more : (n : ℕ) → (front_of xs n < front_of ys n → Differs) → front_of xs (suc n) < front_of ys (suc n) → ((front_of xs n < front_of ys n) ⊎ (front_of ys n ≤ front_of xs n)) → Differs
  differs_more n before h (inl less) = before less
  differs_more n before h (inr most) =
      let more : front_of xs n * 256 + get_or xs n 0 < front_of ys n * 256 + get_or ys n 0 = omega (arith, h, front_more xs n, front_more ys n) in
      let same : front_of xs n ≡ front_of ys n = omega (arith, more, most, x_bytes n, y_bytes n) in
      (n, omega (arith, more, most, x_bytes n, y_bytes n), alike n same)

  differs : (n : ℕ) → front_of xs n < front_of ys n → Differs
  differs zero h = absurd (omega (arith, h, front_none xs, front_none ys))
  differs (suc n) h = differs_more n (differs n) h (cases_lt (front_of xs n) (front_of ys n))

before_at : (xs ys : List ℕ) (k : ℕ) → get_or xs k 0 < get_or ys k 0 → ((j : ℕ) → j < k → get_or xs j 0 ≡ get_or ys j 0) → IsBefore xs ys
before_at [] [] k less same = absurd (omega (arith, less))
before_at [] (y ∷ ys) k less same = tt
before_at (x ∷ xs) [] k less same = absurd (omega (arith, less))
before_at (x ∷ xs) (y ∷ ys) zero less same = inl less
before_at (x ∷ xs) (y ∷ ys) (suc k) less same = inr (same 0 (omega arith), before_at xs ys k less (λ j below. same (suc j) (omega arith)))

-- the name with the smaller number stands before
pub front_before : (xs ys : List ℕ) (n : ℕ) → Bytes xs → Bytes ys → front_of xs n < front_of ys n → IsBefore xs ys
front_before xs ys n x_bytes y_bytes less =
    let d = differs xs ys x_bytes y_bytes n less in
    before_at xs ys d.0 d.1 d.2
