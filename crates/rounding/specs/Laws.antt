-- What other crates need of whole numbers with a sign: products, floors and ceilings, and the greatest of some values.
use Rattle.std.proofs.Common.{◌≡◌, ℕ, zero, suc, ◌*◌, ◌/◌, ◌%◌, ◌<◌, ℤ, pos, negsuc, neg_ℤ, ◌+ℤ◌, ◌-ℤ◌, ◌*ℤ◌, ◌≤ℤ◌, ◌<ℤ◌, arith, sym, ap, mul-le-mul_left, mul-le-mul_right, ◌≤◌, div-add-mod', mod-lt, inl, inr, ◌⊎◌, ◌∙◌, subst}
use Rattle.std.proofs.lemmas.Int.{ints, by_lt_z}
use Rattle.rounding.specs.Rounding.{IsFloor, IsCeiling, floor_div, ceil_div}
use borrow.Author.Differences.{le_out, lt_out, sum_is_lem, neg_is}
use Rattle.std.proofs.lemmas.Bool.{cases_lt}

-- A product grows with its second factor.
pub times_le : (r x y : ℤ) → pos 0 ≤ℤ r → x ≤ℤ y → (r *ℤ x) ≤ℤ (r *ℤ y)
times_le (pos k) x y h le = omega (arith, ints, mul-le-mul_left k (le_out x y le))
times_le (negsuc k) x y h le = omega (arith, ints)

-- A positive factor makes a product grow by at least as much.
times_lt : (r x y : ℤ) → pos 1 ≤ℤ r → x <ℤ y → (r *ℤ x +ℤ r) ≤ℤ (r *ℤ y)
times_lt (pos k) x y h lt = omega (arith, ints, mul-le-mul_left k (lt_out x y lt))
times_lt (negsuc k) x y h lt = omega (arith, ints)

-- A positive factor may be left out.
pub times_le_out : (r x y : ℤ) → pos 1 ≤ℤ r → (r *ℤ x) ≤ℤ (r *ℤ y) → x ≤ℤ y
times_le_out r x y h le = by_lt_z y x (λ lt. absurd (omega (arith, ints, times_lt r y x h lt))) (λ this. this)

pub times_lt_out : (r x y : ℤ) → pos 1 ≤ℤ r → (r *ℤ x) <ℤ (r *ℤ y) → x <ℤ y
times_lt_out r x y h lt =
    by_lt_z x y (λ this. this) (λ le. absurd (omega (arith, ints, times_le r y x (omega (arith, ints)) le)))

-- A factor goes into a sum and a difference.
pub times_sum : (r x y : ℤ) → r *ℤ (x +ℤ y) ≡ r *ℤ x +ℤ r *ℤ y
times_sum (pos k) x y = omega (arith, ints, ap (λ n. k * n) (sum_is_lem x y))
times_sum (negsuc k) x y = omega (arith, ints, ap (λ n. suc k * n) (sum_is_lem x y))

pub times_neg : (r x : ℤ) → r *ℤ neg_ℤ x ≡ neg_ℤ (r *ℤ x)
times_neg (pos k) x = omega (arith, ints, ap (λ n. k * n) (neg_is x).0, ap (λ n. k * n) (neg_is x).1)
times_neg (negsuc k) x = omega (arith, ints, ap (λ n. suc k * n) (neg_is x).0, ap (λ n. suc k * n) (neg_is x).1)

pub times_one : (r : ℤ) → r *ℤ pos 1 ≡ r
times_one r = omega (arith, ints)

pub times_next : (r x : ℤ) → r *ℤ (x +ℤ pos 1) ≡ r *ℤ x +ℤ r
times_next r x = times_sum r x (pos 1) ∙ ap (λ n. r *ℤ x +ℤ n) (times_one r)

pub times_difference : (r x y : ℤ) → r *ℤ (x -ℤ y) ≡ r *ℤ x -ℤ r *ℤ y
times_difference r x y = times_sum r x (neg_ℤ y) ∙ ap (λ n. r *ℤ x +ℤ n) (times_neg r y)

pub times_last : (r x : ℤ) → r *ℤ (x -ℤ pos 1) ≡ r *ℤ x -ℤ r
times_last r x = times_difference r x (pos 1) ∙ ap (λ n. r *ℤ x -ℤ n) (times_one r)

-- The library's quotient is the floor.
pub floor_is : (z r : ℤ) → pos 1 ≤ℤ r → IsFloor z r (floor_div z r)
floor_is (pos a) (pos k) h =
    let s = div-add-mod' a k in let m : a % k < k = mod-lt a (omega (arith, ints)) in record
    { reached = omega (arith, ints); next_is_above = omega (arith, ints) }
floor_is (negsuc a) (pos k) h =
    let s = div-add-mod' a k in
    let m : a % k < k = mod-lt a (omega (arith, ints)) in
    record { reached = omega (arith, ints); next_is_above = omega (arith, ints, times_next (pos k) (negsuc (a / k))) }
floor_is z (negsuc k) h = absurd (omega (arith, ints))

-- And there is only one.
pub floor_unique : (z r f g : ℤ) → pos 1 ≤ℤ r → IsFloor z r f → IsFloor z r g → f ≡ g
floor_unique z r f g h a b =
    let m : f <ℤ (g +ℤ pos 1) = times_lt_out r f (g +ℤ pos 1) h (omega (arith, ints, a.reached, b.next_is_above)) in
    let n : g <ℤ (f +ℤ pos 1) = times_lt_out r g (f +ℤ pos 1) h (omega (arith, ints, b.reached, a.next_is_above)) in
    omega (arith, ints)

-- The negated quotient of the negated number is the ceiling.
pub ceiling_is : (z r : ℤ) → pos 1 ≤ℤ r → IsCeiling z r (ceil_div z r)
ceiling_is z r h =
    let f = floor_is (neg_ℤ z) r h in
    let e = times_neg r (floor_div (neg_ℤ z) r) in
    let n = times_next r (floor_div (neg_ℤ z) r) in
    let l = times_last r (ceil_div z r) in
    record { reaches = omega (arith, ints, f.reached); last_is_below = omega (arith, ints, f.next_is_above) }

pub ceiling_unique : (z r f g : ℤ) → pos 1 ≤ℤ r → IsCeiling z r f → IsCeiling z r g → f ≡ g
ceiling_unique z r f g h a b =
    let m : (f -ℤ pos 1) <ℤ g = times_lt_out r (f -ℤ pos 1) g h (omega (arith, ints, a.last_is_below, b.reaches)) in
    let n : (g -ℤ pos 1) <ℤ f = times_lt_out r (g -ℤ pos 1) f h (omega (arith, ints, b.last_is_below, a.reaches)) in
    omega (arith, ints)

-- Two factors change places.
swap_pos : (k q n : ℕ) → pos k *ℤ (pos q *ℤ pos n) ≡ pos q *ℤ (pos k *ℤ pos n)
swap_pos k q n = ap pos (omega arith)

swap_neg : (k q n : ℕ) → pos k *ℤ (pos q *ℤ negsuc n) ≡ pos q *ℤ (pos k *ℤ negsuc n)
swap_neg k q n =
    ap (λ t. pos k *ℤ t) (times_neg (pos q) (pos (suc n)))
    ∙ times_neg (pos k) (pos (q * suc n))
    ∙ ap neg_ℤ (swap_pos k q (suc n))
    ∙ sym (times_neg (pos q) (pos (k * suc n)))
    ∙ ap (λ t. pos q *ℤ t) (sym (times_neg (pos k) (pos (suc n))))

pub times_swap : (r : ℤ) (q : ℕ) (x : ℤ) → pos 1 ≤ℤ r → r *ℤ (pos q *ℤ x) ≡ pos q *ℤ (r *ℤ x)
times_swap (pos k) q (pos n) h = swap_pos k q n
times_swap (pos k) q (negsuc n) h = swap_neg k q n
times_swap (negsuc k) q x h = absurd (omega (arith, ints))

-- A value at 0 or below n, by the place of the last.
below_or_last : (j n : ℕ) → j < suc n → (j < n) ⊎ (j ≡ n)
below_or_last j n h = elim (cases_lt j n) [ inl l ↦ inl l | inr g ↦ inr (omega arith) ]

first_is_greatest : (f : ℕ → ℤ) (j : ℕ) → j < 1 → f j ≤ℤ f 0
first_is_greatest f zero h = omega (arith, ints)
first_is_greatest f (suc j) h = absurd (omega arith)

keeps_greatest : (f : ℕ → ℤ) (n i : ℕ) → ((j : ℕ) → j < n → f j ≤ℤ f i) → f n ≤ℤ f i → (j : ℕ) → j < suc n → f j ≤ℤ f i
keeps_greatest f n i all le j h =
    elim (below_or_last j n h) [ inl l ↦ all j l | inr e ↦ subst (λ (m : ℕ). f m ≤ℤ f i) (sym e) le ]

-- One of the first n numbers, and n is not 0, has the greatest value.
pub greatest_of : (f : ℕ → ℤ) (n : ℕ) → 0 < n → (i : ℕ) × (i < n) × ((j : ℕ) → j < n → f j ≤ℤ f i)
greatest_of f zero h = absurd (omega arith)
greatest_of f (suc zero) h = (0, omega arith, first_is_greatest f)
greatest_of f (suc (suc n)) h =
    let b = greatest_of f (suc n) (omega arith) in
    by_lt_z (f b.0) (f (suc n))
    (λ lt. (
      suc n,
      omega arith,
      keeps_greatest f (suc n) (suc n) (λ j l. omega (arith, ints, b.2 j l))
          (omega (arith, ints)),
    ))
    (λ le. (b.0, omega (arith, b.1), keeps_greatest f (suc n) b.0 b.2 le))

-- A floor is no farther from 0 than a limit of the number.
pub floor_in_limit : (z r : ℤ) (m : ℕ) → pos 1 ≤ℤ r → neg_ℤ (pos m) ≤ℤ z → z ≤ℤ pos m
    → (neg_ℤ (pos m) ≤ℤ floor_div z r) × (floor_div z r ≤ℤ pos m)
floor_in_limit z r m h low high =
    let f = floor_is z r h in
    let grown : pos m ≤ℤ (r *ℤ pos m) = factor_at_least r m h in
    let n = times_neg r (pos m) in
    let below : neg_ℤ (pos m) <ℤ (floor_div z r +ℤ pos 1) = times_lt_out r (neg_ℤ (pos m)) (floor_div z r +ℤ pos 1) h
    (omega (arith, ints, f.next_is_above, grown, n, low)) in
    (omega (arith, ints, below), times_le_out r (floor_div z r) (pos m) h (omega (arith, ints, f.reached, grown, high)))
  where
    factor_at_least : (r : ℤ) (m : ℕ) → pos 1 ≤ℤ r → pos m ≤ℤ (r *ℤ pos m)
    factor_at_least (pos k) m h = let le : 1 ≤ k = omega (arith, ints) in omega (arith, ints, mul-le-mul_right m le)
    factor_at_least (negsuc k) m h = absurd (omega (arith, ints))

-- A ceiling is no farther from 0 than a limit of the number.
pub ceiling_in_limit : (z r : ℤ) (m : ℕ) → pos 1 ≤ℤ r → neg_ℤ (pos m) ≤ℤ z → z ≤ℤ pos m
    → (neg_ℤ (pos m) ≤ℤ ceil_div z r) × (ceil_div z r ≤ℤ pos m)
ceiling_in_limit z r m h low high =
    let f = floor_in_limit (neg_ℤ z) r m h (omega (arith, ints)) (omega (arith, ints)) in
    (omega (arith, ints, f), omega (arith, ints, f))
