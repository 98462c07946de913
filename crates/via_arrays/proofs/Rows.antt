-- Rows of cuts, and the greatest number of them by one division.
use Rattle.std.proofs.Common.{◌≡◌, ℕ, ◌+◌, ◌-◌, ◌*◌, ◌/◌, ◌%◌, ◌<◌, ◌≤◌, ◌⊎◌, inl, inr, min, arith}
use Rattle.std.proofs.lemmas.Bool.{cases_lt}
use Rattle.std.proofs.lemmas.Int.{ints}
use Rattle.std.proofs.lemmas.Nat.{mul-le, div-add-mod'}
use Rattle.via_arrays.specs.Cuts.{row_length, Fit, IsMost}

-- A row that leaves the enclosure on both sides fits.
row_fits : (extent cut pitch enclosure n : ℕ) → row_length cut pitch n + 2 * enclosure ≤ extent → Fit extent cut pitch enclosure n
row_fits extent cut pitch enclosure n room k below =
    let before_last : k * pitch ≤ (n - 1) * pitch = mul-le k pitch (n - 1) pitch (omega arith) (omega arith) in
    record { low = omega (arith, ints); high = omega (arith, ints) }

-- And a row that fits leaves it, by its first cut.
needs_room : (extent cut pitch enclosure n : ℕ) → 0 < n → Fit extent cut pitch enclosure n → row_length cut pitch n + 2 * enclosure ≤ extent
needs_room extent cut pitch enclosure n some fit = let first = fit 0 some in omega (arith, ints, first.low)

-- With q the quotient of what is left by the pitch.
by_quotient : (limit extent cut pitch enclosure n left q : ℕ) → left + (cut + 2 * enclosure) ≡ extent → q * pitch ≤ left → left < q * pitch + pitch → n ≡ min (q + 1) limit
    → IsMost limit extent cut pitch enclosure n
by_quotient limit extent cut pitch enclosure n left q room low high is = record {
  upto = omega arith;
  fit = fit (cases_lt 0 n);
  most = most;
}
  where
    fit : (0 < n) ⊎ (n ≤ 0) → Fit extent cut pitch enclosure n
    fit (inl some) =
        let h : (n - 1) * pitch ≤ q * pitch = mul-le (n - 1) pitch q pitch (omega arith) (omega arith) in
        row_fits extent cut pitch enclosure n (omega arith)
    fit (inr none) = λ k below. absurd (omega arith)

    most : (m : ℕ) → n < m → m ≤ limit → Fit extent cut pitch enclosure m → ⊥
    most m above upto fits =
        let r = needs_room extent cut pitch enclosure m (omega arith) fits in
        let h : (q + 1) * pitch ≤ (m - 1) * pitch = mul-le (q + 1) pitch (m - 1) pitch (omega arith) (omega arith) in
        let e : (q + 1) * pitch ≡ q * pitch + pitch = omega arith in
        omega arith

pub most_is : (limit extent cut pitch enclosure n : ℕ) → 0 < pitch → cut + 2 * enclosure ≤ extent → n ≡ min ((extent - (cut + 2 * enclosure)) / pitch + 1) limit
    → IsMost limit extent cut pitch enclosure n
most_is limit extent cut pitch enclosure n some room is =
    let left = extent - (cut + 2 * enclosure) in
    let whole : left / pitch * pitch + left % pitch ≡ left = div-add-mod' left pitch in
    let rest : left % pitch < pitch = omega arith in
    by_quotient limit extent cut pitch enclosure n left (left / pitch) (omega arith) (omega arith) (omega arith) is

-- Where not even one cut has room, none is the most.
pub none_is : (limit extent cut pitch enclosure : ℕ) → extent < cut + 2 * enclosure → IsMost limit extent cut pitch enclosure 0
none_is limit extent cut pitch enclosure little = record {
  upto = omega arith;
  fit = λ k below. absurd (omega arith);
  most = λ m above upto fits. let r = needs_room extent cut pitch enclosure m above fits in omega arith;
}

-- There is one greatest number.
pub most_unique : (limit extent cut pitch enclosure n m : ℕ) → IsMost limit extent cut pitch enclosure n → IsMost limit extent cut pitch enclosure m → n ≡ m
most_unique limit extent cut pitch enclosure n m a b = by_order (cases_lt n m) (cases_lt m n)
  where
    by_order : (n < m) ⊎ (m ≤ n) → (m < n) ⊎ (n ≤ m) → n ≡ m
    by_order (inl less) _ = absurd (a.most m less b.upto b.fit)
    by_order (inr _) (inl less) = absurd (b.most n less a.upto a.fit)
    by_order (inr over) (inr upto) = omega arith
