-- Rounding to the nearest whole number.
use Rattle.std.proofs.Common.{◌≡◌, ℕ, ◌+◌, ◌*◌, ◌/◌, ◌%◌, ◌<◌, ◌≤◌, arith, ap, inl, inr, mod-lt, div-add-mod'}
use Rattle.std.proofs.lemmas.Bool.{cases_lt}
use Rattle.std.proofs.Math.Nat.{mul-le-mul_right}
use Rattle.fixed_decimal.specs.Value.{IsNearest}

-- The nearest number is at most any other nearest one.
nearest_le : (n d m k : ℕ) → IsNearest n d m → IsNearest n d k → m ≤ k
nearest_le n d m k a b = elim (cases_lt k m) [
  | inl less ↦
      let product : (k + 1) * d ≤ m * d = mul-le-mul_right d (omega arith) in
      let reached = a.reached in
      let below = b.below in
      absurd (omega arith)
  | inr most ↦ most
]

pub nearest_unique : (n d m k : ℕ) → IsNearest n d m → IsNearest n d k → m ≡ k
nearest_unique n d m k a b = let x = nearest_le n d m k a b in let y = nearest_le n d k m b a in omega arith

-- There is one.
pub nearest_exists : (n d : ℕ) → 0 < d → IsNearest n d ((2 * n + d) / (2 * d))
nearest_exists n d h =
    let sum = div-add-mod' (2 * n + d) (2 * d) in
    let small : (2 * n + d) % (2 * d) < 2 * d = mod-lt (2 * n + d) (omega arith) in
    let left : (2 * n + d) / (2 * d) * (2 * d) ≡ 2 * ((2 * n + d) / (2 * d) * d) = omega arith in
    let right : ((2 * n + d) / (2 * d) + 1) * d ≡ (2 * n + d) / (2 * d) * d + d = omega arith in
    record { reached = omega arith; below = omega arith }

-- It is at least each whole number that the fraction reaches.
pub nearest_reaches : (n d m k : ℕ) → IsNearest n d m → k * d ≤ n → k ≤ m
nearest_reaches n d m k a h = elim (cases_lt m k) [
  | inl less ↦
      let product : (m + 1) * d ≤ k * d = mul-le-mul_right d (omega arith) in
      let below = a.below in
      absurd (omega arith)
  | inr most ↦ most
]

-- A whole number is nearest to itself.
pub nearest_whole : (m d : ℕ) → 0 < d → IsNearest (m * d) d m
nearest_whole m d h = record { reached = omega arith; below = omega arith }

-- Both numbers may be multiplied.
pub nearest_times : (n d m k : ℕ) → 0 < k → IsNearest n d m → IsNearest (n * k) (d * k) m
nearest_times n d m k h a =
    let low : (2 * (m * d)) * k ≤ (2 * n + d) * k = mul-le-mul_right k a.reached in
    let more : (2 * n + d + 1) * k ≤ (2 * ((m + 1) * d)) * k = let below = a.below in mul-le-mul_right k (omega arith) in
    record { reached = omega arith; below = omega arith }

-- What stands after digits that are rounded away changes nothing, where the unit is even.
pub nearest_after : (n d m p rest : ℕ) → ((h : ℕ) × (d ≡ h + h)) → rest < p → IsNearest n d m → IsNearest (n * p + rest) (d * p) m
nearest_after n d m p rest even small a =
    let is = even.1 in
    let reached = a.reached in
    let below = a.below in
    let half : 2 * (m * even.0) ≤ n + even.0 = let e : m * d ≡ m * even.0 + m * even.0 = omega (arith, ap (λ x. m * x) is) in omega arith in
    let halves : n + even.0 + 1 ≤ 2 * ((m + 1) * even.0) = let e : (m + 1) * d ≡ (m + 1) * even.0 + (m + 1) * even.0 = omega (arith, ap (λ x. (m + 1) * x) is) in omega arith in
    let low : (2 * (m * even.0)) * p ≤ (n + even.0) * p = mul-le-mul_right p half in
    let high : (n + even.0 + 1) * p ≤ (2 * ((m + 1) * even.0)) * p = mul-le-mul_right p halves in
    let unit : d * p ≡ (even.0 + even.0) * p = ap (λ x. x * p) is in
    let whole : m * (d * p) ≡ m * ((even.0 + even.0) * p) = ap (λ x. m * x) unit in
    record { reached = omega arith; below = omega arith }

-- What the code computes: half a unit more, and then the whole units.
pub nearest_by_halves : (n d : ℕ) → 0 < d → ((h : ℕ) × (d ≡ h + h)) → IsNearest n d ((n + d / 2) / d)
nearest_by_halves n d some even =
    let is = even.1 in
    let half : d / 2 ≡ even.0 = omega arith in
    let sum = div-add-mod' (n + d / 2) d in
    let small : (n + d / 2) % d < d = mod-lt (n + d / 2) some in
    let next : ((n + d / 2) / d + 1) * d ≡ (n + d / 2) / d * d + d = omega arith in
    record { reached = omega arith; below = omega arith }

-- Less than half a unit.
pub nearest_nothing : (n d : ℕ) → 2 * n < d → IsNearest n d 0
nearest_nothing n d h = record { reached = omega arith; below = omega arith }

pub nearest_nothing_says : (n d : ℕ) → IsNearest n d 0 → 2 * n < d
nearest_nothing_says n d a = let below = a.below in omega arith
