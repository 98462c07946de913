-- One digit more.
use Rattle.std.proofs.Common.{◌≡◌, ℕ, ◌+◌, ◌*◌, ◌^◌, ◌<◌, ◌≤◌, arith, ap, inl, inr}
use Rattle.std.proofs.lemmas.Bool.{cases_lt}
use Rattle.fixed_decimal.specs.declared.digits.Digits.{Digits}
use Rattle.fixed_decimal.specs.inside.Kept.{Keeps, IsCapped}
use Rattle.fixed_decimal.proofs.Powers.{ten_suc}

-- A digit that is kept.
pub keeps_more : (n d : ℕ) (digits : Digits) → d < 10 → digits.kept ≤ 10 ^ 37 → Keeps n digits → Keeps (n * 10 + d) (record { kept = digits.kept * 10 + d; dropped = digits.dropped })
keeps_more n d digits small most k = elim (cases_lt 0 digits.dropped) [
  | inl some ↦ absurd (omega (arith, k.full some))
  | inr none ↦
      let at_zero : digits.dropped ≡ 0 = omega arith in
      let one : 10 ^ digits.dropped ≡ 1 = ap (λ e. 10 ^ e) at_zero in
      let product : digits.kept * 10 ^ digits.dropped ≡ digits.kept * 1 = ap (λ p. digits.kept * p) one in
      let next : (digits.kept * 10 + d) * 10 ^ digits.dropped ≡ (digits.kept * 10 + d) * 1 = ap (λ p. (digits.kept * 10 + d) * p) one in
      let is = k.is in
      let rest_small = k.small in
      record {
        rest = 0;
        is = omega arith;
        small = omega arith;
        full = λ some. absurd (omega arith);
        fits = omega arith;
      }
]

-- A digit that is dropped.
pub keeps_on : (n d : ℕ) (digits : Digits) → d < 10 → 10 ^ 37 < digits.kept → Keeps n digits → Keeps (n * 10 + d) (record { kept = digits.kept; dropped = digits.dropped + 1 })
keeps_on n d digits small most k =
    let step = ten_suc digits.dropped in
    let product : digits.kept * 10 ^ (digits.dropped + 1) ≡ digits.kept * (10 ^ digits.dropped * 10) = ap (λ p. digits.kept * p) step in
    let is = k.is in
    let rest_small = k.small in
    record {
      rest = k.rest * 10 + d;
      is = omega arith;
      small = omega arith;
      full = λ some. most;
      fits = k.fits;
    }

-- An exponent that is counted on, and one that is not.
pub capped_more : (n d counted : ℕ) → counted < 10 ^ 21 → IsCapped n counted → IsCapped (n * 10 + d) (counted * 10 + d)
capped_more n d counted small c = let e = c.exact small in record { most = omega arith; exact = λ _. omega arith }

pub capped_on : (n d counted : ℕ) → 10 ^ 21 ≤ counted → IsCapped n counted → IsCapped (n * 10 + d) counted
capped_on n d counted large c = let m = c.most in record { most = omega arith; exact = λ small. absurd (omega arith) }

-- The same number added on both sides.
pub capped_add : (n counted by : ℕ) → IsCapped n counted → IsCapped (n + by) (counted + by)
capped_add n counted by c =
    let m = c.most in
    record { most = omega arith; exact = λ small. let less : counted < 10 ^ 21 = omega arith in let e = c.exact less in omega arith }
