-- Digits times a power of ten over another.
use Rattle.std.proofs.Common.{◌≡◌, ℕ, ◌+◌, ◌-◌, ◌*◌, ◌^◌, ◌<◌, ◌≤◌, min, arith, ap, sym, ◌∙◌, inl, inr, ◌⊎◌, subst, Option, Some, None, IfSome, IfNone}
use Rattle.std.proofs.lemmas.Bool.{cases_lt}
use Rattle.std.proofs.Math.Nat.{mul-le-mul_right, mul-le-mul_left}
use Rattle.fixed_decimal.specs.declared.digits.Digits.{Digits}
use Rattle.fixed_decimal.specs.inside.Kept.{Keeps, IsCapped}
use Rattle.fixed_decimal.specs.Value.{IsNearest}
use Rattle.fixed_decimal.proofs.Powers.{ten_pos, ten_add, ten_le, ten_even}
use Rattle.fixed_decimal.proofs.Rounding.{nearest_whole, nearest_times, nearest_after, nearest_nothing, nearest_unique}

-- Where nothing is dropped, what is kept is the number.
pub all_kept : (n : ℕ) (digits : Digits) → Keeps n digits → digits.dropped ≡ 0 → n ≡ digits.kept
all_kept n digits k none =
    let one : 10 ^ digits.dropped ≡ 1 = ap (λ e. 10 ^ e) none in
    let product : digits.kept * 10 ^ digits.dropped ≡ digits.kept * 1 = ap (λ p. digits.kept * p) one in
    let is = k.is in
    let small = k.small in
    omega arith

-- Nothing is dropped while little is kept.
pub none_dropped : (n : ℕ) (digits : Digits) → Keeps n digits → digits.kept ≤ 10 ^ 37 → digits.dropped ≡ 0
none_dropped n digits k little = elim (cases_lt 0 digits.dropped) [
  | inl some ↦ absurd (let full = k.full some in omega arith)
  | inr none ↦ omega arith
]

pub at_least_kept : (n : ℕ) (digits : Digits) → Keeps n digits → digits.kept * 10 ^ digits.dropped ≤ n
at_least_kept n digits k = let is = k.is in omega arith

-- The two powers, as they are counted and as they are.
pub record Powers (digits : Digits) (up down n u d : ℕ) : Type 0 where
  pub keeps : Keeps n digits
  pub up_is : IsCapped u up
  pub down_is : IsCapped d down
  pub one : min up down < 2 ^ 65
  pub few : digits.dropped < 2 ^ 64

module _ (digits : Digits) (up down n u d : ℕ) (p : Powers digits up down n u d) where
  pub down_exact : down ≤ up + digits.dropped → d ≡ down
  down_exact h = elim (cases_lt down (10 ^ 21)) [
    | inl less ↦ sym (p.down_is.exact less)
    | inr more ↦ absurd (let one = p.one in let few = p.few in omega arith)
  ]

  pub up_exact : up ≤ down + 37 → down ≤ up + digits.dropped → u ≡ up
  up_exact h g = elim (cases_lt up (10 ^ 21)) [
    | inl less ↦ sym (p.up_is.exact less)
    | inr more ↦ absurd (let one = p.one in let few = p.few in omega arith)
  ]

  pub up_exact_below : up + digits.dropped < down → u ≡ up
  up_exact_below h = elim (cases_lt up (10 ^ 21)) [
    | inl less ↦ sym (p.up_is.exact less)
    | inr more ↦ absurd (let one = p.one in let few = p.few in omega arith)
  ]

  pub raised_nothing : digits.kept ≡ 0 → IsNearest (n * 10 ^ u) (10 ^ d) 0
  raised_nothing none =
      let e : n ≡ 0 = all_kept n digits p.keeps (none_dropped n digits p.keeps (omega arith)) ∙ none in
      let product : n * 10 ^ u ≡ 0 * 10 ^ u = ap (λ x. x * 10 ^ u) e in
      nearest_nothing (n * 10 ^ u) (10 ^ d) (let some = ten_pos d in omega arith)

  pub raised_by : (power : ℕ) → power + down ≡ up + digits.dropped → power ≤ 37 → digits.dropped ≡ 0 → n * 10 ^ u ≡ (digits.kept * 10 ^ power) * 10 ^ d
  raised_by power sum small none =
      let e : n ≡ digits.kept = all_kept n digits p.keeps none in
      let du : u ≡ up = up_exact (omega arith) (omega arith) in
      let dd : d ≡ down = down_exact (omega arith) in
      let is : u ≡ power + d = omega arith in
      let split : 10 ^ u ≡ 10 ^ power * 10 ^ d = ap (λ x. 10 ^ x) is ∙ ten_add power d in
      let left : n * 10 ^ u ≡ digits.kept * 10 ^ u = ap (λ x. x * 10 ^ u) e in
      let right : digits.kept * 10 ^ u ≡ digits.kept * (10 ^ power * 10 ^ d) = ap (λ x. digits.kept * x) split in
      omega arith

  pub raised_is : (power : ℕ) → power + down ≡ up + digits.dropped → power ≤ 37 → digits.dropped ≡ 0 → IsNearest (n * 10 ^ u) (10 ^ d) (digits.kept * 10 ^ power)
  raised_is power sum small none =
      let P : ℕ → Type 0 = λ x. IsNearest x (10 ^ d) (digits.kept * 10 ^ power) in
      subst P (sym (raised_by power sum small none)) (nearest_whole (digits.kept * 10 ^ power) (10 ^ d) (ten_pos d))

  -- Beyond what is kept.
  pub beyond_dropped : down ≤ up + digits.dropped → 0 < digits.dropped → (10 ^ 37 + 1) * 10 ^ d ≤ n * 10 ^ u
  beyond_dropped h some =
      let dd : d ≡ down = down_exact h in
      let most = p.up_is.most in
      let power : 10 ^ d ≤ 10 ^ (digits.dropped + u) = ten_le d (digits.dropped + u) (omega arith) in
      let split : 10 ^ (digits.dropped + u) ≡ 10 ^ digits.dropped * 10 ^ u = ten_add digits.dropped u in
      let full = p.keeps.full some in
      let first : (10 ^ 37 + 1) * 10 ^ d ≤ digits.kept * 10 ^ d = mul-le-mul_right (10 ^ d) (omega arith) in
      let second : digits.kept * 10 ^ d ≤ digits.kept * (10 ^ digits.dropped * 10 ^ u) = mul-le-mul_left digits.kept (omega arith) in
      let third : (digits.kept * 10 ^ digits.dropped) * 10 ^ u ≤ n * 10 ^ u = mul-le-mul_right (10 ^ u) (at_least_kept n digits p.keeps) in
      omega arith

  pub beyond_power : down + 37 < up + digits.dropped → 0 < digits.kept → (10 ^ 37 + 1) * 10 ^ d ≤ n * 10 ^ u
  beyond_power h some = elim (cases_lt 0 digits.dropped) [
    | inl more ↦ beyond_dropped (omega arith) more
    | inr none ↦
        let e : n ≡ digits.kept = all_kept n digits p.keeps (omega arith) in
        let dd : d ≡ down = down_exact (omega arith) in
        let most = p.up_is.most in
        let power : 10 ^ (38 + d) ≤ 10 ^ u = ten_le (38 + d) u (omega arith) in
        let split : 10 ^ (38 + d) ≡ 10 ^ 38 * 10 ^ d = ten_add 38 d in
        let first : 1 * 10 ^ u ≤ n * 10 ^ u = mul-le-mul_right (10 ^ u) (omega arith) in
        omega arith
  ]

  pub beyond_product : (power : ℕ) → power + down ≡ up + digits.dropped → 0 < digits.kept → 2 ^ 128 ≤ digits.kept * 10 ^ power → (10 ^ 37 + 1) * 10 ^ d ≤ n * 10 ^ u
  beyond_product power sum some large = elim (cases_lt 0 digits.dropped) [
    | inl more ↦ beyond_dropped (omega arith) more
    | inr none ↦ elim (cases_lt 37 power) [
      | inl more ↦ beyond_power (omega arith) some
      | inr few ↦
          let is = raised_by power sum few (omega arith) in
          let first : 2 ^ 128 * 10 ^ d ≤ (digits.kept * 10 ^ power) * 10 ^ d = mul-le-mul_right (10 ^ d) large in
          omega arith
    ]
  ]

  -- Digits that are rounded away.
  pub lowered_by : (power m : ℕ) → d ≡ power + (u + digits.dropped) → 0 < power → IsNearest digits.kept (10 ^ power) m → IsNearest (n * 10 ^ u) (10 ^ d) m
  lowered_by power m sum some a =
      let after = nearest_after digits.kept (10 ^ power) m (10 ^ digits.dropped) p.keeps.rest (ten_even power some) p.keeps.small a in
      let times = nearest_times (digits.kept * 10 ^ digits.dropped + p.keeps.rest) (10 ^ power * 10 ^ digits.dropped) m (10 ^ u) (ten_pos u) after in
      let order : d ≡ (power + digits.dropped) + u = omega arith in
      let unit : 10 ^ d ≡ (10 ^ power * 10 ^ digits.dropped) * 10 ^ u = ap (λ x. 10 ^ x) order ∙ (ten_add (power + digits.dropped) u ∙ ap (λ x. x * 10 ^ u) (ten_add power digits.dropped)) in
      let P : ℕ → Type 0 = λ x. IsNearest (x * 10 ^ u) ((10 ^ power * 10 ^ digits.dropped) * 10 ^ u) m in
      let Q : ℕ → Type 0 = λ x. IsNearest (n * 10 ^ u) x m in
      subst Q (sym unit) (subst P (sym p.keeps.is) times)

  pub lowered_is : (power m : ℕ) → power + (up + digits.dropped) ≡ down → 0 < power → IsNearest digits.kept (10 ^ power) m → IsNearest (n * 10 ^ u) (10 ^ d) m
  lowered_is power m sum some a = elim (cases_lt 38 power) [
    | inr few ↦
        let du : u ≡ up = up_exact_below (omega arith) in
        let dd : d ≡ down = sym (p.down_is.exact (let one = p.one in let dropped = p.few in omega arith)) in
        lowered_by power m (omega arith) some a
    | inl many ↦
        let du : u ≡ up = up_exact_below (omega arith) in
        let most = p.down_is.most in
        let fits = p.keeps.fits in
        let large : 10 ^ 39 ≤ 10 ^ power = ten_le 39 power (omega arith) in
        let none : m ≡ 0 = nearest_unique digits.kept (10 ^ power) m 0 a (nearest_nothing digits.kept (10 ^ power) (omega arith)) in
        let sum' : d ≡ (d - (u + digits.dropped)) + (u + digits.dropped) = omega arith in
        let larger : 10 ^ 39 ≤ 10 ^ (d - (u + digits.dropped)) = ten_le 39 (d - (u + digits.dropped)) (omega arith) in
        let P : ℕ → Type 0 = λ x. IsNearest (n * 10 ^ u) (10 ^ d) x in
        subst P (sym none) (lowered_by (d - (u + digits.dropped)) 0 sum' (omega arith) (nearest_nothing digits.kept (10 ^ (d - (u + digits.dropped))) (omega arith)))
  ]

-- What the digits times 10^up over 10^down are nearest to.
abbrev pub IsNearestOf : Digits → ℕ → ℕ → ℕ → Type 0
IsNearestOf digits up down m = (n u d : ℕ) → Keeps n digits → IsCapped u up → IsCapped d down → IsNearest (n * 10 ^ u) (10 ^ d) m

-- They are above 10^37.
abbrev pub IsBeyond : Digits → ℕ → ℕ → Type 0
IsBeyond digits up down = (n u d : ℕ) → Keeps n digits → IsCapped u up → IsCapped d down → (10 ^ 37 + 1) * 10 ^ d ≤ n * 10 ^ u

module _ (digits : Digits) (up down power : ℕ) (one : min up down < 2 ^ 65) (few : digits.dropped < 2 ^ 64) where
  both : (n u d : ℕ) → Keeps n digits → IsCapped u up → IsCapped d down → Powers digits up down n u d
  both n u d k cu cd = record { keeps = k; up_is = cu; down_is = cd; one = one; few = few }

  pub raised_some : (r : Option ℕ) → power + down ≡ up + digits.dropped → IfSome r (λ m. (digits.kept ≡ 0) × (m ≡ 0) ⊎ (digits.dropped ≡ 0) × (power ≤ 37) × (m ≡ digits.kept * 10 ^ power)) → IfSome r (IsNearestOf digits up down)
  raised_some None sum h = h
  raised_some (Some m) sum (inl e) = λ n u d k cu cd.
      let P : ℕ → Type 0 = λ x. IsNearest (n * 10 ^ u) (10 ^ d) x in
      subst P (sym e.1) (raised_nothing digits up down n u d (both n u d k cu cd) e.0)
  raised_some (Some m) sum (inr e) = λ n u d k cu cd.
      let P : ℕ → Type 0 = λ x. IsNearest (n * 10 ^ u) (10 ^ d) x in
      subst P (sym e.2) (raised_is digits up down n u d (both n u d k cu cd) power sum e.1 e.0)

  pub raised_none : (r : Option ℕ) → power + down ≡ up + digits.dropped → IfNone r ((0 < digits.kept) × ((0 < digits.dropped) ⊎ (37 < power) ⊎ (2 ^ 128 ≤ digits.kept * 10 ^ power))) → IfNone r (IsBeyond digits up down)
  raised_none (Some m) sum h = h
  raised_none None sum h = λ n u d k cu cd.
      let p = both n u d k cu cd in
      elim h.1 [
        | inl dropped ↦ beyond_dropped digits up down n u d p (omega arith) dropped
        | inr other ↦ elim other [
          | inl large ↦ beyond_power digits up down n u d p (omega arith) h.0
          | inr product ↦ beyond_product digits up down n u d p power sum h.0 product
        ]
      ]

  pub lowered_some : (m : ℕ) → power + (up + digits.dropped) ≡ down → 0 < power → IsNearest digits.kept (10 ^ power) m → IsNearestOf digits up down m
  lowered_some m sum some a = λ n u d k cu cd. lowered_is digits up down n u d (both n u d k cu cd) power m sum some a
