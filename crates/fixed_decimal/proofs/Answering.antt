-- The answer to a number.
use Rattle.std.proofs.Common.{◌≡◌, ℕ, zero, suc, ◌+◌, ◌*◌, ◌/◌, ◌^◌, ◌<◌, ◌≤◌, Bool, true, false, pos, arith, ap, sym, ◌∙◌, refl, subst}
use Rattle.std.specs.Prelude.{unsigned_abs}
use Rattle.std.proofs.Math.Nat.{mul-le-mul_right}
use Rattle.fixed_decimal.specs.declared.digits.Digits.{Digits}
use Rattle.fixed_decimal.specs.declared.scale.Scale.{Scale}
use Rattle.fixed_decimal.specs.inside.Kept.{IsCapped, Describes}
use Rattle.fixed_decimal.specs.Number.{Number}
use Rattle.fixed_decimal.specs.Spice.{scaled}
use Rattle.fixed_decimal.specs.Value.{IsNearest, IsMagnitude, IsWithin, IsAbove, Vanishes, signed}
use Rattle.fixed_decimal.proofs.Keeping.{capped_add}
use Rattle.fixed_decimal.proofs.Powers.{ten_pos, ten_add}
use Rattle.fixed_decimal.proofs.Rounding.{nearest_exists, nearest_reaches}
use Rattle.fixed_decimal.proofs.Shifting.{IsNearestOf, IsBeyond, at_least_kept, all_kept, none_dropped}

pub abs_signed : (negative : Bool) (m : ℕ) → unsigned_abs (signed negative m) ≡ m
abs_signed false m = refl
abs_signed true zero = refl
abs_signed true (suc m) = refl

pub zero_from_signed : (negative : Bool) (m : ℕ) → signed negative m ≡ pos 0 → m ≡ 0
zero_from_signed negative m h = sym (abs_signed negative m) ∙ ap unsigned_abs h

module _ (n : Number) (digits : Digits) (up down : ℕ) (scale : Scale) (places limit : ℕ) (d : Describes n digits up down) (u v : ℕ) (up_sum : u ≡ up + scale.up + places) (down_sum : v ≡ down + scale.down) where
  numerator_is : (n.numerator * 10 ^ scale.up) * 10 ^ places ≡ d.written * 10 ^ (d.power + scale.up + places)
  numerator_is =
      let start : n.numerator * 10 ^ scale.up ≡ (d.written * 10 ^ d.power) * 10 ^ scale.up = ap (λ x. x * 10 ^ scale.up) d.numerator in
      let first : (n.numerator * 10 ^ scale.up) * 10 ^ places ≡ ((d.written * 10 ^ d.power) * 10 ^ scale.up) * 10 ^ places = ap (λ x. x * 10 ^ places) start in
      let split : 10 ^ (d.power + scale.up + places) ≡ (10 ^ d.power * 10 ^ scale.up) * 10 ^ places = ten_add (d.power + scale.up) places ∙ ap (λ x. x * 10 ^ places) (ten_add d.power scale.up) in
      let last : d.written * 10 ^ (d.power + scale.up + places) ≡ d.written * ((10 ^ d.power * 10 ^ scale.up) * 10 ^ places) = ap (λ x. d.written * x) split in
      omega arith

  denominator_is : n.denominator * 10 ^ scale.down ≡ 10 ^ (d.over + scale.down)
  denominator_is = ap (λ x. x * 10 ^ scale.down) d.denominator ∙ sym (ten_add d.over scale.down)

  up_is : IsCapped (d.power + scale.up + places) u
  up_is = let P : ℕ → Type 0 = λ x. IsCapped (d.power + scale.up + places) x in subst P (sym up_sum) (capped_add (d.power + scale.up) (up + scale.up) places (capped_add d.power up scale.up d.up_is))

  down_is : IsCapped (d.over + scale.down) v
  down_is = let P : ℕ → Type 0 = λ x. IsCapped (d.over + scale.down) x in subst P (sym down_sum) (capped_add d.over down scale.down d.down_is)

  pub magnitude_is : (m : ℕ) → IsNearestOf digits u v m → IsMagnitude (scaled n scale) places m
  magnitude_is m a =
      let P : ℕ → Type 0 = λ x. IsNearest x (n.denominator * 10 ^ scale.down) m in
      let Q : ℕ → Type 0 = λ x. IsNearest (d.written * 10 ^ (d.power + scale.up + places)) x m in
      subst P (sym numerator_is) (subst Q (sym denominator_is) (a d.written (d.power + scale.up + places) (d.over + scale.down) d.keeps up_is down_is))

  pub beyond_is : limit ≤ 10 ^ 37 → IsBeyond digits u v → IsAbove (scaled n scale) places limit
  beyond_is small a =
      let num = (n.numerator * 10 ^ scale.up) * 10 ^ places in
      let den = n.denominator * 10 ^ scale.down in
      let some : 0 < den = (let p = ten_pos (d.over + scale.down) in let e = denominator_is in omega arith) in
      let far : (10 ^ 37 + 1) * den ≤ num =
      (let raw = a d.written (d.power + scale.up + places) (d.over + scale.down) d.keeps up_is down_is in
      let e = numerator_is in
      let f : (10 ^ 37 + 1) * den ≡ (10 ^ 37 + 1) * 10 ^ (d.over + scale.down) = ap (λ x. (10 ^ 37 + 1) * x) denominator_is in
      omega arith) in
      let nearest = nearest_exists num den some in
      let large : 10 ^ 37 + 1 ≤ (2 * num + den) / (2 * den) = nearest_reaches num den ((2 * num + den) / (2 * den)) (10 ^ 37 + 1) nearest far in
      record { magnitude = (2 * num + den) / (2 * den); nearest = nearest; above = omega arith }

  -- A number other than 0 is one whose kept digits are other than 0.
  pub other_than_zero : 0 < digits.kept → 0 < (scaled n scale).numerator
  other_than_zero some =
      let one : 1 * 10 ^ digits.dropped ≤ digits.kept * 10 ^ digits.dropped = mul-le-mul_right (10 ^ digits.dropped) (omega arith) in
      let least = at_least_kept d.written digits d.keeps in
      let p = ten_pos digits.dropped in
      let q : 1 * 10 ^ d.power ≤ d.written * 10 ^ d.power = mul-le-mul_right (10 ^ d.power) (omega arith) in
      let r = ten_pos d.power in
      let e = d.numerator in
      let s : 1 * 10 ^ scale.up ≤ n.numerator * 10 ^ scale.up = mul-le-mul_right (10 ^ scale.up) (omega arith) in
      let t = ten_pos scale.up in
      omega arith

  pub zero_is : digits.kept ≡ 0 → (scaled n scale).numerator ≡ 0
  zero_is none =
      let empty : d.written ≡ 0 = all_kept d.written digits d.keeps (none_dropped d.written digits d.keeps (omega arith)) ∙ none in
      let e : n.numerator ≡ 0 * 10 ^ d.power = d.numerator ∙ ap (λ x. x * 10 ^ d.power) empty in
      let f : n.numerator ≡ 0 = omega arith in
      let g : n.numerator * 10 ^ scale.up ≡ 0 * 10 ^ scale.up = ap (λ x. x * 10 ^ scale.up) f in
      omega arith

  pub vanishes_is : (m : ℕ) → m ≡ 0 → 0 < digits.kept → IsNearestOf digits u v m → Vanishes (scaled n scale) places
  vanishes_is m none some a = record {
    other = other_than_zero some;
    nothing = (let P : ℕ → Type 0 = λ x. IsMagnitude (scaled n scale) places x in subst P none (magnitude_is m a));
  }

  pub above_is : (m : ℕ) → limit < m → IsNearestOf digits u v m → IsAbove (scaled n scale) places limit
  above_is m more a = record { magnitude = m; nearest = magnitude_is m a; above = more }

  pub read_is : (m : ℕ) → m ≤ limit → (m ≡ 0 → digits.kept ≡ 0) → IsNearestOf digits u v m → IsWithin (scaled n scale) places limit (signed n.negative m)
  read_is m most other a = record {
    value = record { magnitude = m; nearest = magnitude_is m a; is = refl };
    within = (let e = abs_signed n.negative m in omega arith);
    stays = λ h. zero_is (other (zero_from_signed n.negative m h));
  }
