-- A share of an end of a load rises with the end.
use Rattle.std.proofs.Common.{◌≡◌, ℕ, suc, ◌*◌, ◌/◌, ◌%◌, ◌<◌, ◌≤◌, ℤ, pos, negsuc, ◌≤ℤ◌, ap, arith, div-add-mod', ◌⊎◌, inl, inr}
use Rattle.std.proofs.lemmas.Int.{ints}
use Rattle.std.proofs.Math.Nat.{div-mul-le_self}
use Rattle.std.proofs.lemmas.Nat.{le-div}
use Rattle.std.proofs.lemmas.Bool.{cases_lt}
use Rattle.std.proofs.lemmas.Bool.Decides.{nat_tests}
use Rattle.load_shares.specs.Shares.{share_size, end_share}

size_rises : (a b count place : ℕ) → 0 < count → a ≤ b → share_size a count place ≤ share_size b count place
size_rises a b count place some le = by_parts (cases_lt (a / count) (b / count))
  where
    by_parts : (a / count < b / count) ⊎ (b / count ≤ a / count) → share_size a count place ≤ share_size b count place
    by_parts (inl less) = grind (arith, nat_tests)
    by_parts (inr same) =
        let rises : a / count ≤ b / count = le-div (a / count) b count some (omega (arith, div-mul-le_self a count)) in
        let equal : a / count ≡ b / count = omega arith in
        let shared : a / count * count ≡ b / count * count = ap (λ q. q * count) equal in
        let one = div-add-mod' a count in
        let other = div-add-mod' b count in
        let rest : a % count ≤ b % count = omega arith in
        grind (arith, nat_tests)

pub rises : (low high : ℤ) (count place : ℕ) → 0 < count → low ≤ℤ high → end_share low count place ≤ℤ end_share high count place
rises (pos a) (pos b) count place some le = omega (arith, ints, size_rises a b count place some (omega (arith, ints)))
rises (pos a) (negsuc b) count place some le = absurd (omega (arith, ints))
rises (negsuc a) (pos b) count place some le = omega (arith, ints)
rises (negsuc a) (negsuc b) count place some le = omega (arith, ints, size_rises (suc b) (suc a) count place some (omega (arith, ints)))
