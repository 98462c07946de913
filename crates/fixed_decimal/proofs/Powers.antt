-- Powers of ten.
use Rattle.std.proofs.Common.{◌≡◌, ℕ, zero, suc, ◌+◌, ◌*◌, ◌^◌, ◌<◌, ◌≤◌, arith, add-one}
use Rattle.std.proofs.Math.Nat.{pow-suc, pow-le-pow_right, one-le-pow}
use Rattle.std.proofs.lemmas.Nat.{pow-add}

pub ten_pos : (k : ℕ) → 0 < 10 ^ k
ten_pos k = one-le-pow k 10 (omega arith)

pub ten_le : (i j : ℕ) → i ≤ j → 10 ^ i ≤ 10 ^ j
ten_le i j h = let p : 0 < 10 = omega arith in pow-le-pow_right p h

pub ten_suc : (k : ℕ) → 10 ^ (k + 1) ≡ 10 ^ k * 10
ten_suc k = rw add-one (pow-suc 10 k)

pub ten_add : (i j : ℕ) → 10 ^ (i + j) ≡ 10 ^ i * 10 ^ j
ten_add i j = pow-add 10 i j

-- A power of ten above the first is even.
pub ten_even : (k : ℕ) → 0 < k → (h : ℕ) × (10 ^ k ≡ h + h)
ten_even zero h = absurd (omega arith)
ten_even (suc k) h = (10 ^ k * 5, omega (arith, pow-suc 10 k))
