-- The numbers of limits fit the arithmetic.
use Rattle.std.proofs.Common.{ℕ, zero, suc, ◌*◌, ◌^◌, ◌<◌, ◌≤◌, ℤ, pos, negsuc, ◌*ℤ◌, get_or, subst, sym, arith}
use Rattle.std.specs.Prelude.{unsigned_abs}
use Rattle.std.proofs.lemmas.Int.{ints}
use Rattle.std.proofs.lemmas.Nat.{mul-le}
use Rattle.lef_tech.specs.declared.layer.Density.{Density}
use Rattle.lef_tech.specs.declared.layer.Density.TheVariants.{Unlimited, One, Table}
use Rattle.lef_tech.specs.Limits.{DensityKeeps}
use Rattle.em_rules.specs.Limit.{IsDensity, IsWidth}
use Rattle.em_rules.specs.inside.Tables.{DensityFits}
use Rattle.em_rules.proofs.Tabled.{table_below}

-- A table whose points and entries keep their limits fits.
pub density_fits : (density : Density) (a b d most : ℕ) → DensityKeeps (λ p. p ≤ a) (λ v. v ≤ b) density → d ≤ most → b * (a * most) ≤ 10 ^ 38 → DensityFits density d
density_fits Unlimited a b d most keeps few small = tt
density_fits (One v) a b d most keeps few small = tt
density_fits (Table points) a b d most keeps few small = record {
  some = keeps.0;
  rise = keeps.1;
  small = λ i none within. λ j other inside.
      (let p = get_or points i none in
      let q = get_or points j other in
      let point = mul-le q.0 d a most (keeps.2 j other inside).0 few in
      omega (arith, mul-le p.1 (q.0 * d) b (a * most) (keeps.2 i none within).1 point, small));
}

-- No density is above the limit of the layer's densities.
pub density_below : (density : Density) (a b n d v : ℕ) → DensityKeeps (λ p. p ≤ a) (λ v. v ≤ b) density → IsDensity density n d v → v ≤ b
density_below Unlimited a b n d v keeps is = absurd is
density_below (One stated) a b n d v keeps is = subst (λ k. k ≤ b) (sym is) keeps
density_below (Table points) a b n d v keeps is = table_below points n d v b keeps.1 (λ i none within. (keeps.2 i none within).1) is

-- The magnitude of a width.
pub width_below : (z : ℤ) → IsWidth z → unsigned_abs z ≤ 2 ^ 32
width_below (pos k) h = omega (arith, ints, h)
width_below (negsuc k) h = omega (arith, ints, h)

-- A length, n of which side by side are a width.
pub record IsPart (n k : ℕ) : Type 0 where
  pub all : n * k ≤ 2 ^ 32
  pub one : k ≤ 2 ^ 32

part : (n k : ℕ) → 1 ≤ n * k → n * k ≤ 2 ^ 32 → k ≤ 2 ^ 32
part zero k some few = absurd (omega arith)
part (suc n) k some few = omega (arith, mul-le 1 k (suc n) k (omega arith) (omega arith))

pub part_of : (n : ℕ) (z : ℤ) → IsWidth (pos n *ℤ z) → IsPart n (unsigned_abs z)
part_of n (pos k) h =
    let all : n * k ≤ 2 ^ 32 = omega (arith, ints, h) in
    let some : 1 ≤ n * k = omega (arith, ints, h) in
    record { all = all; one = part n k some all }
part_of n (negsuc k) h = absurd (omega (arith, ints, h))

pub wire_product : (density width : ℕ) → density ≤ 10 ^ 18 → width ≤ 2 ^ 32 → density * width < 2 ^ 128
wire_product density width h k = omega (arith, mul-le density width (10 ^ 18) (2 ^ 32) h k)

pub area_product : (x y : ℕ) → x ≤ 2 ^ 32 → y ≤ 2 ^ 32 → (x * y) * 10 ^ 12 < 2 ^ 128
area_product x y h k = omega (arith, mul-le x y (2 ^ 32) (2 ^ 32) h k)

all_cuts : (x y columns rows : ℕ) → columns * x ≤ 2 ^ 32 → rows * y ≤ 2 ^ 32 → (x * y) * (columns * rows) ≤ 2 ^ 64
all_cuts x y columns rows h k = omega (arith, mul-le (columns * x) (rows * y) (2 ^ 32) (2 ^ 32) h k)

pub cuts_product : (x y columns rows : ℕ) → columns * x ≤ 2 ^ 32 → rows * y ≤ 2 ^ 32 → (x * y) * (columns * rows) < 2 ^ 128
cuts_product x y columns rows h k = omega (arith, all_cuts x y columns rows h k)

pub current_product : (density x y columns rows : ℕ) → density ≤ 10 ^ 15 → columns * x ≤ 2 ^ 32 → rows * y ≤ 2 ^ 32 → density * ((x * y) * (columns * rows)) < 2 ^ 128
current_product density x y columns rows low h k =
    omega (arith, mul-le density ((x * y) * (columns * rows)) (10 ^ 15) (2 ^ 64) low (all_cuts x y columns rows h k))

pub square_below : (units : ℕ) → units ≤ 20000 → units * units ≤ 4 * 10 ^ 8
square_below units h = omega (arith, mul-le units units 20000 20000 h h)
