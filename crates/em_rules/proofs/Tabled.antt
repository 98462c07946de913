-- How great a table's density is at most.
use Rattle.std.proofs.Common.{◌≡◌, ℕ, ◌+◌, ◌-◌, ◌*◌, ◌<◌, ◌≤◌, inl, inr, List, get_or, slice_get, Some, All, AllPairs, ap, subst, sym, arith}
use Rattle.std.proofs.lemmas.Option.{get_or_from_slice_get, slice_get_within}
use Rattle.std.proofs.lemmas.Nat.{mul-le}
use Rattle.std.proofs.Math.Nat.{div-le_of_le-mul}
use Rattle.em_rules.specs.Density.{on_line, IsTableDensity}

spread : (a b d : ℕ) → a ≤ b → (b - a) * d + a * d ≡ b * d
spread a b d h = let e : (b - a) + a ≡ b = omega arith in by_sum (b - a) e
  where
    by_sum : (k : ℕ) → k + a ≡ b → k * d + a * d ≡ b * d
    by_sum k e = omega (arith, ap (λ n. n * d) e)

weighed : (u v x y most : ℕ) → u ≤ most → v ≤ most → u * x + v * y ≤ (x + y) * most
weighed u v x y most first second = omega (arith, mul-le u x most x first (omega arith), mul-le v y most y second (omega arith))

-- What lies on a line between two points is at most the greater of their entries.
on_line_below : (p q : ℕ × ℕ) (n d most : ℕ) → p.0 ≤ q.0 → p.0 * d ≤ n → n ≤ q.0 * d → p.1 ≤ most → q.1 ≤ most → on_line p q n d ≤ most
on_line_below p q n d most rise from to first second =
    let width : (q.0 * d - n) + (n - p.0 * d) ≡ (q.0 - p.0) * d = omega (arith, spread p.0 q.0 d rise) in
    div-le_of_le-mul ((q.0 - p.0) * d) (subst (λ w. p.1 * (q.0 * d - n) + q.1 * (n - p.0 * d) ≤ w * most) width (weighed p.1 q.1 (q.0 * d - n) (n - p.0 * d) most first second))

kept_at : {X : Type 0} (P : X → Type 0) (xs : List X) (i : ℕ) (x : X) → All P xs → slice_get xs i ≡ Some x → P x
kept_at P xs i x all e = subst P (get_or_from_slice_get xs i x x e) (all i x (slice_get_within xs i x e))

pairs_at : {X : Type 0} (R : X → X → Type 0) (xs : List X) (i : ℕ) (x y : X) → AllPairs R xs → slice_get xs i ≡ Some x → slice_get xs (i + 1) ≡ Some y → R x y
pairs_at R xs i x y all e f =
    let within = slice_get_within xs (i + 1) y f in
    subst (λ z. R z y) (get_or_from_slice_get xs i x x e) (subst (R (get_or xs i x)) (get_or_from_slice_get xs (i + 1) y x f) (all i (i + 1) x (omega arith) within))

-- No density of a table is above the greatest of its entries.
pub table_below : (points : List (ℕ × ℕ)) (n d density most : ℕ) → AllPairs (λ (p q : ℕ × ℕ). p.0 < q.0) points → All (λ p. p.1 ≤ most) points
    → IsTableDensity points n d density → density ≤ most
table_below points n d density most rise entries (inl at) =
    let h = kept_at (λ p. p.1 ≤ most) points 0 at.first entries at.is_first in subst (λ k. k ≤ most) (sym at.is) h
table_below points n d density most rise entries (inr (inl at)) =
    let up = pairs_at (λ p q. p.0 < q.0) points at.place at.point at.next rise at.is_point at.is_next in
    let first = kept_at (λ p. p.1 ≤ most) points at.place at.point entries at.is_point in
    let second = kept_at (λ p. p.1 ≤ most) points (at.place + 1) at.next entries at.is_next in
    subst (λ k. k ≤ most) (sym at.is) (on_line_below at.point at.next n d most (omega arith) at.from at.to first second)
table_below points n d density most rise entries (inr (inr at)) =
    let h = kept_at (λ p. p.1 ≤ most) points at.place at.last entries at.is_last.0 in subst (λ k. k ≤ most) (sym at.is) h
