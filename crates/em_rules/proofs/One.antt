-- A table has one density at each place, and a layer one limit.
use Rattle.std.proofs.Common.{◌≡◌, ℕ, ◌+◌, ◌-◌, ◌*◌, ◌/◌, ◌<◌, ◌≤◌, inl, inr, ℤ, List, get_or, slice_get, Option, Some, None, AllPairs, ap, sym, ◌∙◌, subst, refl, arith}
use Rattle.std.proofs.lemmas.Bool.{cases_lt}
use Rattle.std.proofs.lemmas.Option.{get_or_from_slice_get, slice_get_within}
use Rattle.std.proofs.lemmas.Nat.{mul-le}
use Rattle.std.proofs.Math.Nat.{div-eq_of_eq-mul_left}
use Rattle.lef_tech.specs.declared.layer.Density.{Density}
use Rattle.lef_tech.specs.declared.layer.Density.TheVariants.{Unlimited, One, Table}
use Rattle.lef_tech.specs.declared.layer.RoutingLayer.{RoutingLayer}
use Rattle.lef_tech.specs.declared.layer.CutLayer.{CutLayer}
use Rattle.lef_tech.specs.Limits.{DensityKeeps, RoutingKeeps, CutKeeps, IsLength, IsArea, IsWireDensity, IsCutDensity}
use Rattle.via_arrays.specs.declared.parts.CutArray.{CutArray}
use Rattle.em_rules.specs.Limit.{IsDensity, IsLimit, IsWireLimit, IsCutLimit}
use Rattle.em_rules.specs.Density.{on_line, IsTableDensity, IsBelowTable, IsInTable, IsAboveTable}

some_inner : {X : Type 0} (x y : X) → Some x ≡ Some y → x ≡ y
some_inner x y e = cc

-- A place has one point.
same_point : {X : Type 0} (xs : List X) (i j : ℕ) (x y : X) → i ≡ j → slice_get xs i ≡ Some x → slice_get xs j ≡ Some y → x ≡ y
same_point xs i j x y e f g = some_inner x y (sym f ∙ ap (slice_get xs) e ∙ g)

-- A greater place has a greater point.
rises : (points : List (ℕ × ℕ)) (i j : ℕ) (p q : ℕ × ℕ) → AllPairs (λ (p q : ℕ × ℕ). p.0 < q.0) points → i < j → slice_get points i ≡ Some p → slice_get points j ≡ Some q → p.0 < q.0
rises points i j p q all h e f =
    let within = slice_get_within points j q f in
    subst (λ (z : ℕ × ℕ). z.0 < q.0) (get_or_from_slice_get points i p p e) (subst (λ (z : ℕ × ℕ). (get_or points i p).0 < z.0) (get_or_from_slice_get points j q p f) (all i j p h within))

-- Over a denominator too.
over : (a b d : ℕ) → a < b → 0 < d → a * d < b * d
over a b d h some = let e : 1 + a ≤ b = omega arith in omega (arith, mul-le (1 + a) d b d e (omega arith))

spread : (k a d : ℕ) → (k + a) * d ≡ k * d + a * d
spread k a d = omega arith

at_upper : (p q : ℕ × ℕ) (n d : ℕ) → p.0 < q.0 → 0 < d → n ≡ q.0 * d → on_line p q n d ≡ q.1
at_upper p q n d rise some is =
    let width : ℕ = (q.0 - p.0) * d in
    let back : (q.0 - p.0) + p.0 ≡ q.0 = omega arith in
    let long : (q.0 - p.0) * d + p.0 * d ≡ q.0 * d = sym (spread (q.0 - p.0) p.0 d) ∙ ap (λ k. k * d) back in
    let after : q.0 * d - n ≡ 0 = omega (arith, is) in
    let before : n - p.0 * d ≡ (q.0 - p.0) * d = omega (arith, is, long) in
    let positive : 0 < (q.0 - p.0) * d = omega (arith, over p.0 q.0 d rise some, long) in
    let whole : p.1 * (q.0 * d - n) + q.1 * (n - p.0 * d) ≡ q.1 * ((q.0 - p.0) * d) = (λ i. p.1 * after i + q.1 * before i) ∙ nothing p.1 (q.1 * ((q.0 - p.0) * d)) in
    div-eq_of_eq-mul_left positive whole
  where
    nothing : (u v : ℕ) → u * 0 + v ≡ v
    nothing u v = omega arith

at_lower : (p q : ℕ × ℕ) (n d : ℕ) → p.0 < q.0 → 0 < d → n ≡ p.0 * d → on_line p q n d ≡ p.1
at_lower p q n d rise some is =
    let back : (q.0 - p.0) + p.0 ≡ q.0 = omega arith in
    let long : (q.0 - p.0) * d + p.0 * d ≡ q.0 * d = sym (spread (q.0 - p.0) p.0 d) ∙ ap (λ k. k * d) back in
    let before : n - p.0 * d ≡ 0 = omega (arith, is) in
    let after : q.0 * d - n ≡ (q.0 - p.0) * d = omega (arith, is, long) in
    let positive : 0 < (q.0 - p.0) * d = omega (arith, over p.0 q.0 d rise some, long) in
    let whole : p.1 * (q.0 * d - n) + q.1 * (n - p.0 * d) ≡ p.1 * ((q.0 - p.0) * d) = (λ i. p.1 * after i + q.1 * before i) ∙ nothing (p.1 * ((q.0 - p.0) * d)) q.1 in
    div-eq_of_eq-mul_left positive whole
  where
    nothing : (u v : ℕ) → u + v * 0 ≡ u
    nothing u v = omega arith

module _ (points : List (ℕ × ℕ)) (n d : ℕ) (all : AllPairs (λ (p q : ℕ × ℕ). p.0 < q.0) points) (some : 0 < d) where
  -- n / d is at or above one point and at or below one of a place that is no greater: they are one point, and n / d is at it.
  record Meets (i j : ℕ) (p q : ℕ × ℕ) : Type 0 where
    place : i ≡ j
    point : p ≡ q
    at : n ≡ p.0 * d

  meets : (i j : ℕ) (p q : ℕ × ℕ) → i ≤ j → slice_get points i ≡ Some p → slice_get points j ≡ Some q → n ≤ p.0 * d → q.0 * d ≤ n → Meets i j p q
  meets i j p q order e f upto from = elim (cases_lt i j) [
    | inl less ↦ absurd (omega (arith, over p.0 q.0 d (rises points i j p q all less e f) some, upto, from))
    | inr not_less ↦
        let place : i ≡ j = omega arith in
        let point = same_point points i j p q place e f in
        record { place = place; point = point; at = omega (arith, upto, from, ap (λ (x : ℕ × ℕ). x.0 * d) point) }
  ]

  line : (i : ℕ) (p q : ℕ × ℕ) → slice_get points i ≡ Some p → slice_get points (i + 1) ≡ Some q → p.0 < q.0
  line i p q e f = rises points i (i + 1) p q all (omega arith) e f

  below_in : (a b : ℕ) → IsBelowTable points n d a → IsInTable points n d b → a ≡ b
  below_in a b x y =
      let m = meets 0 y.place x.first y.point (omega arith) x.is_first y.is_point x.below y.from in
      let at : n ≡ y.point.0 * d = m.at ∙ ap (λ (z : ℕ × ℕ). z.0 * d) m.point in
      x.is ∙ ap (λ (z : ℕ × ℕ). z.1) m.point ∙ sym (y.is ∙ at_lower y.point y.next n d (line y.place y.point y.next y.is_point y.is_next) some at)

  below_above : (a b : ℕ) → IsBelowTable points n d a → IsAboveTable points n d b → a ≡ b
  below_above a b x y =
      let m = meets 0 y.place x.first y.last (omega arith) x.is_first y.is_last.0 x.below y.above in
      x.is ∙ ap (λ (z : ℕ × ℕ). z.1) m.point ∙ sym y.is

  in_above : (a b : ℕ) → IsInTable points n d a → IsAboveTable points n d b → a ≡ b
  in_above a b x y =
      let within = slice_get_within points (x.place + 1) x.next x.is_next in
      let m = meets (x.place + 1) y.place x.next y.last (omega (arith, y.is_last.1, within)) x.is_next y.is_last.0 x.to y.above in
      x.is ∙ at_upper x.point x.next n d (line x.place x.point x.next x.is_point x.is_next) some m.at ∙ ap (λ (z : ℕ × ℕ). z.1) m.point ∙ sym y.is

  -- Two lines, the first of a place below the second.
  in_later : (a b : ℕ) (x : IsInTable points n d a) (y : IsInTable points n d b) → x.place < y.place → a ≡ b
  in_later a b x y less =
      let m = meets (x.place + 1) y.place x.next y.point (omega arith) x.is_next y.is_point x.to y.from in
      let at : n ≡ y.point.0 * d = m.at ∙ ap (λ (z : ℕ × ℕ). z.0 * d) m.point in
      x.is ∙ at_upper x.point x.next n d (line x.place x.point x.next x.is_point x.is_next) some m.at ∙ ap (λ (z : ℕ × ℕ). z.1) m.point
      ∙ sym (y.is ∙ at_lower y.point y.next n d (line y.place y.point y.next y.is_point y.is_next) some at)

  in_same : (a b : ℕ) (x : IsInTable points n d a) (y : IsInTable points n d b) → x.place ≡ y.place → a ≡ b
  in_same a b x y same =
      let p = same_point points x.place y.place x.point y.point same x.is_point y.is_point in
      let q = same_point points (x.place + 1) (y.place + 1) x.next y.next (ap (λ k. k + 1) same) x.is_next y.is_next in
      x.is ∙ (λ i. on_line (p i) (q i) n d) ∙ sym y.is

  in_in : (a b : ℕ) → IsInTable points n d a → IsInTable points n d b → a ≡ b
  in_in a b x y = elim (cases_lt x.place y.place) [
    | inl less ↦ in_later a b x y less
    | inr upto ↦ elim (cases_lt y.place x.place) [
      | inl more ↦ sym (in_later b a y x more)
      | inr both ↦ in_same a b x y (omega arith)
    ]
  ]

  pub density_unique : (a b : ℕ) → IsTableDensity points n d a → IsTableDensity points n d b → a ≡ b
  density_unique a b (inl x) (inl y) = x.is ∙ ap (λ (z : ℕ × ℕ). z.1) (same_point points 0 0 x.first y.first refl x.is_first y.is_first) ∙ sym y.is
  density_unique a b (inl x) (inr (inl y)) = below_in a b x y
  density_unique a b (inl x) (inr (inr y)) = below_above a b x y
  density_unique a b (inr (inl x)) (inl y) = sym (below_in b a y x)
  density_unique a b (inr (inr x)) (inl y) = sym (below_above b a y x)
  density_unique a b (inr (inl x)) (inr (inl y)) = in_in a b x y
  density_unique a b (inr (inl x)) (inr (inr y)) = in_above a b x y
  density_unique a b (inr (inr x)) (inr (inl y)) = sym (in_above b a y x)
  density_unique a b (inr (inr x)) (inr (inr y)) = x.is ∙ ap (λ (z : ℕ × ℕ). z.1) (same_point points x.place y.place x.last y.last (omega (arith, x.is_last.1, y.is_last.1)) x.is_last.0 y.is_last.0) ∙ sym y.is

-- A layer states one density at each place, and one limit.
pub stated_unique : (stated : Density) (P Q : ℕ → Type 0) (n d a b : ℕ) → DensityKeeps P Q stated → 0 < d → IsDensity stated n d a → IsDensity stated n d b → a ≡ b
stated_unique Unlimited P Q n d a b keeps some x y = absurd x
stated_unique (One v) P Q n d a b keeps some x y = x ∙ sym y
stated_unique (Table points) P Q n d a b keeps some x y = density_unique points n d keeps.1 some a b x y

pub limit_unique : (stated : Density) (P Q : ℕ → Type 0) (n d size unit a b : ℕ) → DensityKeeps P Q stated → 0 < d → IsLimit stated n d size unit a → IsLimit stated n d size unit b → a ≡ b
limit_unique stated P Q n d size unit a b keeps some x y =
    x.is ∙ ap (λ k. k * size / unit) (stated_unique stated P Q n d x.density y.density keeps some x.is_density y.is_density) ∙ sym y.is

pub none_or_some : (stated : Density) (n d size unit limit : ℕ) → stated ≡ Unlimited → IsLimit stated n d size unit limit → ⊥
none_or_some stated n d size unit limit e x = subst (λ (z : Density). IsDensity z n d x.density) e x.is_density

pub wire_unique : (layer : RoutingLayer) (width : ℤ) (units : ℕ) (a b : Option ℕ) → RoutingKeeps layer → 0 < units → IsWireLimit layer width units a → IsWireLimit layer width units b → a ≡ b
wire_unique layer width units None None keeps some x y = refl
wire_unique layer width units None (Some b) keeps some x y = absurd (none_or_some layer.density _ _ _ _ b x y)
wire_unique layer width units (Some a) None keeps some x y = absurd (none_or_some layer.density _ _ _ _ a y x)
wire_unique layer width units (Some a) (Some b) keeps some x y = ap Some (limit_unique layer.density IsLength IsWireDensity _ _ _ _ a b keeps.density some x y)

pub cut_unique : (layer : CutLayer) (array : CutArray) (units : ℕ) (a b : Option ℕ) → CutKeeps layer → 0 < units → IsCutLimit layer array units a → IsCutLimit layer array units b → a ≡ b
cut_unique layer array units None None keeps some x y = refl
cut_unique layer array units None (Some b) keeps some x y = absurd (none_or_some layer.density _ _ _ _ b x y)
cut_unique layer array units (Some a) None keeps some x y = absurd (none_or_some layer.density _ _ _ _ a y x)
cut_unique layer array units (Some a) (Some b) keeps some x y =
    ap Some (limit_unique layer.density IsArea IsCutDensity _ _ _ _ a b keeps.density (omega (arith, mul-le 1 1 units units some some)) x y)
