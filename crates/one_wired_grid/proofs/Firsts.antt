-- The first of a list that has not what all are to have is one.
use Rattle.std.proofs.Common.{◌≡◌, ◌⊎◌, inl, inr, ℕ, ◌<◌, ◌≤◌, List, slice_get, Option, Some, subst, sym, ap, ◌∙◌, arith}
use Rattle.std.proofs.lemmas.Bool.{cases_lt}
use Rattle.wire_names.specs.declared.record.NamedVia.{NamedVia}
use Rattle.wire_names.specs.declared.record.Spot.{Spot}
use Rattle.wire_limits.specs.First.{IsFirstWithout, EachHas}
use Rattle.wire_limits.specs.Vias.{IsFirstUsedWithout, EachUsedHas}
use Rattle.one_wired_grid.proofs.Ways.{One}

pub some_same : {X : Type 0} (o p : Option X) (x y : X) → o ≡ Some x → p ≡ Some y → o ≡ p → x ≡ y
some_same o p x y a b same = cc

pub first_same : {X : Type 0} (P : X → Type 0) (xs : List X) (k l : ℕ) (x y : X) → IsFirstWithout P xs k x → IsFirstWithout P xs l y → (k ≡ l) × (x ≡ y)
first_same P xs k l x y a b = by_place (cases_lt k l) (cases_lt l k)
  where
    by_place : (k < l) ⊎ (l ≤ k) → (l < k) ⊎ (k ≤ l) → (k ≡ l) × (x ≡ y)
    by_place (inl before) _ = absurd (a.lacks (b.before k x before a.stands))
    by_place (inr _) (inl before) = absurd (b.lacks (a.before l y before b.stands))
    by_place (inr low) (inr high) =
        let place : k ≡ l = omega arith in
        (place, some_same (slice_get xs k) (slice_get xs l) x y a.stands b.stands (ap (slice_get xs) place))

-- What the first tells.
abbrev pub BadFirst : {E X : Type 0} → (X → Type 0) → List X → (ℕ → X → E) → E → Type 0
BadFirst {X = X} P xs tell e = (k : ℕ) × (x : X) × IsFirstWithout P xs k x × (e ≡ tell k x)

pub first_one : {E X : Type 0} (P : X → Type 0) (xs : List X) (tell : ℕ → X → E) → One (EachHas P xs) (BadFirst P xs tell)
first_one P xs tell = record {
  apart = λ e well bad. bad.2.lacks (well bad.0 bad.1 bad.2.stands);
  one = λ e f a b. let same = first_same P xs a.0 b.0 a.1 b.1 a.2 b.2 in a.3 ∙ ap (λ k. tell k a.1) same.0 ∙ ap (tell b.0) same.1 ∙ sym b.3;
}

-- The same of vias that stand somewhere.
abbrev pub BadUsed : {E : Type 0} → (NamedVia → Type 0) → List NamedVia → List Spot → (ℕ → NamedVia → E) → E → Type 0
BadUsed P vias spots tell e = (k : ℕ) × (via : NamedVia) × IsFirstUsedWithout P vias spots k via × (e ≡ tell k via)

used_same : (P : NamedVia → Type 0) (vias : List NamedVia) (spots : List Spot) (k l : ℕ) (x y : NamedVia) → IsFirstUsedWithout P vias spots k x → IsFirstUsedWithout P vias spots l y
    → (k ≡ l) × (x ≡ y)
used_same P vias spots k l x y a b = by_place (cases_lt k l) (cases_lt l k)
  where
    by_place : (k < l) ⊎ (l ≤ k) → (l < k) ⊎ (k ≤ l) → (k ≡ l) × (x ≡ y)
    by_place (inl before) _ = absurd (a.lacks (b.before k x before a.stands a.used))
    by_place (inr _) (inl before) = absurd (b.lacks (a.before l y before b.stands b.used))
    by_place (inr low) (inr high) =
        let place : k ≡ l = omega arith in
        (place, some_same (slice_get vias k) (slice_get vias l) x y a.stands b.stands (ap (slice_get vias) place))

pub used_one : {E : Type 0} (P : NamedVia → Type 0) (vias : List NamedVia) (spots : List Spot) (tell : ℕ → NamedVia → E) → One (EachUsedHas P vias spots) (BadUsed P vias spots tell)
used_one P vias spots tell = record {
  apart = λ e well bad. bad.2.lacks (well bad.0 bad.1 bad.2.stands bad.2.used);
  one = λ e f a b. let same = used_same P vias spots a.0 b.0 a.1 b.1 a.2 b.2 in a.3 ∙ ap (λ k. tell k a.1) same.0 ∙ ap (tell b.0) same.1 ∙ sym b.3;
}
