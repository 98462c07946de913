-- The first of a list that has not what all are to have, place after place.
use Rattle.std.proofs.Common.{◌≡◌, ℕ, ◌+◌, ◌<◌, ◌≤◌, Bool, true, false, ◌⊎◌, inl, inr, List, length, get_or, slice_get, Some, sym, subst, arith}
use Rattle.std.proofs.lemmas.Bool.{cases_eq}
use Rattle.std.proofs.lemmas.Option.{slice_get_within, slice_get-get_or, get_or_from_slice_get}
use Rattle.wire_names.specs.declared.record.NamedVia.{NamedVia}
use Rattle.wire_names.specs.declared.record.Spot.{Spot}
use Rattle.wire_limits.specs.First.{IsFirstWithout}
use Rattle.wire_limits.specs.Vias.{IsUsed, IsFirstUsedWithout}
use Rattle.wire_limits.specs.inside.Used.{AreUses}

-- All before a place have it.
abbrev pub EachBefore : {X : Type 0} → (ℕ → X → Type 0) → List X → ℕ → Type 0
EachBefore {X} R xs i = (k : ℕ) (other : X) → k < i → slice_get xs k ≡ Some other → R k other

pub before_more : {X : Type 0} (R : ℕ → X → Type 0) (xs : List X) (i : ℕ) (d : X) → EachBefore R xs i → R i (get_or xs i d) → EachBefore R xs (i + 1)
before_more {X} R xs i d each has k other low at = by (cases_eq k i)
  where
    by : (k ≡ i) ⊎ (k ≡ i → ⊥) → R k other
    by (inl last) = subst (R k) (get_or_from_slice_get xs k other d at) (subst (λ j. R j (get_or xs j d)) (sym last) has)
    by (inr less) = each k other (omega arith) at

pub before_all : {X : Type 0} (R : ℕ → X → Type 0) (xs : List X) (i : ℕ) → length xs ≤ i → EachBefore R xs i
    → (k : ℕ) (other : X) → slice_get xs k ≡ Some other → R k other
before_all R xs i behind each k other at = let low = slice_get_within xs k other at in each k other (omega arith) at

pub first_without : {X : Type 0} (P : X → Type 0) (xs : List X) (i : ℕ) (d : X) → i < length xs → (P (get_or xs i d) → ⊥)
    → EachBefore (λ k. P) xs i → IsFirstWithout P xs i (get_or xs i d)
first_without P xs i d within lacks each = record { stands = slice_get-get_or xs i d within; lacks = lacks; before = each }

-- The same of vias that stand somewhere.
pub used_more : (P : NamedVia → Type 0) (vias : List NamedVia) (spots : List Spot) (used : List Bool) (i : ℕ) (d : NamedVia) → i < length vias
    → AreUses (length vias) spots used → EachBefore (λ k via. IsUsed spots k → P via) vias i
    → (get_or used i false ≡ true → P (get_or vias i d)) → EachBefore (λ k via. IsUsed spots k → P via) vias (i + 1)
used_more P vias spots used i d within uses each has =
    before_more (λ k via. IsUsed spots k → P via) vias i d each (λ stands. has ((uses.each i within).1 stands))

pub first_used : (P : NamedVia → Type 0) (vias : List NamedVia) (spots : List Spot) (used : List Bool) (i : ℕ) (d : NamedVia) (place : ℕ) → place ≡ i
    → i < length vias → AreUses (length vias) spots used → EachBefore (λ k via. IsUsed spots k → P via) vias i
    → get_or used i false ≡ true → (P (get_or vias i d) → ⊥) → IsFirstUsedWithout P vias spots place (get_or vias i d)
first_used P vias spots used i d place same within uses each is lacks =
    subst (λ p. IsFirstUsedWithout P vias spots p (get_or vias i d)) (sym same)
    (record { stands = slice_get-get_or vias i d within; used = (uses.each i within).0 is; lacks = lacks; before = each })
