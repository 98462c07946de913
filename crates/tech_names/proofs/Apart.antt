-- Names that differ, and of which none is taken.
use Rattle.std.proofs.Common.{◌≡◌, ◌≢◌, ℕ, ◌⊎◌, inl, inr, List, [], ◌∷◌, get_or, Option, Some, None, Contains, All, sym, subst, arith}
use Rattle.std.proofs.lemmas.List.{get_or_default}
use Rattle.std.proofs.lemmas.List.Kept.{AllPairs-cons}
use Rattle.name_table.specs.Laws.{member_cases}
use Rattle.name_table.specs.Numbering.{AreDistinct}

-- No name stands twice, and none of them is taken.
pub record AreApart (IsTaken : List ℕ → Type 0) (names : List (List ℕ)) : Type 0 where
  pub differ : AreDistinct names
  pub free : (name : List ℕ) → Contains names name → IsTaken name → ⊥

-- A name that was free is taken, where one is said.
abbrev pub TakesOne : (List ℕ → Type 0) → (List ℕ → Type 0) → Option (List ℕ) → Type 0
TakesOne IsTaken Then None = Unit {0}
TakesOne IsTaken Then (Some name) = Then name × (IsTaken name → ⊥)

-- What is taken stays so, and this name is taken too, if it is one.
pub record Takes (IsTaken Then : List ℕ → Type 0) (name : Option (List ℕ)) : Type 0 where
  pub kept : (other : List ℕ) → IsTaken other → Then other
  pub one : TakesOne IsTaken Then name

-- The names are those of before, or one more stands before them.
abbrev pub AddsTo : {X : Type 0} → List X → X → List X → Type 0
AddsTo old x new = (new ≡ old) ⊎ (new ≡ x ∷ old)

pub apart_none : (IsTaken : List ℕ → Type 0) → AreApart IsTaken []
apart_none IsTaken = record { differ = λ i j d less within. absurd (omega arith); free = λ name has taken. absurd (omega (arith, has.1)) }

pub apart_less : (IsTaken Then : List ℕ → Type 0) (names : List (List ℕ)) → ((name : List ℕ) → IsTaken name → Then name) → AreApart Then names → AreApart IsTaken names
apart_less IsTaken Then names kept apart = record { differ = apart.differ; free = λ name has taken. apart.free name has (kept name taken) }

apart_first : (IsTaken Then : List ℕ → Type 0) (name : List ℕ) (names : List (List ℕ)) → Takes IsTaken Then (Some name) → AreApart Then names → AreApart IsTaken (name ∷ names)
apart_first IsTaken Then name names takes apart = record {
  differ = AllPairs-cons (λ (a b : List ℕ). a ≢ b) name names each apart.differ;
  free = λ other has taken. by_place other taken (member_cases name names other has);
}
  where
    each : All (λ (b : List ℕ). name ≢ b) names
    each k d within same = apart.free (get_or names k d) (k, within, get_or_default names k _ d within) (subst Then same takes.one.0)

    by_place : (other : List ℕ) → IsTaken other → (name ≡ other) ⊎ Contains names other → ⊥
    by_place other taken (inl e) = takes.one.1 (subst IsTaken (sym e) taken)
    by_place other taken (inr has) = apart.free other has (takes.kept other taken)

pub apart_more : (IsTaken Then : List ℕ → Type 0) (name : List ℕ) (old new : List (List ℕ)) → Takes IsTaken Then (Some name) → AddsTo old name new → AreApart Then old → AreApart IsTaken new
apart_more IsTaken Then name old new takes (inl e) apart = subst (AreApart IsTaken) (sym e) (apart_less IsTaken Then old takes.kept apart)
apart_more IsTaken Then name old new takes (inr e) apart = subst (AreApart IsTaken) (sym e) (apart_first IsTaken Then name old takes apart)
