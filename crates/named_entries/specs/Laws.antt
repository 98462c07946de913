-- One more line of a named entry, and what all names have.
use Rattle.std.proofs.Common.{◌≡◌, ℕ, Bool, true, false, List, [], ◌∷◌, ◌++◌, map, filter, Contains, inl, inr, sym, ◌∙◌, ap, subst}
use Rattle.std.proofs.lemmas.List.{map_push}
use Rattle.name_table.specs.Numbering.{TakesName, AreDistinct}
use Rattle.entry_list.specs.Laws.{filter-more, filter-same, turn-added, in-turn-names}
use Rattle.named_entries.specs.Named.{NamedList, HoldsNamed}

appended : (old new : List (List ℕ)) (name : List ℕ) → TakesName old new name → (Contains old name → ⊥) →
    new ≡ old ++ name ∷ []
appended old new name (inl h) fresh = absurd (fresh h.0)
appended old new name (inr h) fresh = h.1

-- A line of the kind says one more entry, whose name is new.
pub named-added : {L E : Type 0} (says : L → E → Type 0) (name : L → List ℕ) (is : L →
    Bool) (lines : List L) (line : L) (old new : NamedList E) (entry : E) →
    is line ≡ true → HoldsNamed says name (filter is lines) old → (Contains (map name (filter is lines)) (name line) →
    ⊥) → says line entry →
    TakesName old.names new.names (name line) → new.entries ≡ old.entries ++ entry ∷ [] →
    HoldsNamed says name (filter is (lines ++ line ∷ [])) new
named-added {L} {E} says name is lines line old new entry one_more h fresh s taken e = record {
  names =
      appended old.names new.names (name line) taken (λ there. fresh (subst (λ z. Contains z
      (name line)) h.names there))
      ∙ ap (λ z. z ++ name line ∷ []) h.names ∙ sym (map_push name (filter is lines) line)
      ∙ ap (λ (z : List L). map name z) (sym (filter-more is lines line one_more));
  entries = turn-added says is lines line old.entries new.entries entry one_more h.entries s e;
}

pub named-kept : {L E : Type 0} (says : L → E → Type 0) (name : L → List ℕ) (is : L →
    Bool) (lines : List L) (line : L) (named : NamedList E) → is line ≡ false →
    HoldsNamed says name (filter is lines) named → HoldsNamed says name (filter is (lines ++ line ∷ [])) named
named-kept {L} says name is lines line named none h = subst (λ (z : List L). HoldsNamed says name z named) (sym
    (filter-same is lines line none)) h

-- The names of the entries differ, where each entry has the name on its line.
pub names-differ : {L E : Type 0} (says : L → E → Type 0) (name : L → List ℕ) (named : E → List ℕ) →
    ((line : L) (entry : E) → says line entry → named entry ≡ name line) →
    (lines : List L) (list : NamedList E) → HoldsNamed says name lines list → AreDistinct list.names →
    AreDistinct (map named list.entries)
names-differ says name named said lines list h differ =
    subst AreDistinct (h.names ∙ sym (in-turn-names says name named said lines list.entries h.entries)) differ
