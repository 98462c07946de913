-- Names that stand, and the table that holds them.
use Rattle.std.proofs.Common.{◌≡◌, ℕ, inl, inr, Bool, true, false, cond, List, [], ◌∷◌, ◌++◌, Contains, refl, sym, ◌∙◌, ap}
use Rattle.list_laws.specs.Among.{is_among}
use Rattle.list_laws.specs.Laws.Among.{among, member}
use Rattle.name_table.specs.Numbering.{TakesName}
use Rattle.pdn_script.specs.Names.{with_name}

not_among : (names : List (List ℕ)) (name : List ℕ) (b : Bool) → is_among names name ≡ b → (Contains names name → ⊥) → b ≡ false
not_among names name true e none = absurd (none (member names name e))
not_among names name false e none = refl

-- The names after one more.
pub added : (old new : List (List ℕ)) (name : List ℕ) → TakesName old new name → new ≡ with_name old name
added old new name (inl h) = h.1 ∙ sym (ap (λ z. cond z old (old ++ name ∷ [])) (among old name h.0))
added old new name (inr h) = h.1 ∙ sym (ap (λ z. cond z old (old ++ name ∷ [])) (not_among old name (is_among old name) refl h.0))
