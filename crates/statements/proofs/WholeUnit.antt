-- Which words a unit has.
use Rattle.std.proofs.Common.{◌≡◌, true, List, [], ◌∷◌, inl, inr, refl, sym, subst}
use Rattle.reading.specs.Pattern.{Matches}
use Rattle.reading.specs.Word.{Token}
use Rattle.statements.specs.Sort.{sort_of}
use Rattle.statements.specs.Rule.{is_set, is_name, is_number, is_semicolon, is_end, statement, unit}

-- A statement, or the end of the text.
abbrev pub IsWholeUnit : List Token → Type 0
IsWholeUnit (a ∷ []) = is_end (sort_of a) ≡ true
IsWholeUnit (a ∷ b ∷ c ∷ d ∷ []) =
    (is_set (sort_of a) ≡ true) × (is_name (sort_of b) ≡ true) × (is_number (sort_of c) ≡ true) × (is_semicolon (sort_of d) ≡ true)
IsWholeUnit words = ⊥

pub whole-to : (words : List Token) → IsWholeUnit words → Matches sort_of unit words
whole-to (a ∷ []) h = inr (a, h, refl)
whole-to (a ∷ b ∷ c ∷ d ∷ []) h =
    inl (a ∷ [], b ∷ c ∷ d ∷ [], (a, h.0, refl), (b ∷ [], c ∷ d ∷ [], (b, h.1, refl), (c ∷ [], d ∷ [], (c, h.2, refl), (d, h.3, refl), refl), refl), refl)
whole-to words h = absurd h

statement-from : (words : List Token) → Matches sort_of statement words → IsWholeUnit words
statement-from words m =
    let is : words ≡ m.2.0 ∷ m.3.2.0 ∷ m.3.3.2.0 ∷ m.3.3.3.0 ∷ [] = cc in
    subst IsWholeUnit (sym is) (m.2.1, m.3.2.1, m.3.3.2.1, m.3.3.3.1)

pub whole-from : (words : List Token) → Matches sort_of unit words → IsWholeUnit words
whole-from words (inl m) = statement-from words m
whole-from words (inr m) = subst IsWholeUnit (sym m.2) m.1
