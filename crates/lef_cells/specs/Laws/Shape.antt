-- Units of a few words by the sorts of their words.
use Rattle.std.proofs.Common.{◌≡◌, Bool, true, false, ◌&&◌, ◌||◌, List, [], ◌∷◌, ◌++◌, map, inl, inr, refl, sym, ◌∙◌, ap, subst}
use Rattle.reading.specs.Pattern.{Pattern, One, Then, Or, Matches}

-- Whether words of these sorts may be of the pattern. The last word is asked first, so that a list of another length
-- is told without the sorts.
abbrev pub may : {S : Type 0} → Pattern S → List S → Bool
may (One class) [] = false
may (One class) (s ∷ []) = class s
may (One class) (s ∷ t ∷ sorts) = false
may (Then (One class) p) [] = false
may (Then (One class) p) (s ∷ sorts) = may p sorts && class s
may (Or p q) sorts = may p sorts || may q sorts
may p sorts = true

both : (b c : Bool) → b ≡ true → c ≡ true → (b && c) ≡ true
both true c h k = k
both false c h k = absurd (let t : false ≡ true = h in cc)

left : (b c : Bool) → b ≡ true → (b || c) ≡ true
left true c h = refl
left false c h = absurd (let t : false ≡ true = h in cc)

right : (b c : Bool) → c ≡ true → (b || c) ≡ true
right true c h = refl
right false c h = h

-- The words of a pattern may be of it.
pub may-be : {W S : Type 0} (sort : W → S) (p : Pattern S) (words : List W) → Matches sort p words →
    may p (map sort words) ≡ true
may-be sort (One class) words h = subst (λ z. may (One class) (map sort z) ≡ true) (sym h.2) h.1
may-be sort (Then (One class) p) words h =
    let is : words ≡ h.2.0 ∷ h.1 = h.4 ∙ ap (λ z. z ++ h.1) h.2.2 in
    subst (λ z. may (Then (One class) p) (map sort z) ≡ true) (sym is) (both _ _ (may-be sort p h.1 h.3) h.2.1)
may-be sort (Or p q) words (inl h) = left _ _ (may-be sort p words h)
may-be sort (Or p q) words (inr h) = right _ _ (may-be sort q words h)
may-be sort p words h = refl
