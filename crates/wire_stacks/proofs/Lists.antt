-- Lists that are made of lists, place after place.
use Rattle.std.proofs.Common.{◌≡◌, ℕ, ◌+◌, ◌<◌, ◌⊎◌, inl, inr, List, [], ◌∷◌, ◌++◌, length, get_or, slice_get, Some, sym, ◌∙◌, ap, subst, arith}
use Rattle.std.proofs.lemmas.Bool.{cases_eq}
use Rattle.std.proofs.lemmas.Grind.{common_steps}
use Rattle.std.proofs.lemmas.List.{length-append, get_or_append_left}
use Rattle.std.proofs.lemmas.Option.{slice_get_within, slice_get-get_or, get_or_from_slice_get}

-- What holds of each two that stand at one place of two lists holds with one more.
pub indexed_more : {X Y : Type 0} (R : ℕ → X → Y → Type 0) (xs : List X) (ys : List Y) (n : ℕ) (x : X) (y : Y) → n ≡ length ys
    → x ≡ get_or xs n x → R n x y
    → ((k : ℕ) (a : X) (b : Y) → slice_get xs k ≡ Some a → slice_get ys k ≡ Some b → R k a b)
    → (k : ℕ) (a : X) (b : Y) → slice_get xs k ≡ Some a → slice_get (ys ++ y ∷ []) k ≡ Some b → R k a b
indexed_more {X} {Y} R xs ys n x y count is has each k a b at_a at_b = by (cases_eq k n)
  where
    within : k < length ys + 1
    within = let low = slice_get_within (ys ++ y ∷ []) k b at_b in omega (arith, length-append ys (y ∷ []))

    by : (k ≡ n) ⊎ (k ≡ n → ⊥) → R k a b
    by (inl last) =
        let end : get_or (ys ++ y ∷ []) (length ys) y ≡ y = grind (arith, common_steps) in
        let same_b : y ≡ b = sym end ∙ ap (λ i. get_or (ys ++ y ∷ []) i y) (sym count ∙ sym last) ∙ get_or_from_slice_get (ys ++ y ∷ []) k b y at_b in
        let same_a : x ≡ a = is ∙ ap (λ i. get_or xs i x) (sym last) ∙ get_or_from_slice_get xs k a x at_a in
        subst (λ z. R k z b) same_a (subst (λ z. R k x z) same_b (subst (λ i. R i x y) (sym last) has))
    by (inr other) =
        let low : k < length ys = omega (arith, within, count) in
        let there : get_or ys k b ≡ b = sym (get_or_append_left ys (y ∷ []) b k low) ∙ get_or_from_slice_get (ys ++ y ∷ []) k b b at_b in
        each k a b at_a (slice_get-get_or ys k b low ∙ ap Some there)

-- Nothing stands at a place of the empty list.
pub indexed_none : {X Y : Type 0} (R : ℕ → X → Y → Type 0) (xs : List X) (ys : List Y) → ys ≡ []
    → (k : ℕ) (a : X) (b : Y) → slice_get xs k ≡ Some a → slice_get ys k ≡ Some b → R k a b
indexed_none R xs ys none k a b at_a at_b = let low = slice_get_within ys k b at_b in absurd (omega (arith, ap length none))

-- What holds before a place, and there, holds before the next one.
pub before_more : {X : Type 0} (P : X → Type 0) (xs : List X) (i : ℕ) (d : X) → ((k : ℕ) (other : X) → k < i → slice_get xs k ≡ Some other → P other)
    → P (get_or xs i d) → (k : ℕ) (other : X) → k < i + 1 → slice_get xs k ≡ Some other → P other
before_more {X} P xs i d each has k other low at = by (cases_eq k i)
  where
    by : (k ≡ i) ⊎ (k ≡ i → ⊥) → P other
    by (inl last) = subst P (get_or_from_slice_get xs k other d at) (subst (λ j. P (get_or xs j d)) (sym last) has)
    by (inr less) = each k other (omega arith) at
