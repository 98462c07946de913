-- What holds of each two of a list, in any order.
use Rattle.std.proofs.Common.{◌≡◌, ℕ, ◌<◌, ◌≤◌, ◌⊎◌, inl, inr, List, length, get_or, AllPairs, subst, refl, sym, ap, ◌∙◌, arith}
use Rattle.std.specs.List.{swap}
use Rattle.std.specs.List.Sorted.{IsPermutation}
use Rattle.std.proofs.lemmas.Bool.{cases_lt, cases_eq}
use Rattle.std.proofs.lemmas.List.Edits.{Swapped, swapped_from_swap, length-swap}
use Rattle.std.proofs.lemmas.List.Sorted.{IsPermutation-keeps}

-- R holds of each two at different places
abbrev AllApart : {X : Type 0} → (X → X → Type 0) → List X → Type 0
AllApart {X} R xs = (i j : ℕ) (d : X) → i < length xs → j < length xs → (i ≡ j → ⊥) → R (get_or xs i d) (get_or xs j d)

-- where an element of a list with two exchanged stood before
abbrev pub Stood : ℕ → ℕ → ℕ → ℕ → Type 0
Stood a b i k = ((i ≡ a) × (k ≡ b)) ⊎ (((i ≡ b) × (k ≡ a)) ⊎ ((i ≡ a → ⊥) × (i ≡ b → ⊥) × (k ≡ i)))

pub stood : {X : Type 0} (f g : ℕ → X) (a b i : ℕ) → Swapped f g a b → (k : ℕ) × Stood a b i k × (g i ≡ f k)
stood {X} f g a b i swapped = by_first (cases_eq i a) (cases_eq i b)
  where
    by_first : (i ≡ a) ⊎ (i ≡ a → ⊥) → (i ≡ b) ⊎ (i ≡ b → ⊥) → (k : ℕ) × Stood a b i k × (g i ≡ f k)
    by_first (inl is) _ = (b, inl (is, refl), ap g is ∙ swapped.0)
    by_first (inr _) (inl is) = (a, inr (inl (is, refl)), ap g is ∙ swapped.1)
    by_first (inr not_a) (inr not_b) = (i, inr (inr (not_a, not_b, refl)), swapped.2 i not_a not_b)

pub within_of : (a b i k n : ℕ) → a < n → b < n → i < n → Stood a b i k → k < n
within_of a b i k n in_a in_b in_i (inl w) = omega (arith, w.1)
within_of a b i k n in_a in_b in_i (inr (inl w)) = omega (arith, w.1)
within_of a b i k n in_a in_b in_i (inr (inr w)) = omega (arith, w.2)

pub differ : (a b i j k m : ℕ) → Stood a b i k → Stood a b j m → (i ≡ j → ⊥) → k ≡ m → ⊥
differ a b i j k m (inl v) (inl w) ne same = ne (v.0 ∙ sym w.0)
differ a b i j k m (inl v) (inr (inl w)) ne same = ne (v.0 ∙ sym w.1 ∙ sym same ∙ v.1 ∙ sym w.0)
differ a b i j k m (inl v) (inr (inr w)) ne same = w.1 (sym w.2 ∙ sym same ∙ v.1)
differ a b i j k m (inr (inl v)) (inl w) ne same = ne (v.0 ∙ sym w.1 ∙ sym same ∙ v.1 ∙ sym w.0)
differ a b i j k m (inr (inl v)) (inr (inl w)) ne same = ne (v.0 ∙ sym w.0)
differ a b i j k m (inr (inl v)) (inr (inr w)) ne same = w.0 (sym w.2 ∙ sym same ∙ v.1)
differ a b i j k m (inr (inr v)) (inl w) ne same = v.1 (sym v.2 ∙ same ∙ w.1)
differ a b i j k m (inr (inr v)) (inr (inl w)) ne same = v.0 (sym v.2 ∙ same ∙ w.1)
differ a b i j k m (inr (inr v)) (inr (inr w)) ne same = ne (sym v.2 ∙ same ∙ w.2)

apart_swap : {X : Type 0} (R : X → X → Type 0) (l : List X) (a b : ℕ) → a < length l → b < length l → AllApart R l → AllApart R (swap l a b)
apart_swap {X} R l a b in_a in_b apart i j d in_i in_j ne =
    let long : length (swap l a b) ≡ length l = length-swap l a b in
    let swapped = swapped_from_swap l (swap l a b) a b d in_a in_b refl in
    let k = stood (λ i. get_or l i d) (λ i. get_or (swap l a b) i d) a b i swapped in
    let m = stood (λ i. get_or l i d) (λ i. get_or (swap l a b) i d) a b j swapped in
    let in_k : k.0 < length l = within_of a b i k.0 (length l) in_a in_b (omega (arith, long)) k.1 in
    let in_m : m.0 < length l = within_of a b j m.0 (length l) in_a in_b (omega (arith, long)) m.1 in
    subst (λ x. R x (get_or (swap l a b) j d)) (sym k.2) (subst (λ y. R (get_or l k.0 d) y) (sym m.2) (apart k.0 m.0 d in_k in_m (differ a b i j k.0 m.0 k.1 m.1 ne)))

-- what holds of each two in either order still holds after they change places
pub apart_permuted : {X : Type 0} (R : X → X → Type 0) → ((x y : X) → R x y → R y x) → (xs ys : List X) → IsPermutation xs ys → AllPairs R xs → AllPairs R ys
apart_permuted {X} R flips xs ys moved pairs i j d less within =
    IsPermutation-keeps xs (AllApart R) start (λ l a b in_a in_b h. apart_swap R l a b in_a in_b h) ys moved i j d (omega arith) within (λ same. omega arith)
  where
    by_place : (i j : ℕ) (d : X) → i < length xs → j < length xs → (i ≡ j → ⊥) → (i < j) ⊎ (j ≤ i) → R (get_or xs i d) (get_or xs j d)
    by_place i j d in_i in_j ne (inl before) = pairs i j d before in_j
    by_place i j d in_i in_j ne (inr behind) = flips _ _ (pairs j i d (omega arith) in_i)

    start : AllApart R xs
    start i j d in_i in_j ne = by_place i j d in_i in_j ne (cases_lt i j)
