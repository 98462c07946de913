-- What is left of a pattern decides what the next word is.
use Rattle.std.proofs.Common.{◌≡◌, Bool, true, false, not, List, [], ◌∷◌, ◌++◌, length, refl, sym, ◌∙◌, ap, subst, arith, length-append, ◌⊎◌, inl, inr}
use Rattle.std.specs.List.{AllByRecursion}
use Rattle.std.proofs.lemmas.List.{append-nil}
use Rattle.reading.specs.Pattern.{Pattern, Never, Empty, One, Then, Or, Many, joined, Matches, Begins}
use Rattle.reading.specs.Tests.{skips, avoids, comes_last, HasSamples}
use Rattle.reading.specs.inside.Left.{left, lefts}
use Rattle.reading.proofs.Left.{both, not-true, skips-to, skips-of, left-to, left-from, live, IsNeat, left-neat}
use Rattle.reading.proofs.Run.{nothing_left}

-- ## a sort that comes last

-- The word is in the first or in the second part.
in-parts : {W : Type 0} (a b x y : List W) (w : W) → a ++ w ∷ b ≡ x ++ y →
    ((d : List W) × (x ≡ a ++ w ∷ d)) ⊎ ((d : List W) × (y ≡ d ++ w ∷ b) × (a ≡ x ++ d))
in-parts a b [] y w e = inr (a, sym e, refl)
in-parts [] b (v ∷ x) y w e = inl (x, (let h : w ≡ v = cc in ap (λ z. z ∷ x) (sym h)))
in-parts {W} (c ∷ a) b (v ∷ x) y w e =
    let h : c ≡ v = cc in
    let t : a ++ w ∷ b ≡ x ++ y = cc in
    elim (in-parts a b x y w t) [
      | inl k ↦ inl (k.0, (let q : x ≡ a ++ w ∷ k.0 = k.1 in cc))
      | inr k ↦ inr (k.0, k.1, (let q : a ≡ x ++ k.0 = k.2 in cc))
    ]

avoid-parts : {W S : Type 0} (sort : W → S) (s : S) (p : Pattern S) → ((a b : List W) (w : W) → sort w ≡ s → Matches sort p (a ++ w ∷ b) → ⊥) →
    (parts : List (List W)) → AllByRecursion (Matches sort p) parts → (a b : List W) (w : W) → sort w ≡ s → a ++ w ∷ b ≡ joined parts → ⊥
avoid-parts sort s p none [] h a b w k e = let n : length (a ++ w ∷ b) ≡ 0 = ap length e in absurd (omega (arith, length-append a (w ∷ b)))
avoid-parts sort s p none (x ∷ parts) h a b w k e =
    elim (in-parts a b x (joined parts) w e) [
      | inl t ↦ none a t.0 w k (subst (λ z. Matches sort p z) t.1 h.0)
      | inr t ↦ avoid-parts sort s p none parts h.1 t.0 b w k (sym t.1)
    ]

one-avoids : {W S : Type 0} (sort : W → S) (s : S) (class : S → Bool) → not (class s) ≡ true → (a b : List W) (w : W) → sort w ≡ s →
    (v : W) → class (sort v) ≡ true → a ++ w ∷ b ≡ v ∷ [] → ⊥
one-avoids sort s class h [] b w k v m e =
    let head : w ≡ v = cc in
    let c : true ≡ false = sym m ∙ ap (λ z. class (sort z)) (sym head) ∙ ap class k ∙ not-true (class s) h in cc
one-avoids sort s class h (c ∷ a) b w k v m e = let n : length (c ∷ (a ++ w ∷ b)) ≡ 1 = ap length e in absurd (omega (arith, length-append a (w ∷ b)))

avoid-none : {W S : Type 0} (sort : W → S) (s : S) (p : Pattern S) → avoids s p ≡ true → (a b : List W) (w : W) → sort w ≡ s → Matches sort p (a ++ w ∷ b) → ⊥
avoid-none sort s Never h a b w k m = m
avoid-none sort s Empty h a b w k m = let n : length (a ++ w ∷ b) ≡ 0 = ap length m in absurd (omega (arith, length-append a (w ∷ b)))
avoid-none {W} sort s (One class) h a b w k m = one-avoids sort s class h a b w k m.0 m.1 m.2
avoid-none sort s (Then p q) h a b w k m =
    let t = both (avoids s p) (avoids s q) h in
    elim (in-parts a b m.0 m.1 w m.4) [
      | inl r ↦ avoid-none sort s p t.0 a r.0 w k (subst (λ z. Matches sort p z) r.1 m.2)
      | inr r ↦ avoid-none sort s q t.1 r.0 b w k (subst (λ z. Matches sort q z) r.1 m.3)
    ]
avoid-none sort s (Or p q) h a b w k m =
    let t = both (avoids s p) (avoids s q) h in
    elim m [ inl r ↦ avoid-none sort s p t.0 a b w k r | inr r ↦ avoid-none sort s q t.1 a b w k r ]
avoid-none sort s (Many p) h a b w k m = avoid-parts sort s p (avoid-none sort s p h) m.0 m.1 a b w k m.2

pub last : {W S : Type 0} (sort : W → S) (s : S) (p : Pattern S) → comes_last s p ≡ true → (a b : List W) (w : W) → sort w ≡ s → Matches sort p (a ++ w ∷ b) → b ≡ []
last sort s Never h a b w k m = absurd m
last sort s Empty h a b w k m = absurd (let n : length (a ++ w ∷ b) ≡ 0 = ap length m in omega (arith, length-append a (w ∷ b)))
last sort s (One class) h a b w k m =
    let n : length (a ++ w ∷ b) ≡ 1 = ap length m.2 in nothing_left b (omega (arith, length-append a (w ∷ b)))
last sort s (Then p q) h a b w k m =
    let t = both (avoids s p) (comes_last s q) h in
    elim (in-parts a b m.0 m.1 w m.4) [
      | inl r ↦ absurd (avoid-none sort s p t.0 a r.0 w k (subst (λ z. Matches sort p z) r.1 m.2))
      | inr r ↦ last sort s q t.1 r.0 b w k (subst (λ z. Matches sort q z) r.1 m.3)
    ]
last sort s (Or p q) h a b w k m =
    let t = both (comes_last s p) (comes_last s q) h in
    elim m [ inl r ↦ last sort s p t.0 a b w k r | inr r ↦ last sort s q t.1 a b w k r ]
last sort s (Many p) h a b w k m = absurd (avoid-none sort s (Many p) h a b w k m)

-- ## after words

pub lefts-more : {W S : Type 0} (sort : W → S) (p : Pattern S) (ws : List W) (w : W) → lefts sort p (ws ++ w ∷ []) ≡ left (sort w) (lefts sort p ws)
lefts-more sort p [] w = refl
lefts-more sort p (v ∷ ws) w = lefts-more sort (left (sort v) p) ws w

pub lefts-to : {W S : Type 0} (sort : W → S) (p : Pattern S) (ws x : List W) → Matches sort (lefts sort p ws) x → Matches sort p (ws ++ x)
lefts-to sort p [] x m = m
lefts-to sort p (w ∷ ws) x m = left-to sort p w (ws ++ x) (lefts-to sort (left (sort w) p) ws x m)

pub lefts-from : {W S : Type 0} (sort : W → S) (p : Pattern S) (ws x : List W) → Matches sort p (ws ++ x) → Matches sort (lefts sort p ws) x
lefts-from sort p [] x m = m
lefts-from sort p (w ∷ ws) x m = lefts-from sort (left (sort w) p) ws x (left-from sort p w (ws ++ x) m)

neat-left : {S : Type 0} (n : List S) (u : S → Bool) (s : S) (p : Pattern S) → IsNeat n u p → IsNeat n u (left s p)
neat-left n u s p h = elim h [ inl t ↦ inl (ap (λ z. left s z) t) | inr t ↦ left-neat n u s p t ]

pub lefts-neat : {W S : Type 0} (sort : W → S) (n : List S) (u : S → Bool) (p : Pattern S) (ws : List W) → IsNeat n u p → IsNeat n u (lefts sort p ws)
lefts-neat sort n u p [] h = h
lefts-neat sort n u p (w ∷ ws) h = lefts-neat sort n u (left (sort w) p) ws (neat-left n u (sort w) p h)

-- ## what the rest tells

pub rest-never : {W S : Type 0} (sort : W → S) (p : Pattern S) (ws : List W) → lefts sort p ws ≡ Never → Begins sort p ws → ⊥
rest-never sort p ws e b = subst (λ z. Matches sort z b.0) e (lefts-from sort p ws b.0 b.1)

pub rest-some : {W S : Type 0} (sort : W → S) (n : List S) (u : S → Bool) → HasSamples sort u → (p : Pattern S) (ws : List W) → IsNeat n u p →
    (lefts sort p ws ≡ Never → ⊥) → Begins sort p ws
rest-some sort n u all p ws h some = elim (lefts-neat sort n u p ws h) [
  | inl t ↦ absurd (some t)
  | inr t ↦ let l = live sort n u all (lefts sort p ws) t in (l.0, lefts-to sort p ws l.0 l.1)
]

pub rest-skips : {W S : Type 0} (sort : W → S) (p : Pattern S) (ws : List W) → skips (lefts sort p ws) ≡ true → Matches sort p ws
rest-skips sort p ws h = subst (λ z. Matches sort p z) (append-nil ws) (lefts-to sort p ws [] (skips-to sort (lefts sort p ws) h))

pub rest-goes_on : {W S : Type 0} (sort : W → S) (p : Pattern S) (ws : List W) → skips (lefts sort p ws) ≡ false → Matches sort p ws → ⊥
rest-goes_on sort p ws h m =
    let t : true ≡ false = sym (skips-of sort (lefts sort p ws) (lefts-from sort p ws [] (subst (λ z. Matches sort p z) (sym (append-nil ws)) m))) ∙ h in cc
