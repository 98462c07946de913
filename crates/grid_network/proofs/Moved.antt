-- A list of what a function makes of things is sorted: then it is what the function makes of the things in another order.
use Rattle.std.proofs.Common.{◌≡◌, ◌≢◌, ◌⊎◌, inl, inr, ℕ, ◌<◌, ◌≤◌, List, [], ◌∷◌, map, set, length, get_or, refl, sym, ap, ◌∙◌, arith}
use Rattle.std.specs.List.{swap}
use Rattle.std.specs.List.Sorted.{IsPermutation}
use Rattle.std.proofs.lemmas.Bool.{cases_lt, cases_eq}
use Rattle.std.proofs.lemmas.List.{length-map, map-set}
use Rattle.std.proofs.Math.ListN.{get_or-map}
use Rattle.std.proofs.lemmas.List.Edits.{length-swap, swap_is, Swapped, swapped_from_swap}
use Rattle.std.proofs.lemmas.List.Sorted.{IsPermutation-keeps, IsPermutation-swap, IsPermutation-sym, Contains-permutation}
use Rattle.grid_network.specs.Listing.{ListsAll, EachOnce}

-- ---- an exchange keeps things apart

-- the place from which an exchange of a and b takes the thing at p
moved_from : {K : Type 0} (f g : ℕ → K) (a b n : ℕ) → Swapped f g a b → a < n → b < n → (p : ℕ) → p < n → (s : ℕ) × (s < n) × (g p ≡ f s) × (p ≡ a → s ≡ b) × (p ≡ b → s ≡ a) × ((p ≡ a → ⊥) → (p ≡ b → ⊥) → s ≡ p)
moved_from {K} f g a b n sw la lb p lp = by (cases_eq p a) (cases_eq p b)
  where
    by : ((p ≡ a) ⊎ (p ≡ a → ⊥)) → ((p ≡ b) ⊎ (p ≡ b → ⊥)) → (s : ℕ) × (s < n) × (g p ≡ f s) × (p ≡ a → s ≡ b) × (p ≡ b → s ≡ a) × ((p ≡ a → ⊥) → (p ≡ b → ⊥) → s ≡ p)
    by (inl ea) k = (b, lb, ap g ea ∙ sw.0, (λ e. refl), (λ eb. omega (arith, ea, eb)), (λ u v. absurd (u ea)))
    by (inr na) (inl eb) = (a, la, ap g eb ∙ sw.1, (λ e. absurd (na e)), (λ e. refl), (λ u v. absurd (v eb)))
    by (inr na) (inr nb) = (p, lp, sw.2 p na nb, (λ e. absurd (na e)), (λ e. absurd (nb e)), (λ u v. refl))

images_differ : (a b i j s t : ℕ) → (i ≡ j → ⊥) → (i ≡ a → s ≡ b) → (i ≡ b → s ≡ a) → ((i ≡ a → ⊥) → (i ≡ b → ⊥) → s ≡ i) → (j ≡ a → t ≡ b) → (j ≡ b → t ≡ a) → ((j ≡ a → ⊥) → (j ≡ b → ⊥) → t ≡ j) → s ≡ t → ⊥
images_differ a b i j s t ne p q r x y z e = grind arith

apart_either : {X : Type 0} (xs : List X) (s t : ℕ) (d : X) → EachOnce xs → (s ≡ t → ⊥) → s < length xs → t < length xs → get_or xs s d ≢ get_or xs t d
apart_either {X} xs s t d once ne ls lt = by (cases_lt s t) (cases_lt t s)
  where
    by : ((s < t) ⊎ (t ≤ s)) → ((t < s) ⊎ (s ≤ t)) → get_or xs s d ≢ get_or xs t d
    by (inl h) k = once s t d h lt
    by (inr h) (inl k) = λ e. once t s d k ls (sym e)
    by (inr h) (inr k) = absurd (ne (omega arith))

pub once_swap : {X : Type 0} (xs : List X) (a b : ℕ) → a < length xs → b < length xs → EachOnce xs → EachOnce (swap xs a b)
once_swap xs a b la lb once i j d ij lj e =
    let n = length xs in
    let long = length-swap xs a b in
    let sw = swapped_from_swap xs (swap xs a b) a b d la lb refl in
    let u = moved_from (λ k. get_or xs k d) (λ k. get_or (swap xs a b) k d) a b n sw la lb i (omega (arith, long)) in
    let v = moved_from (λ k. get_or xs k d) (λ k. get_or (swap xs a b) k d) a b n sw la lb j (omega (arith, long)) in
    apart_either xs u.0 v.0 d once (images_differ a b i j u.0 v.0 (λ k. omega (arith, k)) u.3 u.4 u.5 v.3 v.4 v.5) u.1 v.1 (sym u.2 ∙ e ∙ v.2)

listed_swap : {X : Type 0} (Q : X → Type 0) (xs : List X) (a b : ℕ) → a < length xs → b < length xs → ListsAll Q xs → ListsAll Q (swap xs a b)
listed_swap Q xs a b la lb all x =
    let moved = IsPermutation-swap xs (swap xs a b) a b la lb refl in
    ((λ h. (all x).0 (Contains-permutation (swap xs a b) xs x (IsPermutation-sym xs (swap xs a b) moved) h)), (λ q. Contains-permutation xs (swap xs a b) x moved ((all x).1 q)))

map_swap : {X Y : Type 0} (f : X → Y) (l : List X) (i j : ℕ) (d : X) → i < length l → j < length l → map f (swap l i j) ≡ swap (map f l) i j
map_swap f l i j d p q =
    let long = length-map l f in
    ap (map f) (sym (swap_is l i j d p q)) ∙ map-set f (set l i (get_or l j d)) j (get_or l i d)
    ∙ (λ t. set ((map-set f l i (get_or l j d) ∙ ap (set (map f l) i) (sym (get_or-map f l j d))) t) j (sym (get_or-map f l i d) t))
    ∙ swap_is (map f l) i j (f d) (omega (arith, long)) (omega (arith, long))

-- ---- all exchanges

-- the list is what f makes of the things of a kind, each once
abbrev pub Made : {X Y : Type 0} → (X → Y) → (X → Type 0) → List Y → Type 0
Made {X} f Q ys = (xs : List X) × (ys ≡ map f xs) × ListsAll Q xs × EachOnce xs

made_swap : {X Y : Type 0} (f : X → Y) (Q : X → Type 0) (l : List Y) (i j : ℕ) → i < length l → j < length l → Made f Q l → Made f Q (swap l i j)
made_swap f Q l i j p q ([], e, all, once) = let n = ap (λ k. length k) e in absurd (omega (arith, n))
made_swap f Q l i j p q (z ∷ zs, e, all, once) =
    let n = ap (λ k. length k) e ∙ length-map (z ∷ zs) f in
    let p' : i < length (z ∷ zs) = omega (arith, n) in
    let q' : j < length (z ∷ zs) = omega (arith, n) in
    (swap (z ∷ zs) i j, ap (λ k. swap k i j) e ∙ sym (map_swap f (z ∷ zs) i j z p' q'), listed_swap Q (z ∷ zs) i j p' q' all, once_swap (z ∷ zs) i j p' q' once)

pub made_sorted : {X Y : Type 0} (f : X → Y) (Q : X → Type 0) (ys zs : List Y) → IsPermutation ys zs → Made f Q ys → Made f Q zs
made_sorted f Q ys zs moved made = IsPermutation-keeps ys (Made f Q) made (λ l i j p q h. made_swap f Q l i j p q h) zs moved
