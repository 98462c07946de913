-- What is written net by net is what the grid has, in its order.
use Rattle.std.proofs.Common.{◌≡◌, ℕ, suc, ◌+◌, ◌-◌, ◌<◌, ◌≤◌, ◌==◌, true, false, cond, All, List, [], ◌∷◌, ◌++◌, length, map, filter, get_or, refl, sym, ◌∙◌, ap, arith, append_assoc, inl, inr}
use Rattle.std.specs.Prelude.{flat_map, slice_index_or}
use Rattle.std.specs.List.{enumerate_from}
use Rattle.std.specs.Ordering.{nat_cmp, ordering_then, is_gt}
use Rattle.std.specs.declared.cmp.Ordering.{Ordering}
use Rattle.std.specs.declared.cmp.Ordering.TheVariants.{Less, Equal, Greater}
use Rattle.std.proofs.lemmas.Bool.{cases_Bool, false≢true}
use Rattle.std.proofs.lemmas.Bool.Decides.{nat_tests}
use Rattle.std.proofs.lemmas.Cmp.{by_ranked, ranked}
use Rattle.std.proofs.lemmas.List.Concat.{flat_map_single}
use Rattle.std.proofs.lemmas.List.Elements.{All-head, All-tail}

-- ## orders by net first

not_greater : (a b : Ordering) → is_gt (ordering_then a b) ≡ false → is_gt a ≡ false
not_greater Less b h = refl
not_greater Equal b h = refl
not_greater Greater b h = h

not_then : (a : Ordering) → is_gt a ≡ false → is_gt (ordering_then a Equal) ≡ false
not_then Less h = refl
not_then Equal h = refl
not_then Greater h = h

pub net_first : (x y : ℕ) (a b c d : Ordering) → is_gt (ordering_then (ordering_then (ordering_then (ordering_then (nat_cmp x y) a) b) c) d) ≡ false → x ≤ y
net_first x y a b c d h =
    let e = not_greater (nat_cmp x y) a (not_greater _ b (not_greater _ c (not_greater _ d h))) in
    by_ranked (x < y) (x ≡ y) (y < x) (nat_cmp x y) (ranked x y (nat_cmp x y) refl) (λ o p. omega arith) (λ o p. omega arith) (λ o p. absurd (false≢true (sym e ∙ ap is_gt o)))

pub net_first_of_four : (x y : ℕ) (a b c : Ordering) → is_gt (ordering_then (ordering_then (ordering_then (nat_cmp x y) a) b) c) ≡ false → x ≤ y
net_first_of_four x y a b c h = net_first x y a b c Equal (not_then (ordering_then (ordering_then (ordering_then (nat_cmp x y) a) b) c) h)

-- ## entries of nets

module _ {X : Type 0} (net_of : X → ℕ) where
  abbrev of : ℕ → List X → List X
  of k xs = filter (λ x. net_of x == k) xs

  abbrev pub Above : ℕ → List X → Type 0
  Above n [] = Unit {0}
  Above n (y ∷ ys) = (n ≤ net_of y) × Above n ys

  abbrev pub Rises : List X → Type 0
  Rises [] = Unit {0}
  Rises (x ∷ xs) = Above (net_of x) xs × Rises xs

  above_all : (n : ℕ) (xs : List X) → ((j : ℕ) (d : X) → j < length xs → n ≤ net_of (get_or xs j d)) → Above n xs
  above_all n [] h = tt
  above_all n (x ∷ xs) h = (h 0 x (omega arith), above_all n xs (λ j d lt. h (suc j) d (omega arith)))

  pub rises_all : (xs : List X) → ((i j : ℕ) (d : X) → i < j → j < length xs → net_of (get_or xs i d) ≤ net_of (get_or xs j d)) → Rises xs
  rises_all [] h = tt
  rises_all (x ∷ xs) h = (
    above_all (net_of x) xs (λ j d lt. h 0 (suc j) d (omega arith) (omega arith)),
    rises_all xs (λ i j d lt within. h (suc i) (suc j) d (omega arith) (omega arith)),
  )

  kept : (k : ℕ) (x : X) (xs : List X) → (net_of x == k) ≡ true → of k (x ∷ xs) ≡ x ∷ of k xs
  kept k x xs e = ap (λ b. cond b (x ∷ of k xs) (of k xs)) e

  left_out : (k : ℕ) (x : X) (xs : List X) → (net_of x == k) ≡ false → of k (x ∷ xs) ≡ of k xs
  left_out k x xs e = ap (λ b. cond b (x ∷ of k xs) (of k xs)) e

  differ : (n k : ℕ) → n < k → (n == k) ≡ false
  differ n k lt = grind (arith, nat_tests)

  differ_above : (n k : ℕ) → k < n → (n == k) ≡ false
  differ_above n k lt = grind (arith, nat_tests)

  same : (n k : ℕ) → n ≡ k → (n == k) ≡ true
  same n k e = grind (arith, nat_tests)

  is_same : (n k : ℕ) → (n == k) ≡ true → n ≡ k
  is_same n k e = grind (arith, e)

  is_other : (n k : ℕ) → (n == k) ≡ false → k ≤ n → k < n
  is_other n k e le = grind (arith, e)

  none_of : (k m : ℕ) (xs : List X) → k < m → Above m xs → of k xs ≡ []
  none_of k m [] lt h = refl
  none_of k m (x ∷ xs) lt h =
      let first : m ≤ net_of x = h.0 in
      left_out k x xs (differ_above (net_of x) k (omega arith)) ∙ none_of k m xs lt h.1

  module _ {Y : Type 0} (g : List ℕ → X → List Y) where
    -- Net by net, what the entries of each net give.
    abbrev pub by_net : List (List ℕ) → ℕ → List X → List Y
    by_net names from xs = flat_map (λ (net : ℕ × List ℕ). flat_map (g net.1) (of net.0 xs)) (enumerate_from from names)

    none_by_net : (names : List (List ℕ)) (from : ℕ) → by_net names from [] ≡ []
    none_by_net [] from = refl
    none_by_net (n ∷ names) from = none_by_net names (from + 1)

    -- An entry of an earlier net.
    skip : (names : List (List ℕ)) (from : ℕ) (x : X) (xs : List X) → net_of x < from → by_net names from (x ∷ xs) ≡ by_net names from xs
    skip [] from x xs lt = refl
    skip (n ∷ names) from x xs lt =
        ap (λ z. flat_map (g n) z ++ by_net names (from + 1) (x ∷ xs)) (left_out from x xs (differ (net_of x) from lt))
        ∙ ap (λ z. flat_map (g n) (of from xs) ++ z) (skip names (from + 1) x xs (omega arith))

    name_here : (n : List ℕ) (names : List (List ℕ)) (i : ℕ) → i ≡ 0 → slice_index_or (n ∷ names) i [] ≡ n
    name_here n names i e = ap (λ z. slice_index_or (n ∷ names) z []) e

    name_later : (n : List ℕ) (names : List (List ℕ)) (i j : ℕ) → i ≡ suc j → slice_index_or (n ∷ names) i [] ≡ slice_index_or names j []
    name_later n names i j e = ap (λ z. slice_index_or (n ∷ names) z []) e

    -- An entry before others, none of which is of an earlier net.
    step : (names : List (List ℕ)) (from : ℕ) (x : X) (xs : List X) → from ≤ net_of x → net_of x < from + length names → Above (net_of x) xs →
        by_net names from (x ∷ xs) ≡ g (slice_index_or names (net_of x - from) []) x ++ by_net names from xs
    step [] from x xs low high above = absurd (omega arith)
    step (n ∷ names) from x xs low high above = elim (cases_Bool (net_of x == from)) [
      | inl e ↦
          let at : net_of x ≡ from = is_same (net_of x) from e in
          ap (λ z. flat_map (g n) z ++ by_net names (from + 1) (x ∷ xs)) (kept from x xs e)
          ∙ ap (λ z. (g n x ++ flat_map (g n) (of from xs)) ++ z) (skip names (from + 1) x xs (omega arith))
          ∙ append_assoc (g n x) (flat_map (g n) (of from xs)) (by_net names (from + 1) xs)
          ∙ ap (λ z. g z x ++ by_net (n ∷ names) from xs) (sym (name_here n names (net_of x - from) (omega arith)))
      | inr e ↦
          let past : from < net_of x = is_other (net_of x) from e low in
          let none : of from xs ≡ [] = none_of from (net_of x) xs past above in
          let later : by_net names (from + 1) xs ≡ by_net (n ∷ names) from xs = ap (λ z. flat_map (g n) z ++ by_net names (from + 1) xs) (sym none) in
          ap (λ z. flat_map (g n) z ++ by_net names (from + 1) (x ∷ xs)) (left_out from x xs e ∙ none)
          ∙ step names (from + 1) x xs (omega arith) (omega arith) above
          ∙ ap (λ z. g z x ++ by_net names (from + 1) xs) (sym (name_later n names (net_of x - from) (net_of x - (from + 1)) (omega arith)))
          ∙ ap (λ z. g (slice_index_or (n ∷ names) (net_of x - from) []) x ++ z) later
    ]

    -- All entries, in their order.
    pub all_nets : (names : List (List ℕ)) (xs : List X) → Rises xs → All (λ x. net_of x < length names) xs →
        by_net names 0 xs ≡ flat_map (λ x. g (slice_index_or names (net_of x) []) x) xs
    all_nets names [] rises within = none_by_net names 0
    all_nets names (x ∷ xs) rises within =
        let here : net_of x < length names = All-head (λ x. net_of x < length names) x xs within in
        let same : net_of x - 0 ≡ net_of x = omega arith in
        step names 0 x xs (omega arith) (omega arith) rises.0
        ∙ ap (λ z. g (slice_index_or names z []) x ++ by_net names 0 xs) same
        ∙ ap (λ z. g (slice_index_or names (net_of x) []) x ++ z) (all_nets names xs rises.1 (All-tail (λ x. net_of x < length names) x xs within))

  -- The same, where each entry gives one.
  singles : {Y : Type 0} (f : List ℕ → X → Y) (xs : List X) (nets : List (ℕ × List ℕ)) →
      flat_map (λ (net : ℕ × List ℕ). flat_map (λ x. f net.1 x ∷ []) (of net.0 xs)) nets ≡ flat_map (λ (net : ℕ × List ℕ). map (f net.1) (of net.0 xs)) nets
  singles f xs [] = refl
  singles f xs (net ∷ nets) =
      ap (λ z. z ++ flat_map (λ (net : ℕ × List ℕ). flat_map (λ x. f net.1 x ∷ []) (of net.0 xs)) nets) (flat_map_single (f net.1) (of net.0 xs))
      ∙ ap (λ z. map (f net.1) (of net.0 xs) ++ z) (singles f xs nets)

  pub all_mapped : {Y : Type 0} (f : List ℕ → X → Y) (names : List (List ℕ)) (xs : List X) → Rises xs → All (λ x. net_of x < length names) xs →
      flat_map (λ (net : ℕ × List ℕ). map (f net.1) (of net.0 xs)) (enumerate_from 0 names) ≡ map (λ x. f (slice_index_or names (net_of x) []) x) xs
  all_mapped f names xs rises within =
      sym (singles f xs (enumerate_from 0 names)) ∙ all_nets (λ name x. f name x ∷ []) names xs rises within
      ∙ flat_map_single (λ x. f (slice_index_or names (net_of x) []) x) xs
