-- The entries of one net after another, in lists in the order of nets.
use Rattle.std.proofs.Common.{◌≡◌, ℕ, suc, ◌+◌, ◌<◌, ◌≤◌, Bool, true, false, cond, List, [], ◌∷◌, length, take, drop, get_or, filter, refl, sym, ap, subst, ◌∙◌, arith, inl, inr}
use Rattle.std.specs.Prelude.{◌==◌, nat_le, take_while}
use Rattle.std.specs.Ordering.{nat_cmp, ordering_then, is_gt}
use Rattle.std.specs.declared.cmp.Ordering.{Ordering}
use Rattle.std.specs.declared.cmp.Ordering.TheVariants.{Less, Equal, Greater}
use Rattle.std.proofs.lemmas.Bool.{cases_Bool, false≢true}
use Rattle.std.proofs.lemmas.Bool.Decides.{nat_tests}
use Rattle.std.proofs.lemmas.Cmp.{by_ranked, ranked}
use Rattle.std.proofs.lemmas.List.Sums.{take_while-cons}
use Rattle.def_writer.specs.inside.Nets.{later}

-- ## orders by net first

not_greater : (a b : Ordering) → is_gt (ordering_then a b) ≡ false → is_gt a ≡ false
not_greater Less b h = refl
not_greater Equal b h = refl
not_greater Greater b h = h

not_then : (a : Ordering) → is_gt a ≡ false → is_gt (ordering_then a Equal) ≡ false
not_then Less h = refl
not_then Equal h = refl
not_then Greater h = h

pub net_first : (x y : ℕ) (a b c d : Ordering) → is_gt (ordering_then (ordering_then (ordering_then (ordering_then (nat_cmp x y) a) b) c) d) ≡ false → x ≤ y
net_first x y a b c d h =
    let e = not_greater (nat_cmp x y) a (not_greater _ b (not_greater _ c (not_greater _ d h))) in
    by_ranked (x < y) (x ≡ y) (y < x) (nat_cmp x y) (ranked x y (nat_cmp x y) refl) (λ o p. omega arith) (λ o p. omega arith) (λ o p. absurd (false≢true (sym e ∙ ap is_gt o)))

pub net_first_of_four : (x y : ℕ) (a b c : Ordering) → is_gt (ordering_then (ordering_then (ordering_then (nat_cmp x y) a) b) c) ≡ false → x ≤ y
net_first_of_four x y a b c h = net_first x y a b c Equal (not_then (ordering_then (ordering_then (ordering_then (nat_cmp x y) a) b) c) h)

-- ## entries of nets

module _ {X : Type 0} (net_of : X → ℕ) where
  abbrev pub of : ℕ → List X → List X
  of k xs = filter (λ x. net_of x == k) xs

  abbrev pub Above : ℕ → List X → Type 0
  Above n [] = Unit {0}
  Above n (y ∷ ys) = (n ≤ net_of y) × Above n ys

  abbrev pub Rises : List X → Type 0
  Rises [] = Unit {0}
  Rises (x ∷ xs) = Above (net_of x) xs × Rises xs

  above_weaker : (m n : ℕ) (xs : List X) → m ≤ n → Above n xs → Above m xs
  above_weaker m n [] le h = tt
  above_weaker m n (x ∷ xs) le h = let first : n ≤ net_of x = h.0 in (omega arith, above_weaker m n xs le h.1)

  same : (k n : ℕ) → n ≡ k → (n == k) ≡ true
  same k n e = grind (arith, nat_tests)

  other : (k n : ℕ) → k < n → (n == k) ≡ false
  other k n lt = grind (arith, nat_tests)

  below : (k n : ℕ) → n < k → (n == k) ≡ false
  below k n lt = grind (arith, nat_tests)

  reached : (k n : ℕ) → k ≤ n → nat_le k n ≡ true
  reached k n le = grind (arith, nat_tests)

  missed : (k n : ℕ) → n < k → nat_le k n ≡ false
  missed k n lt = grind (arith, nat_tests)

  is_same : (k n : ℕ) → (n == k) ≡ true → n ≡ k
  is_same k n e = grind (arith, nat_tests)

  is_other : (k n : ℕ) → (n == k) ≡ false → k ≤ n → k < n
  is_other k n e le = grind (arith, nat_tests)

  is_reached : (k n : ℕ) → nat_le k n ≡ true → k ≤ n
  is_reached k n e = grind (arith, nat_tests)

  is_missed : (k n : ℕ) → nat_le k n ≡ false → n < k
  is_missed k n e = grind (arith, nat_tests)

  kept : (p : X → Bool) (x : X) (xs : List X) → p x ≡ true → filter p (x ∷ xs) ≡ x ∷ filter p xs
  kept p x xs e = ap (λ b. cond b (x ∷ filter p xs) (filter p xs)) e

  left_out : (p : X → Bool) (x : X) (xs : List X) → p x ≡ false → filter p (x ∷ xs) ≡ filter p xs
  left_out p x xs e = ap (λ b. cond b (x ∷ filter p xs) (filter p xs)) e

  -- All entries are of net 0 or of later ones.
  pub all_later : (xs : List X) → later net_of 0 xs ≡ xs
  all_later [] = refl
  all_later (x ∷ xs) = kept (λ x. nat_le 0 (net_of x)) x xs (reached 0 (net_of x) (omega arith)) ∙ ap (λ l. x ∷ l) (all_later xs)

  -- What is of the net, or of later ones, is among what is left.
  pub of_later : (k : ℕ) (xs : List X) → of k (later net_of k xs) ≡ of k xs
  of_later k [] = refl
  of_later k (x ∷ xs) =
      let p : X → Bool = λ x. nat_le k (net_of x) in
      let q : X → Bool = λ x. net_of x == k in
      elim (cases_Bool (nat_le k (net_of x))) [
        | inl e ↦
            ap (of k) (kept p x xs e)
            ∙ (elim (cases_Bool (net_of x == k)) [
              | inl is ↦ kept q x (later net_of k xs) is ∙ ap (λ l. x ∷ l) (of_later k xs) ∙ sym (kept q x xs is)
              | inr past ↦ left_out q x (later net_of k xs) past ∙ of_later k xs ∙ sym (left_out q x xs past)
            ])
        | inr e ↦ ap (of k) (left_out p x xs e) ∙ of_later k xs ∙ sym (left_out q x xs (below k (net_of x) (is_missed k (net_of x) e)))
      ]

  pub later_later : (k : ℕ) (xs : List X) → later net_of (k + 1) (later net_of k xs) ≡ later net_of (k + 1) xs
  later_later k [] = refl
  later_later k (x ∷ xs) =
      let p : X → Bool = λ x. nat_le k (net_of x) in
      let q : X → Bool = λ x. nat_le (k + 1) (net_of x) in
      elim (cases_Bool (nat_le k (net_of x))) [
        | inl e ↦
            ap (later net_of (k + 1)) (kept p x xs e)
            ∙ (elim (cases_Bool (nat_le (k + 1) (net_of x))) [
              | inl is ↦ kept q x (later net_of k xs) is ∙ ap (λ l. x ∷ l) (later_later k xs) ∙ sym (kept q x xs is)
              | inr past ↦ left_out q x (later net_of k xs) past ∙ later_later k xs ∙ sym (left_out q x xs past)
            ])
        | inr e ↦
            let lt : net_of x < k = is_missed k (net_of x) e in
            ap (later net_of (k + 1)) (left_out p x xs e) ∙ later_later k xs ∙ sym (left_out q x xs (missed (k + 1) (net_of x) (omega arith)))
      ]

  above_filter : (p : X → Bool) (n : ℕ) (xs : List X) → Above n xs → Above n (filter p xs)
  above_filter p n [] h = tt
  above_filter p n (x ∷ xs) h = elim (cases_Bool (p x)) [
    | inl e ↦ subst (Above n) (sym (kept p x xs e)) (h.0, above_filter p n xs h.1)
    | inr e ↦ subst (Above n) (sym (left_out p x xs e)) (above_filter p n xs h.1)
  ]

  rises_filter : (p : X → Bool) (xs : List X) → Rises xs → Rises (filter p xs)
  rises_filter p [] h = tt
  rises_filter p (x ∷ xs) h = elim (cases_Bool (p x)) [
    | inl e ↦ subst Rises (sym (kept p x xs e)) (above_filter p (net_of x) xs h.0, rises_filter p xs h.1)
    | inr e ↦ subst Rises (sym (left_out p x xs e)) (rises_filter p xs h.1)
  ]

  above_later : (k : ℕ) (xs : List X) → Above k (later net_of k xs)
  above_later k [] = tt
  above_later k (x ∷ xs) =
      let p : X → Bool = λ x. nat_le k (net_of x) in
      elim (cases_Bool (nat_le k (net_of x))) [
        | inl e ↦ subst (Above k) (sym (kept p x xs e)) (is_reached k (net_of x) e, above_later k xs)
        | inr e ↦ subst (Above k) (sym (left_out p x xs e)) (above_later k xs)
      ]

  -- Where all entries are of later nets, none is of the net, and all are left.
  none_of : (k m : ℕ) (xs : List X) → k < m → Above m xs → of k xs ≡ []
  none_of k m [] lt h = refl
  none_of k m (x ∷ xs) lt h =
      let first : m ≤ net_of x = h.0 in
      left_out (λ x. net_of x == k) x xs (other k (net_of x) (omega arith)) ∙ none_of k m xs lt h.1

  all_left : (k m : ℕ) (xs : List X) → k < m → Above m xs → later net_of (k + 1) xs ≡ xs
  all_left k m [] lt h = refl
  all_left k m (x ∷ xs) lt h =
      let first : m ≤ net_of x = h.0 in
      kept (λ x. nat_le (k + 1) (net_of x)) x xs (reached (k + 1) (net_of x) (omega arith)) ∙ ap (λ l. x ∷ l) (all_left k m xs lt h.1)

  -- The entries of the net stand at the front.
  abbrev pub front : ℕ → List X → ℕ
  front k xs = length (take_while (λ x. net_of x == k) xs)

  front_more : (k : ℕ) (x : X) (xs : List X) → (net_of x == k) ≡ true → front k (x ∷ xs) ≡ suc (front k xs)
  front_more k x xs e = ap length (take_while-cons (λ x. net_of x == k) x xs) ∙ ap (λ b. length (cond b (x ∷ take_while (λ x. net_of x == k) xs) [])) e

  front_none : (k : ℕ) (x : X) (xs : List X) → (net_of x == k) ≡ false → front k (x ∷ xs) ≡ 0
  front_none k x xs e = ap length (take_while-cons (λ x. net_of x == k) x xs) ∙ ap (λ b. length (cond b (x ∷ take_while (λ x. net_of x == k) xs) [])) e

  front_is : (k : ℕ) (xs : List X) → Rises xs → Above k xs → (take (front k xs) xs ≡ of k xs) × (drop (front k xs) xs ≡ later net_of (k + 1) xs)
  front_is k [] rises above = (refl, refl)
  front_is k (x ∷ xs) rises above = elim (cases_Bool (net_of x == k)) [
    | inl e ↦
        let more = front_is k xs rises.1 above.1 in
        let q : X → Bool = λ x. nat_le (k + 1) (net_of x) in
        let at : net_of x ≡ k = is_same k (net_of x) e in (
          ap (λ n. take n (x ∷ xs)) (front_more k x xs e) ∙ ap (λ l. x ∷ l) more.0 ∙ sym (kept (λ x. net_of x == k) x xs e),
          ap (λ n. drop n (x ∷ xs)) (front_more k x xs e) ∙ more.1 ∙ sym (left_out q x xs (missed (k + 1) (net_of x) (omega arith))),
        )
    | inr e ↦
        let lt : k < net_of x = is_other k (net_of x) e above.0 in
        let all : Above (net_of x) (x ∷ xs) = (omega arith, rises.0) in (
          ap (λ n. take n (x ∷ xs)) (front_none k x xs e) ∙ sym (none_of k (net_of x) (x ∷ xs) lt all),
          ap (λ n. drop n (x ∷ xs)) (front_none k x xs e) ∙ sym (all_left k (net_of x) (x ∷ xs) lt all),
        )
  ]

  pub these : (k : ℕ) (xs left : List X) → Rises xs → left ≡ later net_of k xs → (take (front k left) left ≡ of k xs) × (drop (front k left) left ≡ later net_of (k + 1) xs)
  these k xs left rises is =
      let P : List X → Type 0 = λ l. (take (front k l) l ≡ of k xs) × (drop (front k l) l ≡ later net_of (k + 1) xs) in
      let h = front_is k (later net_of k xs) (rises_filter (λ x. nat_le k (net_of x)) xs rises) (above_later k xs) in
      subst P (sym is) (h.0 ∙ of_later k xs, h.1 ∙ later_later k xs)

  above_all : (n : ℕ) (xs : List X) → ((j : ℕ) (d : X) → j < length xs → n ≤ net_of (get_or xs j d)) → Above n xs
  above_all n [] h = tt
  above_all n (x ∷ xs) h = (h 0 x (omega arith), above_all n xs (λ j d lt. h (suc j) d (omega arith)))

  pub rises_all : (xs : List X) → ((i j : ℕ) (d : X) → i < j → j < length xs → net_of (get_or xs i d) ≤ net_of (get_or xs j d)) → Rises xs
  rises_all [] h = tt
  rises_all (x ∷ xs) h = (
    above_all (net_of x) xs (λ j d lt. h 0 (suc j) d (omega arith) (omega arith)),
    rises_all xs (λ i j d lt within. h (suc i) (suc j) d (omega arith) (omega arith)),
  )
