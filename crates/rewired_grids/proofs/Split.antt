-- Lists of entries of two nets, net after net.
use Rattle.std.proofs.Common.{◌≡◌, ℕ, suc, ◌<◌, ◌≤◌, ◌==◌, Bool, true, false, cond, ◌⊎◌, inl, inr, All, AllPairs, List, [], ◌∷◌, ◌++◌, filter, refl, sym, ◌∙◌, ap, arith}
use Rattle.std.specs.Ordering.{nat_cmp, ordering_then, is_lt, is_gt}
use Rattle.std.specs.declared.cmp.Ordering.{Ordering}
use Rattle.std.specs.declared.cmp.Ordering.TheVariants.{Less, Equal, Greater}
use Rattle.std.proofs.lemmas.Bool.{false≢true, cases_lt}
use Rattle.std.proofs.lemmas.Bool.Decides.{nat_tests}
use Rattle.std.proofs.lemmas.Cmp.{by_ranked, ranked}
use Rattle.std.proofs.lemmas.List.Elements.{All-head, All-tail}

-- ## orders by net first

lt_not_gt : (o : Ordering) → is_lt o ≡ true → is_gt o ≡ false
lt_not_gt Less h = refl
lt_not_gt Equal h = refl
lt_not_gt Greater h = absurd (false≢true h)

first_not_gt : (a b : Ordering) → is_gt (ordering_then a b) ≡ false → is_gt a ≡ false
first_not_gt Less b h = refl
first_not_gt Equal b h = refl
first_not_gt Greater b h = h

pub net_first : (m n : ℕ) (a b c d : Ordering) → is_lt (ordering_then (ordering_then (ordering_then (ordering_then (nat_cmp m n) a) b) c) d) ≡ true → m ≤ n
net_first m n a b c d h =
    let e = first_not_gt (nat_cmp m n) a (first_not_gt _ b (first_not_gt _ c (first_not_gt _ d (lt_not_gt _ h)))) in
    by_ranked (m < n) (m ≡ n) (n < m) (nat_cmp m n) (ranked m n (nat_cmp m n) refl) (λ o p. omega (arith, p)) (λ o p. omega (arith, p)) (λ o p. absurd (false≢true (sym e ∙ ap is_gt o)))

-- ## entries

module _ {X : Type 0} (net_of : X → ℕ) where
  abbrev of : ℕ → List X → List X
  of n xs = filter (λ x. net_of x == n) xs

  tested : (x : X) (n : ℕ) → net_of x ≡ n → (net_of x == n) ≡ true
  tested x n e = grind (arith, nat_tests)

  untested : (x : X) (n : ℕ) → (net_of x ≡ n → ⊥) → (net_of x == n) ≡ false
  untested x n other = by (net_of x == n) refl
    where
      by : (b : Bool) → (net_of x == n) ≡ b → (net_of x == n) ≡ false
      by true e = absurd (other (grind (arith, e)))
      by false e = e

  none_of : (xs : List X) → All (λ x. 1 ≤ net_of x) xs → of 0 xs ≡ []
  none_of [] above = refl
  none_of (x ∷ xs) above =
      let P : X → Type 0 = λ x. 1 ≤ net_of x in
      let here : 1 ≤ net_of x = All-head P x xs above in
      ap (λ b. cond b (x ∷ of 0 xs) (of 0 xs)) (untested x 0 (λ e. omega (arith, here, e))) ∙ none_of xs (All-tail P x xs above)

  -- Entries of two nets in their order are those of the one and then those of the other.
  pub two_nets : (xs : List X) → AllPairs (λ a b. net_of a ≤ net_of b) xs → All (λ x. net_of x < 2) xs → xs ≡ of 0 xs ++ of 1 xs
  two_nets [] rise few = refl
  two_nets (x ∷ xs) rise few =
      let few_more = All-tail (λ x. net_of x < 2) x xs few in
      by (two_nets xs (λ i j d below within. rise (suc i) (suc j) d (omega (arith, below)) (omega (arith, within))) few_more) (cases_lt (net_of x) 1)
    where
      by : xs ≡ of 0 xs ++ of 1 xs → (net_of x < 1) ⊎ (1 ≤ net_of x) → x ∷ xs ≡ of 0 (x ∷ xs) ++ of 1 (x ∷ xs)
      by more (inl low) =
          let first = tested x 0 (omega (arith, low)) in
          let later = untested x 1 (λ e. omega (arith, low, e)) in
          ap (λ z. x ∷ z) more ∙ ap (λ b. cond b (x ∷ of 0 xs) (of 0 xs) ++ of 1 xs) (sym first) ∙ ap (λ b. of 0 (x ∷ xs) ++ cond b (x ∷ of 1 xs) (of 1 xs)) (sym later)
      by more (inr high) =
          let here : net_of x < 2 = All-head (λ x. net_of x < 2) x xs few in
          let above : All (λ y. 1 ≤ net_of y) xs = λ k d within. let up = rise 0 (suc k) d (omega arith) (omega (arith, within)) in omega (arith, up, high) in
          let none = none_of xs above in
          let first = untested x 0 (λ e. omega (arith, high, e)) in
          let later = tested x 1 (omega (arith, here, high)) in
          ap (λ z. x ∷ z) (more ∙ ap (λ z. z ++ of 1 xs) none) ∙ sym (ap (λ z. z ++ (x ∷ of 1 xs)) (ap (λ b. cond b (x ∷ of 0 xs) (of 0 xs)) first ∙ none))
          ∙ ap (λ b. of 0 (x ∷ xs) ++ cond b (x ∷ of 1 xs) (of 1 xs)) (sym later)
