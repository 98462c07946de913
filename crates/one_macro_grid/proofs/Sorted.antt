-- A list is sorted in one way by an order that tells different things apart, however often each of them stands in it.
use Rattle.std.proofs.Common.{◌≡◌, ℕ, ◌+◌, false, Ordering, Less, Equal, Greater, List, [], ◌∷◌, AllPairs, Contains, IsPermutation, ◌⊎◌, inl, inr, sum_by, is_gt, refl, sym, ap, ◌∙◌, arith}
use Rattle.std.specs.Cmp.{IsTotalOrder}
use Rattle.std.specs.Ordering.{ordering_reverse}
use Rattle.std.proofs.lemmas.Bool.{false≢true}
use Rattle.std.proofs.lemmas.Cmp.{tied_itself}
use Rattle.std.proofs.lemmas.List.Sorted.{sum_by-IsPermutation}
use Rattle.std.proofs.lemmas.List.Sums.{sum_by-cons}
use Rattle.one_drawing.specs.Laws.Listed.{has_first, has_later, has_cases, pairs_later, pairs_first}

-- how often an answer says that two things are alike
abbrev alike : Ordering → ℕ
alike Less = 0
alike Equal = 1
alike Greater = 0

not_alike : (o : Ordering) → (o ≡ Equal → ⊥) → alike o ≡ 0
not_alike Less differ = refl
not_alike Equal differ = absurd (differ refl)
not_alike Greater differ = refl

module _ {X : Type 0} (R : X → X → Ordering) (total : IsTotalOrder R) (same : (a b : X) → R a b ≡ Equal → a ≡ b) where
  -- no element comes before an earlier one
  abbrev pub AreInOrder : List X → Type 0
  AreInOrder xs = AllPairs (λ a b. is_gt (R a b) ≡ false) xs

  -- how often a list has what is like this element
  abbrev count : X → List X → ℕ
  count x xs = sum_by (λ (y : X). alike (R x y)) xs

  count_more : (x y : X) (ys : List X) → count x (y ∷ ys) ≡ alike (R x y) + count x ys
  count_more x y ys = sum_by-cons (λ (z : X). alike (R x z)) y ys

  count_first : (x : X) (xs : List X) → count x (x ∷ xs) ≡ 1 + count x xs
  count_first x xs = count_more x x xs ∙ ap (λ o. alike o + count x xs) (tied_itself total x)

  count_none : (x : X) (ys : List X) → ((y : X) → Contains ys y → R x y ≡ Equal → ⊥) → count x ys ≡ 0
  count_none x [] differ = refl
  count_none x (y ∷ ys) differ =
      let more = count_more x y ys in
      let first = not_alike (R x y) (differ y (has_first y ys)) in
      let rest = count_none x ys (λ z has. differ z (has_later y ys z has)) in
      omega arith

  -- ## the first of a list in order

  not_above : (y : X) (ys : List X) → AreInOrder (y ∷ ys) → (z : X) → Contains (y ∷ ys) z → is_gt (R y z) ≡ false
  not_above y ys sorted z has = by (has_cases y ys z has)
    where
      by : (z ≡ y) ⊎ Contains ys z → is_gt (R y z) ≡ false
      by (inl e) = ap (λ w. is_gt (R y w)) e ∙ ap is_gt (tied_itself total y)
      by (inr later) = pairs_first (λ a b. is_gt (R a b) ≡ false) y ys sorted z later

  -- what comes before the first stands nowhere
  stands_nowhere : (x y : X) (ys : List X) → R x y ≡ Less → AreInOrder (y ∷ ys) → count x (y ∷ ys) ≡ 0
  stands_nowhere x y ys less sorted = count_none x (y ∷ ys) (λ z has like.
      let turned : R z y ≡ Less = sym (total.congr x z y like) ∙ less in
      let above : R y z ≡ Greater = total.antisymm y z ∙ ap ordering_reverse turned in
      false≢true (sym (not_above y ys sorted z has) ∙ ap is_gt above))

  -- so the first ones of two lists that have the same are alike
  first_alike : (x y : X) (xs ys : List X) → AreInOrder (x ∷ xs) → AreInOrder (y ∷ ys) → ((z : X) → count z (x ∷ xs) ≡ count z (y ∷ ys)) → R x y ≡ Equal
  first_alike x y xs ys p q counts = by (R x y) refl
    where
      by : (o : Ordering) → R x y ≡ o → R x y ≡ Equal
      by Less is =
          let none = stands_nowhere x y ys is q in
          let some = count_first x xs in
          let as_many = counts x in
          absurd (omega arith)
      by Equal is = is
      by Greater is =
          let none = stands_nowhere y x xs (total.antisymm y x ∙ ap ordering_reverse is) p in
          let some = count_first y ys in
          let as_many = counts y in
          absurd (omega arith)

  -- ## all of it

  counted_same : (xs ys : List X) → AreInOrder xs → AreInOrder ys → ((z : X) → count z xs ≡ count z ys) → xs ≡ ys
  counted_same [] [] p q counts = refl
  counted_same [] (y ∷ ys) p q counts =
      let some = count_first y ys in
      let as_many : 0 ≡ count y (y ∷ ys) = counts y in
      absurd (omega arith)
  counted_same (x ∷ xs) [] p q counts =
      let some = count_first x xs in
      let as_many : count x (x ∷ xs) ≡ 0 = counts x in
      absurd (omega arith)
  counted_same (x ∷ xs) (y ∷ ys) p q counts =
      let first : x ≡ y = same x y (first_alike x y xs ys p q counts) in
      let rest : xs ≡ ys =
      counted_same xs ys (pairs_later (λ a b. is_gt (R a b) ≡ false) x xs p) (pairs_later (λ a b. is_gt (R a b) ≡ false) y ys q)
      (λ z.
      let one = count_more z x xs in
      let other = count_more z y ys in
      let as_many = counts z in
      let alike_both : alike (R z x) ≡ alike (R z y) = ap (λ w. alike (R z w)) first in
      omega arith) in
      λ i. first i ∷ rest i

  pub sorted_one_way : (all xs ys : List X) → IsPermutation all xs → IsPermutation all ys → AreInOrder xs → AreInOrder ys → xs ≡ ys
  sorted_one_way all xs ys to_xs to_ys p q =
      counted_same xs ys p q
      (λ z. sum_by-IsPermutation (λ (y : X). alike (R z y)) all xs to_xs ∙ sym (sum_by-IsPermutation (λ (y : X). alike (R z y)) all ys to_ys))
