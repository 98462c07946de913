-- Memory nodes: each has a number of its own, behind all nodes, and the numbers rise with the nodes that they are for.
use Rattle.std.proofs.Common.{◌≡◌, ℕ, zero, suc, ◌+◌, ◌<◌, ◌≤◌, inl, inr, arith, refl, sym, ap, ◌∙◌, List, [], ◌∷◌, ◌++◌, length, length-append, get_or, Bool, true, false, cond, All, add-one, append-nil}
use Rattle.std.specs.List.{range_with_len, filter}
use Rattle.std.proofs.lemmas.Bool.{cases_lt}
use Rattle.std.proofs.lemmas.List.{get_or_append_left, ext_get_or}
use Rattle.std.proofs.lemmas.List.Elements.{filter-append, filter_passes, All-filter, All-from_get_or}
use Rattle.std.proofs.lemmas.List.FromFn.{length-range_with_len, get_or-range_with_len}
use Rattle.std.proofs.Math.Seq.{get_or-append_seam}

-- One more number of a range.
pub range_next : (n : ℕ) → range_with_len 0 (suc n) ≡ range_with_len 0 n ++ n ∷ []
range_next n = ext_get_or 0 (range_with_len 0 (suc n)) (range_with_len 0 n ++ n ∷ [])
    (let a = length-range_with_len 0 (suc n) in let b = length-range_with_len 0 n in
    omega (arith, a, b, length-append (range_with_len 0 n) (n ∷ [])))
    (λ i l. let l' : i < suc n = omega (arith, l, length-range_with_len 0 (suc n)) in
    get_or-range_with_len 0 (suc n) i 0 l' ∙ by_place i l')
  where
    by_place : (i : ℕ) → i < suc n → 0 + i ≡ get_or (range_with_len 0 n ++ n ∷ []) i 0
    by_place i l = elim (cases_lt i n) [
      | inl lt ↦ sym (get_or_append_left (range_with_len 0 n) (n ∷ []) 0 i (omega (arith, lt, length-range_with_len 0 n))
          ∙ get_or-range_with_len 0 n i 0 lt)
      | inr ge ↦ (let last : i ≡ length (range_with_len 0 n) = omega (arith, l, ge, length-range_with_len 0 n) in
          let here : get_or (range_with_len 0 n ++ n ∷ []) i 0 ≡ n =
          ap (λ (k : ℕ). get_or (range_with_len 0 n ++ n ∷ []) k 0) last ∙ get_or-append_seam (range_with_len 0 n) n [] 0 in
          omega (arith, l, ge, here))
    ]

module _ (has : ℕ → Bool) where
  -- The numbers below n that pass a test.
  abbrev pub below : ℕ → List ℕ
  below n = filter has (range_with_len 0 n)

  pub below_next : (n : ℕ) → below (suc n) ≡ below n ++ cond (has n) (n ∷ []) []
  below_next n = ap (filter has) (range_next n) ∙ filter-append has (range_with_len 0 n) (n ∷ [])

  below_yes : (n : ℕ) → has n ≡ true → below (suc n) ≡ below n ++ n ∷ []
  below_yes n e = below_next n ∙ ap (λ (b : Bool). below n ++ cond b (n ∷ []) []) e

  below_no : (n : ℕ) → has n ≡ false → below (suc n) ≡ below n
  below_no n e = below_next n ∙ ap (λ (b : Bool). below n ++ cond b (n ∷ []) []) e ∙ append-nil (below n)

  -- A number that passes stands at the place that counts those before it.
  pub stands : (n i : ℕ) → i < n → has i ≡ true → (length (below i) < length (below n)) × (get_or (below n) (length (below i)) 0 ≡ i)
  stands zero i l e = absurd (omega arith)
  stands (suc n) i l e = elim (cases_lt i n) [
    | inl lt ↦ by_test (has n) refl (stands n i lt e)
    | inr ge ↦ (let same : i ≡ n = omega arith in last i same e)
  ]
    where
      by_test : (b : Bool) → has n ≡ b
          → (length (below i) < length (below n)) × (get_or (below n) (length (below i)) 0 ≡ i)
          → (length (below i) < length (below (suc n))) × (get_or (below (suc n)) (length (below i)) 0 ≡ i)
      by_test true f h =
          let m = below_yes n f in
          let long = ap length m ∙ length-append (below n) (n ∷ []) in (
            omega (arith, h.0, long),
            ap (λ (xs : List ℕ). get_or xs (length (below i)) 0) m
                ∙ get_or_append_left (below n) (n ∷ []) 0 (length (below i)) h.0 ∙ h.1,
          )
      by_test false f h =
          let m = below_no n f in (
            let long = ap length m in omega (arith, h.0, long),
            ap (λ (xs : List ℕ). get_or xs (length (below i)) 0) m ∙ h.1,
          )

      last : (j : ℕ) → j ≡ n → has j ≡ true
          → (length (below j) < length (below (suc n))) × (get_or (below (suc n)) (length (below j)) 0 ≡ j)
      last j same f =
          let g : has n ≡ true = ap has (sym same) ∙ f in
          let m = below_yes n g in
          let long = ap length m ∙ length-append (below n) (n ∷ []) in
          let as_long : length (below j) ≡ length (below n) = ap (λ (k : ℕ). length (below k)) same in (
            omega (arith, long, as_long),
            ap (λ (k : ℕ). get_or (below (suc n)) k 0) as_long
                ∙ ap (λ (xs : List ℕ). get_or xs (length (below n)) 0) m ∙ get_or-append_seam (below n) n [] 0 ∙ sym same,
          )

  -- Each of them is below n and passes.
  pub each_below : (n : ℕ) → All (λ i. i < n) (below n)
  each_below n = All-filter has (λ i. i < n) (range_with_len 0 n)
      (All-from_get_or (λ i. i < n) (range_with_len 0 n) 0
      (λ i l. let l' : i < n = omega (arith, l, length-range_with_len 0 n) in
      omega (arith, get_or-range_with_len 0 n i 0 l')))

  pub each_passes : (n : ℕ) → All (λ i. has i ≡ true) (below n)
  each_passes n = filter_passes has (range_with_len 0 n)

  -- The number at a place has that many before it.
  pub place_of : (n r : ℕ) → r < length (below n) → length (below (get_or (below n) r 0)) ≡ r
  place_of zero r l = absurd (omega arith)
  place_of (suc n) r l = by_test (has n) refl (λ m. place_of n r m)
    where
      by_test : (b : Bool) → has n ≡ b → (r < length (below n) → length (below (get_or (below n) r 0)) ≡ r)
          → length (below (get_or (below (suc n)) r 0)) ≡ r
      by_test true f rest =
          let m = below_yes n f in
          let long = ap length m ∙ length-append (below n) (n ∷ []) in
          elim (cases_lt r (length (below n))) [
            | inl lt ↦ ap (λ (k : ℕ). length (below k))
                (ap (λ (xs : List ℕ). get_or xs r 0) m ∙ get_or_append_left (below n) (n ∷ []) 0 r lt)
                ∙ rest lt
            | inr ge ↦ (let last : r ≡ length (below n) = omega (arith, l, long, ge) in
                ap (λ (k : ℕ). length (below k))
                (ap (λ (xs : List ℕ). get_or xs r 0) m ∙ ap (λ (k : ℕ). get_or (below n ++ n ∷ []) k 0) last
                ∙ get_or-append_seam (below n) n [] 0)
                ∙ sym last)
          ]
      by_test false f rest =
          let m = below_no n f in
          let long = ap length m in
          ap (λ (k : ℕ). length (below k)) (ap (λ (xs : List ℕ). get_or xs r 0) m)
          ∙ rest (omega (arith, l, long))

-- Of the first n numbers no more than n pass.
pub few_below : (has : ℕ → Bool) (n : ℕ) → length (below has n) ≤ n
few_below has zero = omega arith
few_below has (suc n) =
    let one = ap length (below_next has n) ∙ length-append (below has n) (cond (has n) (n ∷ []) []) in
    by_test (has n) (few_below has n) one
  where
    by_test : (b : Bool) → length (below has n) ≤ n
        → length (below has (suc n)) ≡ length (below has n) + length (cond b (n ∷ []) []) → length (below has (suc n)) ≤ suc n
    by_test true rest one = omega arith
    by_test false rest one = omega arith

pub one_more_yes : (has : ℕ → Bool) (n : ℕ) → has n ≡ true → below has (n + 1) ≡ below has n ++ n ∷ []
one_more_yes has n e = rw add-one (below_next has n ∙ ap (λ (b : Bool). below has n ++ cond b (n ∷ []) []) e)

pub one_more_no : (has : ℕ → Bool) (n : ℕ) → has n ≡ false → below has (n + 1) ≡ below has n
one_more_no has n e =
    rw add-one (below_next has n ∙ ap (λ (b : Bool). below has n ++ cond b (n ∷ []) []) e ∙ append-nil (below has n))
