-- The loads of a step's network.
use Rattle.std.proofs.Common.{◌≡◌, ◌≢◌, ℕ, zero, suc, ◌+◌, ◌<◌, ◌≤◌, inl, inr, ◌⊎◌, ℤ, pos, ◌≤ℤ◌, arith, refl, ap, ◌∙◌, List, get_or, map, All, Bool, true, false, cond, eqb, eqb-true, eq-eqb}
use Rattle.std.proofs.lemmas.Int.{ints}
use Rattle.std.specs.List.{range_with_len}
use Rattle.std.proofs.lemmas.Bool.{cases_eq}
use Rattle.std.proofs.lemmas.List.Elements.{All-map, All-from_get_or}
use Rattle.std.proofs.lemmas.List.FromFn.{length-range_with_len, get_or-range_with_len}
use Rattle.grid_net.specs.declared.part.Load.{Load}
use Rattle.grid_net.specs.declared.part.LoadRange.{LoadRange}
use Rattle.grid_net.specs.Adding.{end_sum}
use Rattle.grid_net.specs.Building.{load_of}
use Rattle.grid_net.specs.Laws.Sums.{total_le}
use Rattle.step_bounds.specs.Changes.{load_entry}

apart : (a b : ℕ) (x : ℤ) → a ≢ b → cond (eqb a b) x (pos 0) ≡ pos 0
apart a b x ne = by_test (eqb a b) refl
  where
    by_test : (t : Bool) → eqb a b ≡ t → cond t x (pos 0) ≡ pos 0
    by_test true e = absurd (ne (eqb-true a b e))
    by_test false e = refl

module _ (end : Load → ℤ) (f : ℕ → LoadRange) (i : ℕ) where
  -- Where no entry is of a node, nothing is drawn there.
  none_drawn : (n a : ℕ) → (i < a) ⊎ (a + n ≤ i) → end_sum end (map (load_entry f) (range_with_len a n)) i ≡ pos 0
  none_drawn zero a h = refl
  none_drawn (suc n) a h =
      let ne : a ≢ i = λ e. elim h [ inl l ↦ omega arith | inr g ↦ omega arith ] in
      let later : (i < a + 1) ⊎ ((a + 1) + n ≤ i) = elim h [ inl l ↦ inl (omega arith) | inr g ↦ inr (omega arith) ] in
      omega (arith, ints, apart a i (end (load_entry f a)) ne, none_drawn n (a + 1) later)

  one_drawn : (n a : ℕ) → a ≤ i → i < a + n → end_sum end (map (load_entry f) (range_with_len a n)) i ≡ end (load_entry f i)
  one_drawn zero a h l = absurd (omega arith)
  one_drawn (suc n) a h l = elim (cases_eq a i) [
    | inl e ↦ (
        let here : cond (eqb a i) (end (load_entry f a)) (pos 0) ≡ end (load_entry f i) =
        ap (λ (b : Bool). cond b (end (load_entry f a)) (pos 0)) (eq-eqb a i e) ∙ ap (λ (j : ℕ). end (load_entry f j)) e in
        omega (arith, ints, here, none_drawn n (a + 1) (inl (omega (arith, e)))))
    | inr ne ↦ (
        omega (arith, ints, apart a i (end (load_entry f a)) ne, one_drawn n (a + 1) (omega (arith, ne)) (omega arith)))
  ]

-- What is drawn out of a node is its entry's, and nothing is drawn out of a node without one.
pub drawn_is : (end : Load → ℤ) (f : ℕ → LoadRange) (n i : ℕ) → i < n
    → end_sum end (map (load_entry f) (range_with_len 0 n)) i ≡ end (load_entry f i)
drawn_is end f n i l = one_drawn end f i n 0 (omega arith) (omega arith)

pub drawn_none : (end : Load → ℤ) (f : ℕ → LoadRange) (n i : ℕ) → n ≤ i
    → end_sum end (map (load_entry f) (range_with_len 0 n)) i ≡ pos 0
drawn_none end f n i l = none_drawn end f i n 0 (inr (omega arith))

-- Ranges in order have sums in order.
pub sums_in_order : (ls : List Load) → All (λ l. l.low ≤ℤ l.high) ls → (i : ℕ) → (load_of ls i).low ≤ℤ (load_of ls i).high
sums_in_order ls all i =
    total_le (λ (l : Load). l.low ≤ℤ l.high) (λ (l : Load). cond (eqb l.node i) l.low (pos 0)) (λ (l : Load). cond (eqb l.node i) l.high (pos 0))
    (λ l h. by_test (eqb l.node i) l h) ls all
  where
    by_test : (b : Bool) (l : Load) → l.low ≤ℤ l.high → cond b l.low (pos 0) ≤ℤ cond b l.high (pos 0)
    by_test true l h = h
    by_test false l h = omega (arith, ints)

-- Each number of a range is below its end.
pub in_range : (n : ℕ) → All (λ i. i < n) (range_with_len 0 n)
in_range n = All-from_get_or (λ i. i < n) (range_with_len 0 n) 0
    (λ i l. let l' : i < n = omega (arith, l, length-range_with_len 0 n) in omega (arith, get_or-range_with_len 0 n i 0 l'))

pub entries_in_order : (f : ℕ → LoadRange) (n : ℕ) → ((i : ℕ) → i < n → (f i).low ≤ℤ (f i).high)
    → All (λ l. l.low ≤ℤ l.high) (map (load_entry f) (range_with_len 0 n))
entries_in_order f n h = All-map (λ l. l.low ≤ℤ l.high) (load_entry f) (range_with_len 0 n)
    (λ k d l. h (get_or (range_with_len 0 n) k d) (in_range n k d l))

pub entries_at_nodes : (f : ℕ → LoadRange) (n m : ℕ) → n ≤ m → All (λ l. l.node < m) (map (load_entry f) (range_with_len 0 n))
entries_at_nodes f n m le = All-map (λ l. l.node < m) (load_entry f) (range_with_len 0 n)
    (λ k d l. let h = in_range n k d l in omega (arith, h, le))
