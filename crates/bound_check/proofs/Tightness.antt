-- A tight certificate's two lists are no farther apart than any rising list.
use Rattle.std.proofs.Common.{◌≡◌, ℕ, ◌+◌, ◌<◌, ℤ, pos, ◌+ℤ◌, ◌-ℤ◌, ◌≤ℤ◌, ◌<ℤ◌, arith, refl, sym, ap, ◌∙◌, subst, List, [], ◌∷◌, All, Option, Some, None, Bool, true, false, cond, ◌||◌, eqb, eqb-true}
use Rattle.std.proofs.lemmas.Int.{ints}
use Rattle.std.proofs.lemmas.List.Elements.{All-head, All-tail}
use Rattle.grid_net.specs.declared.part.Resistor.{Resistor}
use Rattle.rounding.specs.Rounding.{floor_div, ceil_div}
use Rattle.grid_net.specs.Network.{Network, IsNetwork, IsResistorOf, outflow, FlowRule, pad_at, degree, entry_of}
use Rattle.grid_net.specs.Certificate.{IsTight, IsRising}
use Rattle.grid_net.specs.Laws.Loads.{load_in_order}
use Rattle.rounding.specs.Laws.{times_lt_out, times_next, times_last, times_difference, times_sum, times_neg, floor_is, ceiling_is, floor_unique, ceiling_unique, greatest_of}

-- No difference gives no flow.
floor_none : (x y R : ℤ) → pos 1 ≤ℤ R → x ≡ y → floor_div (x -ℤ y) R ≡ pos 0
floor_none x y R h e = floor_unique (x -ℤ y) R (floor_div (x -ℤ y) R) (pos 0) h (floor_is (x -ℤ y) R h) (record { reached = omega (arith, ints); next_is_above = omega (arith, ints) })

ceiling_none : (x y R : ℤ) → pos 1 ≤ℤ R → x ≡ y → ceil_div (x -ℤ y) R ≡ pos 0
ceiling_none x y R h e =
    let n = times_neg R (pos 1) in
    ceiling_unique (x -ℤ y) R (ceil_div (x -ℤ y) R) (pos 0) h (ceiling_is (x -ℤ y) R h) (record { reaches = omega (arith, ints); last_is_below = omega (arith, ints, n) })

-- The floored flow less the ceiled flow is at least the rising list's floored flow less 1.
flow_loss : (R H H' L L' W W' : ℤ) → pos 1 ≤ℤ R → ((H' -ℤ L') -ℤ W') ≤ℤ ((H -ℤ L) -ℤ W)
    → (floor_div (W -ℤ W') R -ℤ pos 1) ≤ℤ (floor_div (H -ℤ H') R -ℤ ceil_div (L -ℤ L') R)
flow_loss R H H' L L' W W' h top =
    let F = floor_div (H -ℤ H') R in
    let C = ceil_div (L -ℤ L') R in
    let V = floor_div (W -ℤ W') R in
    let f = floor_is (H -ℤ H') R h in
    let g = ceiling_is (L -ℤ L') R h in
    let k = floor_is (W -ℤ W') R h in
    let a = times_next R F in
    let b = times_last R C in
    let d = times_difference R F C in
    let s = times_sum R (F -ℤ C) (pos 2) in
    let below : V <ℤ ((F -ℤ C) +ℤ pos 2) = times_lt_out R V ((F -ℤ C) +ℤ pos 2) h (omega (arith, ints, f.next_is_above, g.last_is_below, k.reached, a, b, d, s)) in
    omega (arith, ints, below)

-- Over the two ends of one resistor that may stand at the node, one unit is lost at most.
ends_loss : (s t : Bool) (F G C D V U : ℤ)
    → (s ≡ true → (V -ℤ pos 1) ≤ℤ (F -ℤ C)) → (t ≡ true → (U -ℤ pos 1) ≤ℤ (G -ℤ D))
    → (s ≡ true → t ≡ true → (V +ℤ U) ≤ℤ ((F +ℤ G) -ℤ (C +ℤ D)))
    → ((cond s V (pos 0) +ℤ cond t U (pos 0)) -ℤ pos (cond (s || t) 1 0)) ≤ℤ ((cond s F (pos 0) +ℤ cond t G (pos 0)) -ℤ (cond s C (pos 0) +ℤ cond t D (pos 0)))
ends_loss true true F G C D V U a b both = omega (arith, ints, both refl refl)
ends_loss true false F G C D V U a b both = omega (arith, ints, a refl)
ends_loss false true F G C D V U a b both = omega (arith, ints, b refl)
ends_loss false false F G C D V U a b both = omega (arith, ints)

module _ (n : ℕ) (x y w : ℕ → ℤ) (i : ℕ) (top : (j : ℕ) → j < n → ((x j -ℤ y j) -ℤ w j) ≤ℤ ((x i -ℤ y i) -ℤ w i)) where
  -- Where the gap less the rising list is greatest, the floored flows less the ceiled flows are at least the rising list's flows less the degree.
  sums_loss : (rs : List Resistor) → All (IsResistorOf n) rs → (outflow floor_div rs w i -ℤ pos (degree rs i)) ≤ℤ (outflow floor_div rs x i -ℤ outflow ceil_div rs y i)
  sums_loss [] all = omega (arith, ints)
  sums_loss (r ∷ rs) all =
      let of_r = All-head (IsResistorOf n) r rs all in
      let rest = sums_loss rs (All-tail (IsResistorOf n) r rs all) in
      let at_a : r.a ≡ i → ((x r.b -ℤ y r.b) -ℤ w r.b) ≤ℤ ((x r.a -ℤ y r.a) -ℤ w r.a) = λ e. subst (λ (m : ℕ). ((x r.b -ℤ y r.b) -ℤ w r.b) ≤ℤ ((x m -ℤ y m) -ℤ w m)) (sym e) (top r.b of_r.b_is_node) in
      let at_b : r.b ≡ i → ((x r.a -ℤ y r.a) -ℤ w r.a) ≤ℤ ((x r.b -ℤ y r.b) -ℤ w r.b) = λ e. subst (λ (m : ℕ). ((x r.a -ℤ y r.a) -ℤ w r.a) ≤ℤ ((x m -ℤ y m) -ℤ w m)) (sym e) (top r.a of_r.a_is_node) in
      let here = ends_loss (eqb r.a i) (eqb r.b i) (floor_div (x r.a -ℤ x r.b) r.ohms) (floor_div (x r.b -ℤ x r.a) r.ohms) (ceil_div (y r.a -ℤ y r.b) r.ohms) (ceil_div (y r.b -ℤ y r.a) r.ohms) (floor_div (w r.a -ℤ w r.b) r.ohms) (floor_div (w r.b -ℤ w r.a) r.ohms)
      (λ e. flow_loss r.ohms (x r.a) (x r.b) (y r.a) (y r.b) (w r.a) (w r.b) of_r.resists (at_a (eqb-true r.a i e)))
      (λ e. flow_loss r.ohms (x r.b) (x r.a) (y r.b) (y r.a) (w r.b) (w r.a) of_r.resists (at_b (eqb-true r.b i e)))
      (λ e e'. let same : r.a ≡ r.b = eqb-true r.a i e ∙ sym (eqb-true r.b i e') in self_loss r (of_r.resists) same) in
      omega (arith, ints, here, rest)
    where
      self_loss : (r : Resistor) → pos 1 ≤ℤ r.ohms → r.a ≡ r.b → (floor_div (w r.a -ℤ w r.b) r.ohms +ℤ floor_div (w r.b -ℤ w r.a) r.ohms) ≤ℤ ((floor_div (x r.a -ℤ x r.b) r.ohms +ℤ floor_div (x r.b -ℤ x r.a) r.ohms) -ℤ (ceil_div (y r.a -ℤ y r.b) r.ohms +ℤ ceil_div (y r.b -ℤ y r.a) r.ohms))
      self_loss r h e =
          omega (arith, ints, floor_none (w r.a) (w r.b) r.ohms h (ap w e), floor_none (w r.b) (w r.a) r.ohms h (ap w (sym e)), floor_none (x r.a) (x r.b) r.ohms h (ap x e), floor_none (x r.b) (x r.a) r.ohms h (ap x (sym e)), ceiling_none (y r.a) (y r.b) r.ohms h (ap y e), ceiling_none (y r.b) (y r.a) r.ohms h (ap y (sym e)))

-- A node without resistors has no flow.
no_ends : (s t : Bool) (u v : ℤ) (m : ℕ) → cond (s || t) 1 0 + m ≡ 0 → (cond s u (pos 0) +ℤ cond t v (pos 0) ≡ pos 0) × (m ≡ 0)
no_ends true t u v m e = absurd (omega arith)
no_ends false true u v m e = absurd (omega arith)
no_ends false false u v m e = (omega (arith, ints), omega arith)

no_flow : (rule : FlowRule) (rs : List Resistor) (x : ℕ → ℤ) (i : ℕ) → degree rs i ≡ 0 → outflow rule rs x i ≡ pos 0
no_flow rule [] x i e = refl
no_flow rule (r ∷ rs) x i e =
    let h = no_ends (eqb r.a i) (eqb r.b i) (rule (x r.a -ℤ x r.b) r.ohms) (rule (x r.b -ℤ x r.a) r.ohms) (degree rs i) e in
    omega (arith, ints, h.0, no_flow rule rs x i h.1)

module _ (net : Network) (high low : List ℤ) (w : ℕ → ℤ) (wf : IsNetwork net) (tight : IsTight net high low) (rising : IsRising net w) where
  gap_at_top : (i : ℕ) → i < net.nodes → ((j : ℕ) → j < net.nodes → ((entry_of high j -ℤ entry_of low j) -ℤ w j) ≤ℤ ((entry_of high i -ℤ entry_of low i) -ℤ w i)) → (o : Option ℤ) → pad_at net i ≡ o → (entry_of high i -ℤ entry_of low i) ≤ℤ w i
  gap_at_top i l top None no_pad =
      let loss = sums_loss net.nodes (entry_of high) (entry_of low) w i top net.resistors wf.each_resistor in
      let r = rising.sums i l no_pad in
      let h = tight.high_sums i l no_pad in
      let k = tight.low_sums i l no_pad in
      let range = load_in_order net wf i in
      let none : degree net.resistors i ≡ 0 = omega (arith, ints, loss, r, h, k) in
      absurd (omega (arith, ints, r, range, none, no_flow floor_div net.resistors w i none))
  gap_at_top i l top (Some v) pad =
      omega (arith, ints, tight.high_pads i v l pad, tight.low_pads i v l pad, rising.pads i v l pad)

  pub gap_at_most_rising : (j : ℕ) → j < net.nodes → (entry_of high j -ℤ entry_of low j) ≤ℤ w j
  gap_at_most_rising j l =
      let g = greatest_of (λ k. (entry_of high k -ℤ entry_of low k) -ℤ w k) net.nodes (omega arith) in
      let t = gap_at_top g.0 g.1 g.2 (pad_at net g.0) refl in
      omega (arith, ints, t, g.2 j l)
