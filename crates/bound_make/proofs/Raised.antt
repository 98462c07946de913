-- Lists compared at a node, raised and lowered by one, and the lists that bound them.
use Rattle.std.proofs.Common.{◌≡◌, ◌≢◌, ℕ, ◌<◌, inl, inr, ℤ, pos, neg_ℤ, ◌+ℤ◌, ◌-ℤ◌, ◌≤ℤ◌, ◌<ℤ◌, arith, refl, sym, ap, ◌∙◌, subst, List, [], ◌∷◌, All, Option, Some, None, Bool, true, false, cond, ◌||◌, eqb, eqb-true}
use Rattle.std.proofs.lemmas.Int.{ints, by_lt_z}
use Rattle.std.proofs.lemmas.Bool.{cases_eq}
use Rattle.std.proofs.lemmas.List.Elements.{All-head, All-tail}
use Rattle.grid_net.specs.declared.part.Resistor.{Resistor}
use Rattle.grid_net.specs.Network.{Network, IsNetwork, IsResistorOf, outflow, FlowRule, low_load, pad_at, degree}
use Rattle.bound_make.specs.inside.Raising.{IsFlowRule, IsRaisedByOne, HighHoldsBy, IsLift}
use Rattle.rounding.specs.Laws.{greatest_of}
use Rattle.grid_net.specs.Laws.Sums.{taken_le}

module _ (rule : FlowRule) (of_rule : IsFlowRule rule) (n : ℕ) where
  -- The flows that leave the node at which one list is farthest above another are no smaller in it.
  pub outflow_le : (x z : ℕ → ℤ) (i : ℕ) → ((j : ℕ) → j < n → (z j -ℤ x j) ≤ℤ (z i -ℤ x i)) → (rs : List Resistor) → All (IsResistorOf n) rs → outflow rule rs x i ≤ℤ outflow rule rs z i
  outflow_le x z i top [] all = omega (arith, ints)
  outflow_le x z i top (r ∷ rs) all =
      let of_r = All-head (IsResistorOf n) r rs all in
      let rest = outflow_le x z i top rs (All-tail (IsResistorOf n) r rs all) in
      let at_a : r.a ≡ i → (z r.b -ℤ x r.b) ≤ℤ (z r.a -ℤ x r.a) = λ e. subst (λ (m : ℕ). (z r.b -ℤ x r.b) ≤ℤ (z m -ℤ x m)) (sym e) (top r.b of_r.b_is_node) in
      let at_b : r.b ≡ i → (z r.a -ℤ x r.a) ≤ℤ (z r.b -ℤ x r.b) = λ e. subst (λ (m : ℕ). (z r.a -ℤ x r.a) ≤ℤ (z m -ℤ x m)) (sym e) (top r.a of_r.a_is_node) in
      let here = taken_le r i (rule (x r.a -ℤ x r.b) r.ohms) (rule (x r.b -ℤ x r.a) r.ohms) (rule (z r.a -ℤ z r.b) r.ohms) (rule (z r.b -ℤ z r.a) r.ohms)
      (λ e. let h = at_a e in of_rule.grows (x r.a -ℤ x r.b) (z r.a -ℤ z r.b) r.ohms of_r.resists (omega (arith, ints, h)))
      (λ e. let h = at_b e in of_rule.grows (x r.b -ℤ x r.a) (z r.b -ℤ z r.a) r.ohms of_r.resists (omega (arith, ints, h))) in
      omega (arith, ints, here, rest)

  -- A list that is nowhere above another but perhaps at one node, from which less flows, is strictly below it there too.
  pub is_below : (x z : ℕ → ℤ) (i : ℕ) → ((j : ℕ) → j < n → j ≢ i → x j ≤ℤ z j) → (rs : List Resistor) → All (IsResistorOf n) rs → outflow rule rs x i <ℤ outflow rule rs z i → (x i +ℤ pos 1) ≤ℤ z i
  is_below x z i under rs all less =
      by_lt_z (x i) (z i) (λ lt. omega (arith, ints))
      (λ le. let back : outflow rule rs z i ≤ℤ outflow rule rs x i = outflow_le z x i (λ j l. elim (cases_eq j i) [ inl e ↦ omega (arith, ints, ap x e, ap z e) | inr ne ↦ let u = under j l ne in omega (arith, ints, u, le) ]) rs all in absurd (omega (arith, ints, back, less)))

  -- No node's flows grow by more than its degree, if it is raised by one.
  ends_step : (s t : Bool) (u v u' v' : ℤ) → (s ≡ true → u' ≤ℤ (u +ℤ pos 1)) → (t ≡ true → v' ≤ℤ (v +ℤ pos 1)) → (s ≡ true → t ≡ true → (u' +ℤ v') ≤ℤ (u +ℤ v)) → (cond s u' (pos 0) +ℤ cond t v' (pos 0)) ≤ℤ ((cond s u (pos 0) +ℤ cond t v (pos 0)) +ℤ pos (cond (s || t) 1 0))
  ends_step true true u v u' v' a b both = omega (arith, ints, both refl refl)
  ends_step true false u v u' v' a b both = omega (arith, ints, a refl)
  ends_step false true u v u' v' a b both = omega (arith, ints, b refl)
  ends_step false false u v u' v' a b both = omega (arith, ints)

  -- The difference at a resistor of the node that is raised is greater by one at most.
  flow_step : (d d' r : ℤ) → pos 1 ≤ℤ r → d' ≤ℤ (d +ℤ pos 1) → rule d' r ≤ℤ (rule d r +ℤ pos 1)
  flow_step d d' r h le = let a = of_rule.grows d' (d +ℤ pos 1) r h le in let b = of_rule.by_one d r h in omega (arith, ints, a, b)

  none_same : (x : ℕ → ℤ) (r : Resistor) → pos 1 ≤ℤ r.ohms → r.a ≡ r.b → (rule (x r.a -ℤ x r.b) r.ohms ≡ pos 0) × (rule (x r.b -ℤ x r.a) r.ohms ≡ pos 0)
  none_same x r h e =
      let same = ap x e in
      let zero_ab : x r.a -ℤ x r.b ≡ pos 0 = omega (arith, ints, same) in
      let zero_ba : x r.b -ℤ x r.a ≡ pos 0 = omega (arith, ints, same) in
      (ap (λ d. rule d r.ohms) zero_ab ∙ of_rule.none r.ohms h, ap (λ d. rule d r.ohms) zero_ba ∙ of_rule.none r.ohms h)

  pub outflow_step : (x z : ℕ → ℤ) (i : ℕ) → ((j : ℕ) → j < n → ((z i -ℤ x i) -ℤ pos 1) ≤ℤ (z j -ℤ x j)) → (rs : List Resistor) → All (IsResistorOf n) rs → outflow rule rs z i ≤ℤ (outflow rule rs x i +ℤ pos (degree rs i))
  outflow_step x z i near [] all = omega (arith, ints)
  outflow_step x z i near (r ∷ rs) all =
      let of_r = All-head (IsResistorOf n) r rs all in
      let rest = outflow_step x z i near rs (All-tail (IsResistorOf n) r rs all) in
      let at_a : r.a ≡ i → ((z r.a -ℤ x r.a) -ℤ pos 1) ≤ℤ (z r.b -ℤ x r.b) = λ e. subst (λ (m : ℕ). ((z m -ℤ x m) -ℤ pos 1) ≤ℤ (z r.b -ℤ x r.b)) (sym e) (near r.b of_r.b_is_node) in
      let at_b : r.b ≡ i → ((z r.b -ℤ x r.b) -ℤ pos 1) ≤ℤ (z r.a -ℤ x r.a) = λ e. subst (λ (m : ℕ). ((z m -ℤ x m) -ℤ pos 1) ≤ℤ (z r.a -ℤ x r.a)) (sym e) (near r.a of_r.a_is_node) in
      let here = ends_step (eqb r.a i) (eqb r.b i) (rule (x r.a -ℤ x r.b) r.ohms) (rule (x r.b -ℤ x r.a) r.ohms) (rule (z r.a -ℤ z r.b) r.ohms) (rule (z r.b -ℤ z r.a) r.ohms)
      (λ e. let h = at_a (eqb-true r.a i e) in flow_step (x r.a -ℤ x r.b) (z r.a -ℤ z r.b) r.ohms of_r.resists (omega (arith, ints, h)))
      (λ e. let h = at_b (eqb-true r.b i e) in flow_step (x r.b -ℤ x r.a) (z r.b -ℤ z r.a) r.ohms of_r.resists (omega (arith, ints, h)))
      (λ e e'. let same : r.a ≡ r.b = eqb-true r.a i e ∙ sym (eqb-true r.b i e') in omega (arith, ints, none_same x r of_r.resists same, none_same z r of_r.resists same)) in
      omega (arith, ints, here, rest)

  -- Flows rounded the other way: what leaves in a list's negative is at most the negative of what leaves in the list.
  pub outflow_negative : (x z : ℕ → ℤ) (i : ℕ) (t : ℤ) → ((j : ℕ) → j < n → z j ≡ t -ℤ x j) → (rs : List Resistor) → All (IsResistorOf n) rs → (outflow rule rs x i +ℤ outflow rule rs z i) ≤ℤ pos 0
  outflow_negative x z i t is [] all = omega (arith, ints)
  outflow_negative x z i t is (r ∷ rs) all =
      let of_r = All-head (IsResistorOf n) r rs all in
      let rest = outflow_negative x z i t is rs (All-tail (IsResistorOf n) r rs all) in
      let a = is r.a of_r.a_is_node in
      let b = is r.b of_r.b_is_node in
      let ab : z r.a -ℤ z r.b ≡ neg_ℤ (x r.a -ℤ x r.b) = omega (arith, ints, a, b) in
      let ba : z r.b -ℤ z r.a ≡ neg_ℤ (x r.b -ℤ x r.a) = omega (arith, ints, a, b) in
      let u = rule (x r.a -ℤ x r.b) r.ohms in
      let v = rule (x r.b -ℤ x r.a) r.ohms in
      let here = taken_le r i (rule (z r.a -ℤ z r.b) r.ohms) (rule (z r.b -ℤ z r.a) r.ohms) (neg_ℤ u) (neg_ℤ v)
      (λ e. omega (arith, ints, of_rule.ends_at_most (x r.a -ℤ x r.b) r.ohms of_r.resists, ap (λ d. rule d r.ohms) ab))
      (λ e. omega (arith, ints, of_rule.ends_at_most (x r.b -ℤ x r.a) r.ohms of_r.resists, ap (λ d. rule d r.ohms) ba)) in
      let turned = taken_negative (eqb r.a i) (eqb r.b i) u v in
      omega (arith, ints, here, rest, turned)
    where
      taken_negative : (s t : Bool) (u v : ℤ) → (cond s (neg_ℤ u) (pos 0) +ℤ cond t (neg_ℤ v) (pos 0)) ≡ neg_ℤ (cond s u (pos 0) +ℤ cond t v (pos 0))
      taken_negative true true u v = omega (arith, ints)
      taken_negative true false u v = omega (arith, ints)
      taken_negative false true u v = omega (arith, ints)
      taken_negative false false u v = omega (arith, ints)

module _ (rule : FlowRule) (of_rule : IsFlowRule rule) (net : Network) (wf : IsNetwork net) where
  -- A list that is nowhere above one that satisfies the high half, but perhaps at a node whose sum is below 1, may be raised there.
  pub raise_below : (x z : ℕ → ℤ) (i : ℕ) → HighHoldsBy rule net z → ((j : ℕ) → j < net.nodes → j ≢ i → x j ≤ℤ z j) → i < net.nodes → pad_at net i ≡ None → (outflow rule net.resistors x i +ℤ low_load net i) <ℤ pos 1 → (x i +ℤ pos 1) ≤ℤ z i
  raise_below x z i holds under l no_pad short =
      let h = holds.sums i l no_pad in
      is_below rule of_rule net.nodes x z i under net.resistors wf.each_resistor (omega (arith, ints, h, short))

  pub pad_is_other : (i j : ℕ) (v : ℤ) → pad_at net i ≡ None → pad_at net j ≡ Some v → j ≢ i
  pad_is_other i j v none some e = let same : pad_at net j ≡ None = ap (pad_at net) e ∙ none in absurd (Some_not_None v (sym some ∙ same))
    where
      Some_not_None : (v : ℤ) → ◌≡◌ {A = Option ℤ} (Some v) None → ⊥
      Some_not_None v e = cc

  -- A list that satisfies the high half still does so, if it is lowered at a node that is no pad and whose sum stays at least 1.
  pub lower_keeps : (x z : ℕ → ℤ) (i : ℕ) → HighHoldsBy rule net x → pad_at net i ≡ None → ((j : ℕ) → j < net.nodes → j ≢ i → z j ≡ x j) → z i ≤ℤ x i → pos 1 ≤ℤ (outflow rule net.resistors z i +ℤ low_load net i) → HighHoldsBy rule net z
  lower_keeps x z i holds no_pad others lower sum = record {
    pads = λ j v l pad. let h = holds.pads j v l pad in let e = others j l (pad_is_other i j v no_pad pad) in omega (arith, ints, h, e);
    sums = λ j l none. elim (cases_eq j i) [
      | inl e ↦ subst (λ (m : ℕ). pos 1 ≤ℤ (outflow rule net.resistors z m +ℤ low_load net m)) (sym e) sum
      | inr ne ↦
          let here = others j l ne in
          let le = outflow_le rule of_rule net.nodes x z j (λ k m. elim (cases_eq k i) [ inl e ↦ omega (arith, ints, ap x e, ap z e, lower, here) | inr o ↦ omega (arith, ints, others k m o, here) ]) net.resistors wf.each_resistor in
          omega (arith, ints, le, holds.sums j l none)
    ];
  }

  -- One unit at a node changes its sum by its degree at most.
  pub step_at_most : (x z : ℕ → ℤ) (i : ℕ) → IsRaisedByOne net.nodes i x z → outflow rule net.resistors z i ≤ℤ (outflow rule net.resistors x i +ℤ pos (degree net.resistors i))
  step_at_most x z i step =
      outflow_step rule of_rule net.nodes x z i (λ j l. elim (cases_eq j i) [ inl e ↦ omega (arith, ints, ap x e, ap z e, step.raised) | inr ne ↦ omega (arith, ints, step.raised, step.others j l ne) ]) net.resistors wf.each_resistor

  -- And no other node's sum grows.
  pub others_no_more : (x z : ℕ → ℤ) (i : ℕ) → IsRaisedByOne net.nodes i x z → (j : ℕ) → j < net.nodes → j ≢ i → outflow rule net.resistors z j ≤ℤ outflow rule net.resistors x j
  others_no_more x z i step j l ne =
      let here = step.others j l ne in
      outflow_le rule of_rule net.nodes z x j (λ k m. elim (cases_eq k i) [ inl e ↦ omega (arith, ints, ap x e, ap z e, step.raised, here) | inr o ↦ omega (arith, ints, step.others k m o, here) ]) net.resistors wf.each_resistor

  -- A lift above a voltage that no pad passes satisfies the high half.
  pub lift_holds : (y : ℕ → ℤ) (t : ℤ) → IsLift rule net y → ((i : ℕ) (v : ℤ) → i < net.nodes → pad_at net i ≡ Some v → v ≤ℤ t) → HighHoldsBy rule net (λ j. t +ℤ y j)
  lift_holds y t lift top = record {
    pads = λ i v l pad. let a = top i v l pad in let b = lift.pads i v l pad in omega (arith, ints, a, b);
    sums = λ i l none.
        let a = lift.sums i l none in
        let le = outflow_le rule of_rule net.nodes y (λ j. t +ℤ y j) i (λ j m. omega (arith, ints)) net.resistors wf.each_resistor in
        omega (arith, ints, a, le);
  }

  -- A lift below a voltage that no pad is below lies below every list that satisfies the high half.
  lift_below_at_top : (y h : ℕ → ℤ) (b : ℤ) → IsLift rule net y → HighHoldsBy rule net h → ((i : ℕ) (v : ℤ) → i < net.nodes → pad_at net i ≡ Some v → b ≤ℤ v) → (i : ℕ) → i < net.nodes → ((j : ℕ) → j < net.nodes → ((b -ℤ y j) -ℤ h j) ≤ℤ ((b -ℤ y i) -ℤ h i)) → (o : Option ℤ) → pad_at net i ≡ o → (b -ℤ y i) ≤ℤ h i
  lift_below_at_top y h b lift holds bottom i l top None no_pad =
      let le = outflow_le rule of_rule net.nodes h (λ j. b -ℤ y j) i top net.resistors wf.each_resistor in
      let turned = outflow_negative rule of_rule net.nodes y (λ j. b -ℤ y j) i b (λ j m. refl) net.resistors wf.each_resistor in
      let s = lift.sums i l no_pad in
      let k = holds.sums i l no_pad in
      absurd (omega (arith, ints, le, turned, s, k))
  lift_below_at_top y h b lift holds bottom i l top (Some v) pad =
      omega (arith, ints, lift.pads i v l pad, holds.pads i v l pad, bottom i v l pad)

  pub lift_is_below : (y h : ℕ → ℤ) (b : ℤ) → IsLift rule net y → HighHoldsBy rule net h → ((i : ℕ) (v : ℤ) → i < net.nodes → pad_at net i ≡ Some v → b ≤ℤ v) → (j : ℕ) → j < net.nodes → (b -ℤ y j) ≤ℤ h j
  lift_is_below y h b lift holds bottom j l =
      let g = greatest_of (λ k. (b -ℤ y k) -ℤ h k) net.nodes (omega arith) in
      let t = lift_below_at_top y h b lift holds bottom g.0 g.1 g.2 (pad_at net g.0) refl in
      omega (arith, ints, t, g.2 j l)
