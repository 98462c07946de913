-- From each start a list is made that satisfies the high half of the test and is tight: raised until the test holds, and then lowered.
use Rattle.std.proofs.Common.{◌≡◌, ℕ, zero, suc, ◌+◌, ◌*◌, ◌<◌, ◌⊎◌, inl, inr, ℤ, pos, negsuc, ◌+ℤ◌, ◌-ℤ◌, ◌≤ℤ◌, ◌<ℤ◌, arith, refl, sym, ap, ◌∙◌, Option, Some, None, cond, eqb, eqb-true, eq-eqb}
use Rattle.std.proofs.lemmas.Int.{ints, by_lt_z}
use Rattle.std.proofs.lemmas.Bool.{cases_eq}
use Rattle.grid_net.specs.Network.{Network, IsNetwork, FlowRule, outflow, low_load, pad_at, degree}
use Rattle.bound_make.specs.inside.Raising.{IsFlowRule, TellsBelow, IsRaisedByOne, HighHoldsBy, IsTightAbove, PadsWithin, IsSuppliedWithin, ResistsAtMost, IsHighStart, IsHighAnswer}
use Rattle.bound_make.specs.Scale.{margin, flow_reach}
use Rattle.bound_make.proofs.Raised.{raise_below, lower_keeps, step_at_most, pad_is_other, outflow_le}
use Rattle.bound_make.proofs.Cut.{sum_to, sum_to_le, sum_to_add, own_term, other_term, one_term}
use Rattle.bound_make.proofs.Lift.{find_first, raise_at, raise_at_step, sum_raised}
use Rattle.bound_make.proofs.Range.{high_roof, high_floor}

-- A difference of two sums, as a natural number that is not passed.
gap_fuel : (a b : ℤ) → (n : ℕ) × (b <ℤ (a +ℤ pos n))
gap_fuel (pos a) (pos b) = (suc b, omega (arith, ints))
gap_fuel (pos a) (negsuc b) = (1, omega (arith, ints))
gap_fuel (negsuc a) (pos b) = (suc (suc (a + b)), omega (arith, ints))
gap_fuel (negsuc a) (negsuc b) = (suc (suc a), omega (arith, ints))

-- The list with one less at a node.
abbrev pub lower_at : (ℕ → ℤ) → ℕ → ℕ → ℤ
lower_at y i j = y j -ℤ cond (eqb i j) (pos 1) (pos 0)

lower_at_step : (n : ℕ) (y : ℕ → ℤ) (i : ℕ) → IsRaisedByOne n i (lower_at y i) y
lower_at_step n y i =
    let own = own_term (eqb i i) (pos 1) (eq-eqb i i refl) in
    record {
      raised = omega (arith, ints, own);
      others = λ j l ne. let o = other_term (eqb i j) (pos 1) (λ e. ne (sym (eqb-true i j e))) in omega (arith, ints, o);
    }

sum_lowered : (n : ℕ) (y : ℕ → ℤ) (i : ℕ) → i < n → sum_to n y ≡ sum_to n (lower_at y i) +ℤ pos 1
sum_lowered n y i l =
    let a = sum_to_add n (lower_at y i) (λ j. cond (eqb i j) (pos 1) (pos 0)) in
    let b = one_term n i (λ j. pos 1) l in
    let e = back n y i in
    omega (arith, ints, a, b, e)
  where
    back : (n : ℕ) (y : ℕ → ℤ) (i : ℕ) → sum_to n (λ j. lower_at y i j +ℤ cond (eqb i j) (pos 1) (pos 0)) ≡ sum_to n y
    back zero y i = refl
    back (suc n) y i = let rest = back n y i in omega (arith, ints, rest)

module _ (rule : FlowRule) (of_rule : IsFlowRule rule) (net : Network) (wf : IsNetwork net) where
  abbrev IsShortNode : (ℕ → ℤ) → ℕ → Type 0
  IsShortNode x i = (pad_at net i ≡ None) × ((outflow rule net.resistors x i +ℤ low_load net i) <ℤ pos 1)

  abbrev IsFullNode : (ℕ → ℤ) → ℕ → Type 0
  IsFullNode x i = pad_at net i ≡ None → pos 1 ≤ℤ (outflow rule net.resistors x i +ℤ low_load net i)

  short_or_full : (x : ℕ → ℤ) (i : ℕ) (o : Option ℤ) → pad_at net i ≡ o → IsShortNode x i ⊎ IsFullNode x i
  short_or_full x i None e = by_lt_z (outflow rule net.resistors x i +ℤ low_load net i) (pos 1) (λ lt. inl (e, lt)) (λ le. inr (λ none. le))
  short_or_full x i (Some v) e = inr (λ none. absurd (let f : ◌≡◌ {A = Option ℤ} (Some v) None = sym e ∙ none in cc))

  abbrev IsLooseNode : (ℕ → ℤ) → ℕ → Type 0
  IsLooseNode x i = (pad_at net i ≡ None) × (pos (64 * (degree net.resistors i + 1)) <ℤ ((outflow rule net.resistors x i +ℤ low_load net i) -ℤ pos 1))

  abbrev IsTightNode : (ℕ → ℤ) → ℕ → Type 0
  IsTightNode x i = pad_at net i ≡ None → ((outflow rule net.resistors x i +ℤ low_load net i) -ℤ pos 1) ≤ℤ pos (64 * (degree net.resistors i + 1))

  loose_or_tight : (x : ℕ → ℤ) (i : ℕ) (o : Option ℤ) → pad_at net i ≡ o → IsLooseNode x i ⊎ IsTightNode x i
  loose_or_tight x i None e = by_lt_z (pos (64 * (degree net.resistors i + 1))) ((outflow rule net.resistors x i +ℤ low_load net i) -ℤ pos 1) (λ lt. inl (e, lt)) (λ le. inr (λ none. le))
  loose_or_tight x i (Some v) e = inr (λ none. absurd (let f : ◌≡◌ {A = Option ℤ} (Some v) None = sym e ∙ none in cc))

  -- Two lists that agree at each node have the same sums.
  same_outflow : (x z : ℕ → ℤ) → ((j : ℕ) → j < net.nodes → x j ≡ z j) → (i : ℕ) → i < net.nodes → outflow rule net.resistors x i ≤ℤ outflow rule net.resistors z i
  same_outflow x z same i l =
      let here = same i l in
      outflow_le rule of_rule net.nodes x z i (λ j m. let there = same j m in omega (arith, ints, here, there)) net.resistors wf.each_resistor

  -- ---- the first phase
  module _ (roof : ℕ → ℤ) (roof_holds : HighHoldsBy rule net roof) (start : ℕ → ℤ) where
    record IsRaising (x : ℕ → ℤ) : Type 0 where
      pads : (i : ℕ) (v : ℤ) → i < net.nodes → pad_at net i ≡ Some v → x i ≡ v
      below : (i : ℕ) → i < net.nodes → x i ≤ℤ roof i
      unmoved : HighHoldsBy rule net start → (i : ℕ) → i < net.nodes → x i ≡ start i

    raise_step : (x : ℕ → ℤ) (i : ℕ) → i < net.nodes → IsShortNode x i → IsRaising x → IsRaising (raise_at x i)
    raise_step x i l (none, short) now =
        let step = raise_at_step net.nodes x i in
        record {
          pads = λ j v m e. let s = step.others j m (pad_is_other rule of_rule net wf i j v none e) in omega (arith, ints, s, now.pads j v m e);
          below = λ j m. elim (cases_eq j i) [
            | inl e ↦ (let h = raise_below rule of_rule net wf x roof i roof_holds (λ k n ne. now.below k n) l none short in omega (arith, ints, h, step.raised, ap (raise_at x i) e, ap roof e))
            | inr ne ↦ omega (arith, ints, step.others j m ne, now.below j m)
          ];
          unmoved = λ h. absurd (let a = same_outflow start x (λ j m. sym (now.unmoved h j m)) i l in omega (arith, ints, a, short, h.sums i l none));
        }

    raise_phase : (fuel : ℕ) (x : ℕ → ℤ) → IsRaising x → sum_to net.nodes roof <ℤ (sum_to net.nodes x +ℤ pos fuel) → (z : ℕ → ℤ) × IsRaising z × ((i : ℕ) → i < net.nodes → IsFullNode z i)
    raise_phase zero x now h = absurd (omega (arith, ints, sum_to_le net.nodes x roof now.below, h))
    raise_phase (suc fuel) x now h = elim (find_first (IsShortNode x) (IsFullNode x) (λ i. short_or_full x i (pad_at net i) refl) net.nodes) [
      | inl (i, l, short) ↦ raise_phase fuel (raise_at x i) (raise_step x i l short now) (omega (arith, ints, h, sum_raised net.nodes x i l))
      | inr full ↦ (x, now, full)
    ]

  -- ---- the second phase
  module _ (floor : ℕ → ℤ) (above_floor : (h : ℕ → ℤ) → HighHoldsBy rule net h → (i : ℕ) → i < net.nodes → floor i ≤ℤ h i) (start : ℕ → ℤ) where
    record IsLowering (x : ℕ → ℤ) : Type 0 where
      pads : (i : ℕ) (v : ℤ) → i < net.nodes → pad_at net i ≡ Some v → x i ≡ v
      holds : HighHoldsBy rule net x
      below : (i : ℕ) → i < net.nodes → x i ≤ℤ start i
      unmoved : IsTightAbove rule net start → (i : ℕ) → i < net.nodes → x i ≡ start i

    lower_step : (x : ℕ → ℤ) (i : ℕ) → i < net.nodes → IsLooseNode x i → IsLowering x → IsLowering (lower_at x i)
    lower_step x i l (none, loose) now =
        let step = lower_at_step net.nodes x i in
        let fall = step_at_most rule of_rule net wf (lower_at x i) x i step in
        record {
          pads = λ j v m e. let s = step.others j m (pad_is_other rule of_rule net wf i j v none e) in omega (arith, ints, s, now.pads j v m e);
          holds = lower_keeps rule of_rule net wf x (lower_at x i) i now.holds none (λ j m ne. sym (step.others j m ne)) (omega (arith, ints, step.raised)) (omega (arith, ints, fall, loose));
          below = λ j m. elim (cases_eq j i) [
            | inl e ↦ omega (arith, ints, step.raised, ap (lower_at x i) e, ap start e, now.below i l)
            | inr ne ↦ omega (arith, ints, step.others j m ne, now.below j m)
          ];
          unmoved = λ t. absurd (let a = same_outflow x start (λ j m. now.unmoved t j m) i l in omega (arith, ints, a, loose, t.sums i l none));
        }

    lower_phase : (fuel : ℕ) (x : ℕ → ℤ) → IsLowering x → sum_to net.nodes x <ℤ (sum_to net.nodes floor +ℤ pos fuel) → (z : ℕ → ℤ) × IsLowering z × ((i : ℕ) → i < net.nodes → IsTightNode z i)
    lower_phase zero x now h = absurd (omega (arith, ints, sum_to_le net.nodes floor x (above_floor x now.holds), h))
    lower_phase (suc fuel) x now h = elim (find_first (IsLooseNode x) (IsTightNode x) (λ i. loose_or_tight x i (pad_at net i) refl) net.nodes) [
      | inl (i, l, loose) ↦ lower_phase fuel (lower_at x i) (lower_step x i l loose now) (omega (arith, ints, h, sum_lowered net.nodes x i l))
      | inr tight ↦ (x, now, tight)
    ]

  -- ---- both
  module _ (tells : TellsBelow rule (flow_reach net)) (k r : ℕ) (supplied : IsSuppliedWithin net k) (resists : ResistsAtMost net r) (bottom top : ℤ) (pads : PadsWithin net bottom top) (start : ℕ → ℤ) (of_start : IsHighStart net (top +ℤ pos (margin net k r)) start) where
    pub high_answer : (high : ℕ → ℤ) × IsHighAnswer rule net bottom top (margin net k r) start high
    high_answer =
        let roof = high_roof rule of_rule net wf tells k r supplied resists bottom top pads in
        let fuel = gap_fuel (sum_to net.nodes start) (sum_to net.nodes roof.0) in
        let up = raise_phase roof.0 roof.1 start fuel.0 start (record { pads = of_start.pads; below = λ i l. omega (arith, ints, of_start.below_roof i l, roof.2 i l); unmoved = λ h i l. refl }) fuel.1 in
        let x : ℕ → ℤ = up.0 in
        let raised : IsRaising roof.0 roof.1 start x = up.1 in
        let x_holds : HighHoldsBy rule net x = record { pads = λ i v l e. omega (arith, ints, raised.pads i v l e); sums = up.2 } in
        let floor_of : (h : ℕ → ℤ) → HighHoldsBy rule net h → (i : ℕ) → i < net.nodes → (bottom -ℤ pos (margin net k r)) ≤ℤ h i = high_floor rule of_rule net wf tells k r supplied resists bottom top pads in
        let fuel2 = gap_fuel (sum_to net.nodes (λ i. bottom -ℤ pos (margin net k r))) (sum_to net.nodes x) in
        let down = lower_phase (λ i. bottom -ℤ pos (margin net k r)) floor_of x fuel2.0 x (record { pads = raised.pads; holds = x_holds; below = λ i l. omega (arith, ints); unmoved = λ t i l. refl }) fuel2.1 in
        let z : ℕ → ℤ = down.0 in
        let lowered : IsLowering (λ i. bottom -ℤ pos (margin net k r)) floor_of x z = down.1 in (
          z,
          record {
            holds = lowered.holds;
            tight = record { pads = lowered.pads; sums = down.2 };
            at_least = floor_of z lowered.holds;
            at_most = λ i l. omega (arith, ints, lowered.below i l, raised.below i l, roof.3 i l);
            not_above = λ h i l. omega (arith, ints, lowered.below i l, raised.unmoved h i l);
            the_start = λ h t i l. (let same : (j : ℕ) → j < net.nodes → x j ≡ start j = raised.unmoved h in
                let x_tight : IsTightAbove rule net x = record {
                  pads = λ j v m e. omega (arith, ints, same j m, t.pads j v m e);
                  sums = λ j m e. (let a = same_outflow x start same j m in omega (arith, ints, a, t.sums j m e));
                } in
                omega (arith, ints, lowered.unmoved x_tight i l, same i l));
          },
        )
