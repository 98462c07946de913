-- How high and how low a list comes that is raised until the test holds, and then lowered.
use Rattle.std.proofs.Common.{◌≡◌, ℕ, zero, suc, ◌*◌, ◌<◌, inl, inr, ℤ, pos, neg_ℤ, ◌+ℤ◌, ◌-ℤ◌, ◌≤ℤ◌, arith, refl, sym, ap, subst}
use Rattle.std.proofs.lemmas.Int.{ints}
use Rattle.std.proofs.lemmas.Bool.{cases_lt}
use Rattle.std.proofs.Math.IntN.{neg_ℤ-neg_ℤ}
use Rattle.grid_net.specs.Network.{Network, IsNetwork, FlowRule, load_size, over_nodes}
use Rattle.bound_make.specs.inside.Raising.{IsFlowRule, TellsBelow, HighHoldsBy, IsLift, PadsWithin, IsSuppliedWithin, ResistsAtMost}
use Rattle.bound_make.specs.Scale.{margin, flow_reach}
use Rattle.grid_net.specs.Level.{AreJoined, IsWithin}
use Rattle.bound_make.specs.inside.Mirror.{LowHoldsBy}
use Rattle.grid_net.specs.Mirror.{turned, mirror}
use Rattle.bound_make.proofs.Raised.{lift_holds, lift_is_below}
use Rattle.bound_make.proofs.Lift.{least_lift}
use Rattle.bound_make.proofs.Reach.{allowed_room}
use Rattle.bound_make.proofs.Turned.{high_from_low, low_from_high}
use Rattle.grid_net.specs.Laws.Mirror.{mirror_network, pad_out, pad_in, load_in, high_in}

module _ (rule : FlowRule) (of_rule : IsFlowRule rule) (net : Network) (wf : IsNetwork net) (tells : TellsBelow rule (flow_reach net)) (k r : ℕ) (supplied : IsSuppliedWithin net k) (resists : ResistsAtMost net r) where
  -- The least lift.
  pub lift_within : 0 < net.nodes → (y : ℕ → ℤ) × IsLift rule net y × ((i : ℕ) → i < net.nodes → y i ≤ℤ pos (margin net k r)) × ((z : ℕ → ℤ) → IsLift rule net z → (i : ℕ) → i < net.nodes → y i ≤ℤ z i)
  lift_within some = least_lift rule of_rule net wf r (flow_reach net) k resists tells (allowed_room net wf some) supplied

  module _ (bottom top : ℤ) (pads : PadsWithin net bottom top) where
    pub high_roof : (z : ℕ → ℤ) × HighHoldsBy rule net z × ((i : ℕ) → i < net.nodes → (top +ℤ pos (margin net k r)) ≤ℤ z i) × ((i : ℕ) → i < net.nodes → z i ≤ℤ (top +ℤ pos (2 * margin net k r)))
    high_roof = elim (cases_lt 0 net.nodes) [
      | inl some ↦
          let lift = lift_within some in
          let of_lift : IsLift rule net lift.0 = lift.1 in
          let t = top +ℤ pos (margin net k r) in (
            (λ j. t +ℤ (lift.0) j),
            lift_holds rule of_rule net wf lift.0 t of_lift (λ i v l e. let h = pads.at_most i v l e in omega (arith, ints, h)),
            (λ i l. omega (arith, ints, of_lift.not_below i l)),
            (λ i l. omega (arith, ints, lift.2 i l)),
          )
      | inr empty ↦ (
        (λ j. top),
        record { pads = λ i v l e. absurd (omega arith); sums = λ i l e. absurd (omega arith) },
        (λ i l. absurd (omega arith)),
        (λ i l. absurd (omega arith)),
      )
    ]

    pub high_floor : (h : ℕ → ℤ) → HighHoldsBy rule net h → (i : ℕ) → i < net.nodes → (bottom -ℤ pos (margin net k r)) ≤ℤ h i
    high_floor h holds i l =
        let lift = lift_within (omega arith) in
        let below = lift_is_below rule of_rule net wf lift.0 h bottom lift.1 holds pads.at_least i l in
        omega (arith, ints, below, lift.2 i l)

-- ---- the mirror
over_same_at : (n : ℕ) (f g : ℕ → ℕ) → ((i : ℕ) → f i ≡ g i) → over_nodes n f ≡ over_nodes n g
over_same_at zero f g h = refl
over_same_at (suc n) f g h = let a = over_same_at n f g h in let b = h n in omega arith

module _ (net : Network) where
  pub mirror_reach : flow_reach (mirror net) ≡ flow_reach net
  mirror_reach =
      let same = over_same_at net.nodes (λ i. load_size (mirror net) i) (λ i. load_size net i) (λ i. let e = load_in net i in let f = high_in net i in omega (arith, ints)) in
      omega arith

  pub mirror_joined : (i j : ℕ) → AreJoined net i j → AreJoined (mirror net) i j
  mirror_joined i j joined = record { place = joined.place; in_list = joined.in_list; ends = joined.ends }

  pub mirror_within : (k i : ℕ) → IsWithin net k i → IsWithin (mirror net) k i
  mirror_within zero i (v, e) = (neg_ℤ v, pad_in net i v e)
  mirror_within (suc k) i (inl w) = inl (mirror_within k i w)
  mirror_within (suc k) i (inr (j, l, joined, w)) = inr (j, l, mirror_joined i j joined, mirror_within k j w)

  pub mirror_pads : (bottom top : ℤ) → PadsWithin net bottom top → PadsWithin (mirror net) (neg_ℤ top) (neg_ℤ bottom)
  mirror_pads bottom top pads = record {
    at_least = λ i v l e. let h = pads.at_most i (neg_ℤ v) l (pad_out net i v e) in omega (arith, ints, h);
    at_most = λ i v l e. let h = pads.at_least i (neg_ℤ v) l (pad_out net i v e) in omega (arith, ints, h);
  }

module _ (rule : FlowRule) (of_rule : IsFlowRule rule) (net : Network) (wf : IsNetwork net) (tells : TellsBelow rule (flow_reach net)) (k r : ℕ) (supplied : IsSuppliedWithin net k) (resists : ResistsAtMost net r) (bottom top : ℤ) (pads : PadsWithin net bottom top) where
  tells_mirror : TellsBelow rule (flow_reach (mirror net))
  tells_mirror = subst (λ (n : ℕ). TellsBelow rule n) (sym (mirror_reach net)) tells

  same_margin : margin (mirror net) k r ≡ margin net k r
  same_margin = ap (λ n. k * (r * n)) (mirror_reach net)

  pub low_floor : (z : ℕ → ℤ) × LowHoldsBy rule net z × ((i : ℕ) → i < net.nodes → z i ≤ℤ (bottom -ℤ pos (margin net k r))) × ((i : ℕ) → i < net.nodes → (bottom -ℤ pos (2 * margin net k r)) ≤ℤ z i)
  low_floor =
      let roof = high_roof rule of_rule (mirror net) (mirror_network net wf) tells_mirror k r (λ i l. mirror_within net k i (supplied i l)) resists (neg_ℤ top) (neg_ℤ bottom) (mirror_pads net bottom top pads) in (
        turned roof.0,
        low_from_high rule net (turned roof.0) roof.0 (λ j. refl) roof.1,
        (λ i l. let h = roof.2 i l in let m = same_margin in omega (arith, ints, h, m)),
        (λ i l. let h = roof.3 i l in let m = same_margin in omega (arith, ints, h, m)),
      )

  pub low_roof : (h : ℕ → ℤ) → LowHoldsBy rule net h → (i : ℕ) → i < net.nodes → h i ≤ℤ (top +ℤ pos (margin net k r))
  low_roof h holds i l =
      let high = high_from_low rule net h (turned h) (λ j. sym (neg_ℤ-neg_ℤ (h j))) holds in
      let f = high_floor rule of_rule (mirror net) (mirror_network net wf) tells_mirror k r (λ i l. mirror_within net k i (supplied i l)) resists (neg_ℤ top) (neg_ℤ bottom) (mirror_pads net bottom top pads) (turned h) high i l in
      let m = same_margin in
      omega (arith, ints, f, m)
