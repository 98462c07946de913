-- The list that raising and lowering make of a start, as a half sees it.
use Rattle.std.proofs.Common.{◌≡◌, ℕ, ◌*◌, ◌<◌, ℤ, pos, neg_ℤ, ◌+ℤ◌, ◌-ℤ◌, ◌≤ℤ◌, arith, sym, ap, ◌∙◌, subst, List, length, Some}
use Rattle.std.proofs.lemmas.Int.{ints}
use Rattle.std.proofs.lemmas.List.{ext_get_or}
use Rattle.grid_net.specs.Network.{Network, IsNetwork, pad_at, entry_of}
use Rattle.grid_net.specs.Certificate.{value_limit}
use Rattle.bound_make.specs.inside.Raising.{TellsBelow, HighHoldsBy, PadsWithin, IsSuppliedWithin, ResistsAtMost, IsHighAnswer}
use Rattle.bound_make.specs.Scale.{margin, flow_reach}
use Rattle.bound_make.specs.inside.Moving.{held_rule, IsFull, IsTrim, IsRaising, IsRaisable, IsLowering, IsLowerable}
use Rattle.bound_make.proofs.Steps.{held_is}
use Rattle.bound_make.proofs.Range.{high_roof, high_floor}

-- Two lists of one length with the same entries.
pub same_list : (n : ℕ) (x y : List ℤ) → length x ≡ n → length y ≡ n → ((i : ℕ) → i < n → entry_of x i ≡ entry_of y i) → x ≡ y
same_list n x y a b h = ext_get_or (pos 0) x y (a ∙ sym b) (λ i l. h i (omega (arith, a, l)))

module _ (net : Network) (wf : IsNetwork net) (tells : TellsBelow held_rule (flow_reach net)) (k r : ℕ) (supplied : IsSuppliedWithin net k) (resists : ResistsAtMost net r) (bottom top : ℤ) (pads : PadsWithin net bottom top)
    (low_fits : neg_ℤ (pos value_limit) ≤ℤ (bottom -ℤ pos (margin net k r))) (high_fits : (top +ℤ pos (2 * margin net k r)) ≤ℤ pos value_limit)
    (start : List ℤ) (size : length start ≡ net.nodes) (at_pads : (i : ℕ) (v : ℤ) → i < net.nodes → pad_at net i ≡ Some v → entry_of start i ≡ v)
    (at_least : (i : ℕ) → i < net.nodes → (bottom -ℤ pos (margin net k r)) ≤ℤ entry_of start i) (at_most : (i : ℕ) → i < net.nodes → entry_of start i ≤ℤ (top +ℤ pos (margin net k r))) where
  roof : (z : ℕ → ℤ) × HighHoldsBy held_rule net z × ((i : ℕ) → i < net.nodes → (top +ℤ pos (margin net k r)) ≤ℤ z i) × ((i : ℕ) → i < net.nodes → z i ≤ℤ (top +ℤ pos (2 * margin net k r)))
  roof = high_roof held_rule held_is net wf tells k r supplied resists bottom top pads

  floor_of : (h : ℕ → ℤ) → HighHoldsBy held_rule net h → (i : ℕ) → i < net.nodes → (bottom -ℤ pos (margin net k r)) ≤ℤ h i
  floor_of = high_floor held_rule held_is net wf tells k r supplied resists bottom top pads

  pub can_rise : IsRaisable net start
  can_rise = record {
    size = size;
    least = λ i l. omega (arith, ints, at_least i l, low_fits);
    roof = (roof.0, roof.1, (λ i l. omega (arith, ints, at_most i l, roof.2 i l)), λ i l. omega (arith, ints, roof.3 i l, high_fits));
  }

  module _ (up : List ℤ) (rising : IsRaising net start up) (full : (i : ℕ) → i < net.nodes → IsFull net up i) where
    up_top : (i : ℕ) → i < net.nodes → entry_of up i ≤ℤ (top +ℤ pos (2 * margin net k r))
    up_top i l = omega (arith, ints, rising.below roof.0 roof.1 (λ j m. omega (arith, ints, at_most j m, roof.2 j m)) i l, roof.3 i l)

    pub can_fall : IsLowerable net up
    can_fall = record {
      size = rising.size ∙ size;
      most = λ i l. omega (arith, ints, up_top i l, high_fits);
      holds = record { pads = λ i v l e. omega (arith, ints, rising.pads i v l e, at_pads i v l e); sums = full };
      floor = λ h holds i l. omega (arith, ints, floor_of h holds i l, low_fits);
    }

    unmoved : HighHoldsBy held_rule net (entry_of start) → (i : ℕ) → i < net.nodes → entry_of up i ≤ℤ entry_of start i
    unmoved holds = rising.below (entry_of start) holds (λ i l. omega (arith, ints))

    module _ (x : List ℤ) (falling : IsLowering net up x) (trim : (i : ℕ) → i < net.nodes → IsTrim net x i) where
      pub made_within : (i : ℕ) → i < net.nodes → (neg_ℤ (pos value_limit) ≤ℤ entry_of x i) × (entry_of x i ≤ℤ pos value_limit)
      made_within i l = (omega (arith, ints, floor_of (entry_of x) falling.holds i l, low_fits), omega (arith, ints, falling.below i l, up_top i l, high_fits))

      pub made_size : length x ≡ net.nodes
      made_size = falling.size ∙ rising.size ∙ size

      pub answer : IsHighAnswer held_rule net bottom top (margin net k r) (entry_of start) (entry_of x)
      answer = record {
        holds = falling.holds;
        tight = record { pads = λ i v l e. falling.pads i v l e ∙ rising.pads i v l e ∙ at_pads i v l e; sums = trim };
        at_least = floor_of (entry_of x) falling.holds;
        at_most = λ i l. omega (arith, ints, falling.below i l, up_top i l);
        not_above = λ holds i l. omega (arith, ints, falling.below i l, unmoved holds i l);
        the_start = λ holds tight i l.
            (let same : up ≡ start = same_list net.nodes up start (rising.size ∙ size) size (λ j m. omega (arith, ints, unmoved holds j m, rising.above j m)) in
            ap (λ w. entry_of w i) (falling.unmoved (λ j m. subst (λ (w : List ℤ). IsTrim net w j) (sym same) (tight.sums j m)) ∙ same));
      }

-- All that is asked of a start.
pub record IsStarted (net : Network) (k r : ℕ) (bottom top : ℤ) (start : List ℤ) : Type 0 where
  pub wf : IsNetwork net
  pub tells : TellsBelow held_rule (flow_reach net)
  pub supplied : IsSuppliedWithin net k
  pub resists : ResistsAtMost net r
  pub pads : PadsWithin net bottom top
  pub low_fits : neg_ℤ (pos value_limit) ≤ℤ (bottom -ℤ pos (margin net k r))
  pub high_fits : (top +ℤ pos (2 * margin net k r)) ≤ℤ pos value_limit
  pub size : length start ≡ net.nodes
  pub at_pads : (i : ℕ) (v : ℤ) → i < net.nodes → pad_at net i ≡ Some v → entry_of start i ≡ v
  pub at_least : (i : ℕ) → i < net.nodes → (bottom -ℤ pos (margin net k r)) ≤ℤ entry_of start i
  pub at_most : (i : ℕ) → i < net.nodes → entry_of start i ≤ℤ (top +ℤ pos (margin net k r))

module _ (net : Network) (k r : ℕ) (bottom top : ℤ) (start : List ℤ) (s : IsStarted net k r bottom top start) where
  pub started_rise : IsRaisable net start
  started_rise = can_rise net s.wf s.tells k r s.supplied s.resists bottom top s.pads s.low_fits s.high_fits start s.size s.at_pads s.at_least s.at_most

  pub started_fall : (up : List ℤ) → IsRaising net start up → ((i : ℕ) → i < net.nodes → IsFull net up i) → IsLowerable net up
  started_fall = can_fall net s.wf s.tells k r s.supplied s.resists bottom top s.pads s.low_fits s.high_fits start s.size s.at_pads s.at_least s.at_most

  module _ (up : List ℤ) (rising : IsRaising net start up) (full : (i : ℕ) → i < net.nodes → IsFull net up i) (x : List ℤ) (falling : IsLowering net up x) (trim : (i : ℕ) → i < net.nodes → IsTrim net x i) where
    pub started_within : (i : ℕ) → i < net.nodes → (neg_ℤ (pos value_limit) ≤ℤ entry_of x i) × (entry_of x i ≤ℤ pos value_limit)
    started_within = made_within net s.wf s.tells k r s.supplied s.resists bottom top s.pads s.low_fits s.high_fits start s.size s.at_pads s.at_least s.at_most up rising full x falling trim

    pub started_size : length x ≡ net.nodes
    started_size = made_size net s.wf s.tells k r s.supplied s.resists bottom top s.pads s.low_fits s.high_fits start s.size s.at_pads s.at_least s.at_most up rising full x falling trim

    pub started_answer : IsHighAnswer held_rule net bottom top (margin net k r) (entry_of start) (entry_of x)
    started_answer = answer net s.wf s.tells k r s.supplied s.resists bottom top s.pads s.low_fits s.high_fits start s.size s.at_pads s.at_least s.at_most up rising full x falling trim
