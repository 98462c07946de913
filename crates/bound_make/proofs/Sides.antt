-- The laws of raising and lowering on the low side, by the mirror, and both halves with plain floors.
use Rattle.std.proofs.Common.{◌≡◌, ◌≢◌, ℕ, ◌<◌, ℤ, pos, negsuc, neg_ℤ, ◌+ℤ◌, ◌-ℤ◌, ◌≤ℤ◌, ◌<ℤ◌, arith, sym, ap, subst, length, get_or, None}
use Rattle.std.proofs.lemmas.Int.{ints}
use Rattle.std.proofs.Math.IntN.{neg_ℤ-neg_ℤ}
use Rattle.grid_net.specs.declared.part.Resistor.{Resistor}
use Rattle.rounding.specs.Rounding.{floor_div, ceil_div}
use Rattle.grid_net.specs.Network.{Network, IsNetwork, FlowRule, outflow, high_load, pad_at}
use Rattle.grid_net.specs.Certificate.{HighHolds, LowHolds}
use Rattle.bound_make.specs.inside.Raising.{IsFlowRule, held_floor, HighHoldsBy, IsTightAbove, PadsWithin}
use Rattle.bound_make.specs.Scale.{flow_reach}
use Rattle.bound_make.specs.inside.Mirror.{LowHoldsBy, IsTightBelow}
use Rattle.grid_net.specs.Mirror.{turned_rule, turned, mirror}
use Rattle.bound_make.proofs.Raised.{raise_below, lower_keeps}
use Rattle.bound_make.proofs.Turned.{high_from_low, low_from_high, tight_from_low}
use Rattle.grid_net.specs.Laws.Mirror.{outflow_turned, no_pad_in, load_in}
use Rattle.bound_make.proofs.Range.{mirror_reach, mirror_pads}
use Rattle.grid_net.specs.Laws.Mirror.{mirror_network}
use Rattle.bound_make.proofs.Held.{sums_are_plain, flows_within, held_within}
use Rattle.bound_make.proofs.Flows.{held_is_rule}

twice : (x : ℕ → ℤ) (j : ℕ) → x j ≡ neg_ℤ (turned x j)
twice x j = sym (neg_ℤ-neg_ℤ (x j))

module _ (rule : FlowRule) (of_rule : IsFlowRule rule) (net : Network) (wf : IsNetwork net) where
  pub lower_above : (x z : ℕ → ℤ) (i : ℕ) → LowHoldsBy rule net z → ((j : ℕ) → j < net.nodes → j ≢ i → z j ≤ℤ x j) → i < net.nodes → pad_at net i ≡ None → negsuc 0 <ℤ (outflow (turned_rule rule) net.resistors x i +ℤ high_load net i) → z i ≤ℤ (x i -ℤ pos 1)
  lower_above x z i holds over l none great =
      let sum = outflow_turned rule net.resistors x (turned x) i (twice x) in
      let load = load_in net i in
      let h = raise_below rule of_rule (mirror net) (mirror_network net wf) (turned x) (turned z) i (high_from_low rule net z (turned z) (twice z) holds) (λ j m ne. let o = over j m ne in omega (arith, ints, o)) l (no_pad_in net i none) (omega (arith, ints, great, sum, load)) in
      omega (arith, ints, h)

  pub raise_keeps : (x z : ℕ → ℤ) (i : ℕ) → LowHoldsBy rule net x → pad_at net i ≡ None → ((j : ℕ) → j < net.nodes → j ≢ i → z j ≡ x j) → x i ≤ℤ z i → (outflow (turned_rule rule) net.resistors z i +ℤ high_load net i) ≤ℤ negsuc 0 → LowHoldsBy rule net z
  raise_keeps x z i holds none others higher low =
      let sum = outflow_turned rule net.resistors z (turned z) i (twice z) in
      let load = load_in net i in
      low_from_high rule net z (turned z) (twice z)
      (lower_keeps rule of_rule (mirror net) (mirror_network net wf) (turned x) (turned z) i (high_from_low rule net x (turned x) (twice x) holds) (no_pad_in net i none) (λ j m ne. ap neg_ℤ (others j m ne)) (omega (arith, ints, higher)) (omega (arith, ints, low, sum, load)))

module _ (net : Network) (wf : IsNetwork net) (limit : ℕ) (bottom top : ℤ) where
  pub high_is_plain : (high : ℕ → ℤ) → HighHoldsBy (held_floor (pos limit)) net high → IsTightAbove (held_floor (pos limit)) net high → PadsWithin net bottom top → flow_reach net < limit → (top -ℤ bottom) <ℤ pos limit → HighHolds net high × IsTightAbove floor_div net high
  high_is_plain high holds tight pads reach span = (
    record { pads = holds.pads; sums = λ i l e. let h = holds.sums i l e in let p = sums_are_plain (held_floor (pos limit)) (held_is_rule (pos limit) (omega (arith, ints))) net wf limit (held_within limit) bottom top high holds tight pads reach span i in omega (arith, ints, h, p) },
    record { pads = tight.pads; sums = λ i l e. let h = tight.sums i l e in let p = sums_are_plain (held_floor (pos limit)) (held_is_rule (pos limit) (omega (arith, ints))) net wf limit (held_within limit) bottom top high holds tight pads reach span i in omega (arith, ints, h, p) },
  )

  module _ (low : ℕ → ℤ) (holds : LowHoldsBy (held_floor (pos limit)) net low) (tight : IsTightBelow (held_floor (pos limit)) net low) (pads : PadsWithin net bottom top) (reach : flow_reach net < limit) (span : (top -ℤ bottom) <ℤ pos limit) where
    high : HighHoldsBy (held_floor (pos limit)) (mirror net) (turned low)
    high = high_from_low (held_floor (pos limit)) net low (turned low) (twice low) holds

    above : IsTightAbove (held_floor (pos limit)) (mirror net) (turned low)
    above = tight_from_low (held_floor (pos limit)) net low (turned low) (twice low) tight

    reach_of_mirror : flow_reach (mirror net) < limit
    reach_of_mirror = subst (λ (n : ℕ). n < limit) (sym (mirror_reach net)) reach

    plain : (i : ℕ) → outflow (turned_rule (held_floor (pos limit))) net.resistors low i ≡ outflow ceil_div net.resistors low i
    plain i =
        let s = sums_are_plain (held_floor (pos limit)) (held_is_rule (pos limit) (omega (arith, ints))) (mirror net) (mirror_network net wf) limit (held_within limit) (neg_ℤ top) (neg_ℤ bottom) (turned low) high above (mirror_pads net bottom top pads) reach_of_mirror (omega (arith, ints, span)) i in
        let a = outflow_turned (held_floor (pos limit)) net.resistors low (turned low) i (twice low) in
        let b = outflow_turned floor_div net.resistors low (turned low) i (twice low) in
        omega (arith, ints, s, a, b)

    pub low_is_plain : LowHolds net low × IsTightBelow floor_div net low
    low_is_plain = (
      record { pads = holds.pads; sums = λ i l e. let h = holds.sums i l e in let p = plain i in omega (arith, ints, h, p) },
      record { pads = tight.pads; sums = λ i l e. let h = tight.sums i l e in let p = plain i in omega (arith, ints, h, p) },
    )

    pub low_flows_within : (k : ℕ) (d : Resistor) → k < length net.resistors → let r = get_or net.resistors k d in (neg_ℤ (pos limit) ≤ℤ ceil_div (low r.a -ℤ low r.b) r.ohms) × (ceil_div (low r.a -ℤ low r.b) r.ohms ≤ℤ pos limit)
    low_flows_within k d l =
        let r = get_or net.resistors k d in
        let f = flows_within (held_floor (pos limit)) (held_is_rule (pos limit) (omega (arith, ints))) (mirror net) (mirror_network net wf) limit (held_within limit) (neg_ℤ top) (neg_ℤ bottom) (turned low) high above (mirror_pads net bottom top pads) reach_of_mirror (omega (arith, ints, span)) k d l in
        let e : neg_ℤ (low r.a -ℤ low r.b) ≡ turned low r.a -ℤ turned low r.b = omega (arith, ints) in
        omega (arith, ints, f, ap (λ z. floor_div z r.ohms) e)
