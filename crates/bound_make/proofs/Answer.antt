-- The answer for both lists, and what a start that passes the plain test means for the held sums.
use Rattle.std.proofs.Common.{◌≡◌, ℕ, ◌*◌, ◌<◌, ℤ, pos, neg_ℤ, ◌+ℤ◌, ◌-ℤ◌, ◌≤ℤ◌, ◌<ℤ◌, arith, refl, sym, ap, subst, All, List, [], ◌∷◌, get_or}
use Rattle.std.proofs.lemmas.Int.{ints, clamps}
use Rattle.std.proofs.lemmas.List.Elements.{All-head, All-tail}
use Rattle.std.proofs.Math.IntN.{neg_ℤ-neg_ℤ}
use Rattle.grid_net.specs.declared.part.Resistor.{Resistor}
use Rattle.rounding.specs.Rounding.{floor_div, ceil_div}
use Rattle.grid_net.specs.Network.{Network, IsNetwork, IsResistorOf, FlowRule, outflow}
use Rattle.grid_net.specs.Certificate.{HighHolds, LowHolds, FlowsWithin}
use Rattle.bound_make.specs.inside.Raising.{IsFlowRule, TellsBelow, held, held_floor, HighHoldsBy, IsTightAbove, PadsWithin, IsSuppliedWithin, ResistsAtMost, IsHighStart, IsHighAnswer}
use Rattle.bound_make.specs.Scale.{margin, flow_reach}
use Rattle.bound_make.specs.inside.Mirror.{LowHoldsBy, IsTightBelow, IsLowStart, IsLowAnswer}
use Rattle.grid_net.specs.Mirror.{turned, mirror}
use Rattle.grid_net.specs.Laws.Sums.{taken_le}
use Rattle.bound_make.proofs.Flows.{floor_is_rule}
use Rattle.bound_make.proofs.Held.{sums_are_plain, floor_within}
use Rattle.bound_make.proofs.Turned.{high_from_low, low_from_high, tight_from_low, tight_from_high}
use Rattle.grid_net.specs.Laws.Mirror.{pad_out}
use Rattle.bound_make.proofs.Range.{mirror_reach, mirror_pads, mirror_within}
use Rattle.grid_net.specs.Laws.Mirror.{mirror_network}
use Rattle.bound_make.proofs.Success.{high_answer}

twice : (x : ℕ → ℤ) (j : ℕ) → x j ≡ neg_ℤ (turned x j)
twice x j = sym (neg_ℤ-neg_ℤ (x j))

module _ (rule : FlowRule) (of_rule : IsFlowRule rule) (net : Network) (wf : IsNetwork net) (tells : TellsBelow rule (flow_reach net)) (k r : ℕ) (supplied : IsSuppliedWithin net k) (resists : ResistsAtMost net r) (bottom top : ℤ) (pads : PadsWithin net bottom top) (start : ℕ → ℤ) (of_start : IsLowStart net (bottom -ℤ pos (margin net k r)) start) where
  same_margin : margin (mirror net) k r ≡ margin net k r
  same_margin = ap (λ n. k * (r * n)) (mirror_reach net)

  mirror_start : IsHighStart (mirror net) (neg_ℤ bottom +ℤ pos (margin (mirror net) k r)) (turned start)
  mirror_start = record {
    pads = λ i v l e. let h = of_start.pads i (neg_ℤ v) l (pad_out net i v e) in omega (arith, ints, h);
    below_roof = λ i l. let h = of_start.above_floor i l in omega (arith, ints, h, same_margin);
  }

  pub low_answer : (low : ℕ → ℤ) × IsLowAnswer rule net bottom top (margin net k r) start low
  low_answer =
      let found = high_answer rule of_rule (mirror net) (mirror_network net wf) (subst (λ (n : ℕ). TellsBelow rule n) (sym (mirror_reach net)) tells) k r (λ i l. mirror_within net k i (supplied i l)) resists (neg_ℤ top) (neg_ℤ bottom) (mirror_pads net bottom top pads) (turned start) mirror_start in
      let z : ℕ → ℤ = found.0 in
      let of_z : IsHighAnswer rule (mirror net) (neg_ℤ top) (neg_ℤ bottom) (margin (mirror net) k r) (turned start) z = found.1 in (
        turned z,
        record {
          holds = low_from_high rule net (turned z) z (λ j. refl) of_z.holds;
          tight = tight_from_high rule net (turned z) z (λ j. refl) of_z.tight;
          at_least = λ i l. (let h = of_z.at_most i l in omega (arith, ints, h, same_margin));
          at_most = λ i l. (let h = of_z.at_least i l in omega (arith, ints, h, same_margin));
          not_below = λ holds i l. (let h = of_z.not_above (high_from_low rule net start (turned start) (twice start) holds) i l in omega (arith, ints, h));
          the_start = λ holds tight i l. (let h = of_z.the_start (high_from_low rule net start (turned start) (twice start) holds) (tight_from_low rule net start (turned start) (twice start) tight) i l in omega (arith, ints, h));
        },
      )

-- ---- a start that passes the plain test
held_no_less : (m a : ℤ) → pos 0 ≤ℤ m → a ≤ℤ m → a ≤ℤ held m a
held_no_less m a h le = omega (arith, ints, clamps)

module _ (net : Network) (wf : IsNetwork net) (limit : ℕ) (x : ℕ → ℤ) where
  abbrev IsInRange : Resistor → Type 0
  IsInRange r = (neg_ℤ (pos limit) ≤ℤ floor_div (x r.a -ℤ x r.b) r.ohms) × (floor_div (x r.a -ℤ x r.b) r.ohms ≤ℤ pos limit)

  plain_no_more : (i : ℕ) (rs : List Resistor) → All (IsResistorOf net.nodes) rs → All IsInRange rs → outflow floor_div rs x i ≤ℤ outflow (held_floor (pos limit)) rs x i
  plain_no_more i [] all flows = omega (arith, ints)
  plain_no_more i (r ∷ rs) all flows =
      let of_r = All-head (IsResistorOf net.nodes) r rs all in
      let f = All-head IsInRange r rs flows in
      let F = floor_div (x r.a -ℤ x r.b) r.ohms in
      let G = floor_div (x r.b -ℤ x r.a) r.ohms in
      let ends = floor_is_rule.ends_at_most (x r.a -ℤ x r.b) r.ohms of_r.resists in
      let turn : neg_ℤ (x r.a -ℤ x r.b) ≡ x r.b -ℤ x r.a = omega (arith, ints) in
      let back = ap (λ z. floor_div z r.ohms) turn in
      let here = taken_le r i F G (held (pos limit) F) (held (pos limit) G)
      (λ e. held_no_less (pos limit) F (omega (arith, ints)) f.1)
      (λ e. held_no_less (pos limit) G (omega (arith, ints)) (omega (arith, ints, f.0, ends, back))) in
      let rest = plain_no_more i rs (All-tail (IsResistorOf net.nodes) r rs all) (All-tail IsInRange r rs flows) in
      omega (arith, ints, here, rest)

  -- It satisfies the high half by the held flows too.
  pub holds_when_held : FlowsWithin floor_div net limit x → HighHolds net x → HighHoldsBy (held_floor (pos limit)) net x
  holds_when_held flows holds = record {
    pads = holds.pads;
    sums = λ i l e. (let a = plain_no_more i net.resistors wf.each_resistor flows in omega (arith, ints, a, holds.sums i l e));
  }

  -- And if it is tight, the held sums are the plain ones.
  pub tight_when_held : (bottom top : ℤ) → PadsWithin net bottom top → flow_reach net < limit → (top -ℤ bottom) <ℤ pos limit → HighHolds net x → IsTightAbove floor_div net x → HighHoldsBy (held_floor (pos limit)) net x × IsTightAbove (held_floor (pos limit)) net x
  tight_when_held bottom top pads reach span holds tight =
      let plain : HighHoldsBy floor_div net x = record { pads = holds.pads; sums = holds.sums } in
      let same : (i : ℕ) → outflow (held_floor (pos limit)) net.resistors x i ≡ outflow floor_div net.resistors x i = sums_are_plain floor_div floor_is_rule net wf limit (floor_within limit) bottom top x plain tight pads reach span in (
        record { pads = holds.pads; sums = λ i l e. (let a = same i in omega (arith, ints, a, holds.sums i l e)) },
        record { pads = tight.pads; sums = λ i l e. (let a = same i in omega (arith, ints, a, tight.sums i l e)) },
      )

-- ---- the low side
module _ (net : Network) (wf : IsNetwork net) (limit : ℕ) (x : ℕ → ℤ) where
  high_of_low : LowHolds net x → HighHolds (mirror net) (turned x)
  high_of_low holds =
      let by_rule : LowHoldsBy floor_div net x = record { pads = holds.pads; sums = holds.sums } in
      let h = high_from_low floor_div net x (turned x) (twice x) by_rule in
      record { pads = h.pads; sums = h.sums }

  flows_turned : FlowsWithin ceil_div net limit x → FlowsWithin floor_div (mirror net) limit (turned x)
  flows_turned flows k d l =
      let r = get_or net.resistors k d in
      let f = flows k d l in
      let e : neg_ℤ (x r.a -ℤ x r.b) ≡ turned x r.a -ℤ turned x r.b = omega (arith, ints) in
      omega (arith, ints, f, ap (λ z. floor_div z r.ohms) e)

  pub low_holds_when_held : FlowsWithin ceil_div net limit x → LowHolds net x → LowHoldsBy (held_floor (pos limit)) net x
  low_holds_when_held flows holds =
      low_from_high (held_floor (pos limit)) net x (turned x) (twice x) (holds_when_held (mirror net) (mirror_network net wf) limit (turned x) (flows_turned flows) (high_of_low holds))

  pub low_tight_when_held : (bottom top : ℤ) → PadsWithin net bottom top → flow_reach net < limit → (top -ℤ bottom) <ℤ pos limit → LowHolds net x → IsTightBelow floor_div net x → LowHoldsBy (held_floor (pos limit)) net x × IsTightBelow (held_floor (pos limit)) net x
  low_tight_when_held bottom top pads reach span holds tight =
      let both = tight_when_held (mirror net) (mirror_network net wf) limit (turned x) (neg_ℤ top) (neg_ℤ bottom) (mirror_pads net bottom top pads) (subst (λ (n : ℕ). n < limit) (sym (mirror_reach net)) reach) (omega (arith, ints, span)) (high_of_low holds) (tight_from_low floor_div net x (turned x) (twice x) tight) in (
        low_from_high (held_floor (pos limit)) net x (turned x) (twice x) both.0,
        tight_from_high (held_floor (pos limit)) net x (turned x) (twice x) both.1,
      )
