-- In a tight list no flow is held: the flows are those of the plain floors.
use Rattle.std.proofs.Common.{◌≡◌, ℕ, zero, suc, ◌+◌, ◌<◌, inl, inr, ℤ, pos, negsuc, neg_ℤ, ◌+ℤ◌, ◌-ℤ◌, ◌≤ℤ◌, ◌<ℤ◌, arith, refl, sym, ap, ◌∙◌, subst, List, [], ◌∷◌, length, get_or, All, Option, Some, None, Bool, cond, eqb, div-le_self}
use Rattle.std.proofs.lemmas.Int.{ints, clamps, by_lt_z}
use Rattle.std.proofs.lemmas.List.Elements.{All-head, All-tail}
use Rattle.grid_net.specs.declared.part.Resistor.{Resistor}
use Rattle.rounding.specs.Rounding.{floor_div}
use Rattle.grid_net.specs.Network.{Network, IsNetwork, IsResistorOf, FlowRule, outflow, load_size, pad_at, over_nodes, total_load}
use Rattle.bound_make.specs.inside.Raising.{IsFlowRule, held, held_floor, HighHoldsBy, IsTightAbove, PadsWithin}
use Rattle.bound_make.specs.Scale.{flow_reach}
use Rattle.grid_net.specs.Level.{AreJoined}
use Rattle.bound_make.proofs.Flows.{floor_is_rule, held_same}
use Rattle.bound_make.proofs.Lift.{flow_down, flow_up, no_resistor}
use Rattle.bound_make.proofs.Reach.{tight_limit, tight_room}

-- A floor of a difference that is not negative is no more than the difference.
floor_le : (z R : ℤ) → pos 1 ≤ℤ R → pos 0 ≤ℤ z → floor_div z R ≤ℤ z
floor_le (pos m) (pos k) h le = omega (arith, ints, div-le_self m k)
floor_le (pos m) (negsuc k) h le = absurd (omega (arith, ints))
floor_le (negsuc m) R h le = absurd (omega (arith, ints))

below_when_held : (m a b : ℤ) → b <ℤ m → held m a ≤ℤ b → a ≤ℤ b
below_when_held m a b h le = omega (arith, ints, clamps)

above_when_held : (m a b : ℤ) → neg_ℤ m <ℤ b → b ≤ℤ held m a → b ≤ℤ a
above_when_held m a b h le = omega (arith, ints, clamps)

-- A rule whose flows within m are the floors.
pub record IsWithinPlain (rule : FlowRule) (m : ℕ) : Type 0 where
  pub below : (z r b : ℤ) → b <ℤ pos m → rule z r ≤ℤ b → floor_div z r ≤ℤ b
  pub above : (z r b : ℤ) → neg_ℤ (pos m) <ℤ b → b ≤ℤ rule z r → b ≤ℤ floor_div z r

pub held_within : (m : ℕ) → IsWithinPlain (held_floor (pos m)) m
held_within m = record {
  below = λ z r b h le. below_when_held (pos m) (floor_div z r) b h le;
  above = λ z r b h le. above_when_held (pos m) (floor_div z r) b h le;
}

pub floor_within : (m : ℕ) → IsWithinPlain floor_div m
floor_within m = record { below = λ z r b h le. le; above = λ z r b h le. le }

module _ (rule : FlowRule) (of_rule : IsFlowRule rule) (net : Network) (wf : IsNetwork net) (m : ℕ) (plain : IsWithinPlain rule m) (bottom top : ℤ) (high : ℕ → ℤ) (holds : HighHoldsBy rule net high) (tight : IsTightAbove rule net high) (pads : PadsWithin net bottom top) (reach : flow_reach net < m) (span : (top -ℤ bottom) <ℤ pos m) where
  limited : (v : ℕ) → v < net.nodes → (o : Option ℤ) → pad_at net v ≡ o → top <ℤ high v → outflow rule net.resistors high v ≤ℤ pos (tight_limit net wf v)
  limited v n None e over = omega (arith, ints, tight.sums v n e)
  limited v n (Some u) e over = absurd (omega (arith, ints, tight.pads v u n e, pads.at_most v u n e, over))

  enough : (v : ℕ) → v < net.nodes → (o : Option ℤ) → pad_at net v ≡ o → high v <ℤ bottom → neg_ℤ (pos (load_size net v)) ≤ℤ outflow rule net.resistors high v
  enough v n None e under = omega (arith, ints, holds.sums v n e)
  enough v n (Some u) e under = absurd (omega (arith, ints, holds.pads v u n e, pads.at_least v u n e, under))

  abbrev turned : (i j : ℕ) → AreJoined net i j → AreJoined net j i
  turned i j joined = record { place = joined.place; in_list = joined.in_list; ends = λ d. elim (joined.ends d) [ inl e ↦ inr e | inr e ↦ inl e ] }

  -- The flow down a resistor.
  flow_below : (i j : ℕ) (joined : AreJoined net i j) → high j <ℤ high i → (R : ℤ) → pos 1 ≤ℤ R → R ≡ (get_or net.resistors joined.place no_resistor).ohms → floor_div (high i -ℤ high j) R <ℤ pos m
  flow_below i j joined lt R resists is_R = by_lt_z top (high i)
      (λ over.
      let flow = flow_down rule of_rule net wf high (tight_limit net wf) i j joined lt (λ v n le. limited v n (pad_at net v) refl (omega (arith, ints, over, le))) no_resistor in
      let flow' : rule (high i -ℤ high j) R ≤ℤ pos (over_nodes net.nodes (tight_limit net wf) + length net.resistors) = subst (λ (q : ℤ). rule (high i -ℤ high j) q ≤ℤ pos (over_nodes net.nodes (tight_limit net wf) + length net.resistors)) (sym is_R) flow in
      let room = tight_room net wf in
      let is = plain.below (high i -ℤ high j) R (pos (over_nodes net.nodes (tight_limit net wf) + length net.resistors)) (omega (arith, ints, room, reach)) flow' in
      omega (arith, ints, is, room, reach))
      (λ not_over. by_lt_z (high j) bottom
      (λ under.
      let flow = flow_up rule of_rule net wf high (λ v. load_size net v) j i (turned i j joined) lt (λ v n le. enough v n (pad_at net v) refl (omega (arith, ints, under, le))) no_resistor in
      let flow' : neg_ℤ (pos (total_load net)) ≤ℤ rule (high j -ℤ high i) R = subst (λ (q : ℤ). neg_ℤ (pos (total_load net)) ≤ℤ rule (high j -ℤ high i) q) (sym is_R) flow in
      let is = plain.above (high j -ℤ high i) R (neg_ℤ (pos (total_load net))) (omega (arith, ints, reach)) flow' in
      let same : neg_ℤ (high i -ℤ high j) ≡ high j -ℤ high i = omega (arith, ints) in
      let both = floor_is_rule.ends_at_most (high i -ℤ high j) R resists in
      omega (arith, ints, is, both, ap (λ z. floor_div z R) same, reach))
      (λ not_under. let le = floor_le (high i -ℤ high j) R resists (omega (arith, ints, lt)) in omega (arith, ints, le, span, not_over, not_under)))

  -- Both flows at a resistor whose first end is the higher one are held as they are.
  same_down : (i j : ℕ) (joined : AreJoined net i j) → high j <ℤ high i → (R : ℤ) → pos 1 ≤ℤ R → R ≡ (get_or net.resistors joined.place no_resistor).ohms → (held_floor (pos m) (high i -ℤ high j) R ≡ floor_div (high i -ℤ high j) R) × (held_floor (pos m) (high j -ℤ high i) R ≡ floor_div (high j -ℤ high i) R)
  same_down i j joined lt R resists is_R =
      let below = flow_below i j joined lt R resists is_R in
      let same : neg_ℤ (high i -ℤ high j) ≡ high j -ℤ high i = omega (arith, ints) in
      let again = ap (λ z. floor_div z R) same in
      let none = floor_is_rule.none R resists in
      let up = floor_is_rule.grows (pos 0) (high i -ℤ high j) R resists (omega (arith, ints, lt)) in
      let down = floor_is_rule.grows (high j -ℤ high i) (pos 0) R resists (omega (arith, ints, lt)) in
      let least = floor_is_rule.ends_at_least (high i -ℤ high j) R resists in (
        held_same (pos m) (floor_div (high i -ℤ high j) R) (omega (arith, ints, up, none)) (omega (arith, ints, below)),
        held_same (pos m) (floor_div (high j -ℤ high i) R) (omega (arith, ints, least, again, below)) (omega (arith, ints, down, none)),
      )

  same_level : (a b : ℕ) (R : ℤ) → pos 1 ≤ℤ R → high a ≡ high b → held_floor (pos m) (high a -ℤ high b) R ≡ floor_div (high a -ℤ high b) R
  same_level a b R resists e =
      let z : high a -ℤ high b ≡ pos 0 = omega (arith, ints, e) in
      let none = floor_is_rule.none R resists in
      let f = ap (λ q. floor_div q R) z in
      held_same (pos m) (floor_div (high a -ℤ high b) R) (omega (arith, ints, f, none)) (omega (arith, ints, f, none))

  abbrev IsPlain : Resistor → Type 0
  IsPlain r = (held_floor (pos m) (high r.a -ℤ high r.b) r.ohms ≡ floor_div (high r.a -ℤ high r.b) r.ohms) × (held_floor (pos m) (high r.b -ℤ high r.a) r.ohms ≡ floor_div (high r.b -ℤ high r.a) r.ohms)

  abbrev joined_at : (k : ℕ) → k < length net.resistors → (r : Resistor) → ((d : Resistor) → get_or net.resistors k d ≡ r) → AreJoined net r.a r.b
  joined_at k l r is = record { place = k; in_list = l; ends = λ d. inl (ap (λ (q : Resistor). q.a) (is d), ap (λ (q : Resistor). q.b) (is d)) }

  plain_at : (k : ℕ) → (l : k < length net.resistors) → (r : Resistor) → ((d : Resistor) → get_or net.resistors k d ≡ r) → pos 1 ≤ℤ r.ohms → IsPlain r
  plain_at k l r is resists =
      let joined = joined_at k l r is in
      let R : r.ohms ≡ (get_or net.resistors k no_resistor).ohms = ap (λ (q : Resistor). q.ohms) (sym (is no_resistor)) in
      by_lt_z (high r.b) (high r.a)
      (λ lt. same_down r.a r.b joined lt r.ohms resists R)
      (λ le. by_lt_z (high r.a) (high r.b)
      (λ lt. let s = same_down r.b r.a (turned r.a r.b joined) lt r.ohms resists R in (s.1, s.0))
      (λ ge. let e : high r.a ≡ high r.b = omega (arith, ints, le, ge) in (same_level r.a r.b r.ohms resists e, same_level r.b r.a r.ohms resists (sym e))))

  each_plain : All IsPlain net.resistors
  each_plain k d l =
      let of_r : IsResistorOf net.nodes (get_or net.resistors k d) = wf.each_resistor k d l in
      plain_at k l (get_or net.resistors k d) (λ e. get_or_same net.resistors k e d l) of_r.resists
    where
      get_or_same : (xs : List Resistor) (k : ℕ) (d e : Resistor) → k < length xs → get_or xs k d ≡ get_or xs k e
      get_or_same [] k d e l = absurd (omega arith)
      get_or_same (x ∷ xs) zero d e l = refl
      get_or_same (x ∷ xs) (suc k) d e l = get_or_same xs k d e (omega arith)

  taken_plain : (s t : Bool) (u v u' v' : ℤ) → u ≡ u' → v ≡ v' → cond s u (pos 0) +ℤ cond t v (pos 0) ≡ cond s u' (pos 0) +ℤ cond t v' (pos 0)
  taken_plain s t u v u' v' e f = ap (λ a. cond s a (pos 0) +ℤ cond t v (pos 0)) e ∙ ap (λ a. cond s u' (pos 0) +ℤ cond t a (pos 0)) f

  plain_sum : (i : ℕ) (rs : List Resistor) → All IsPlain rs → outflow (held_floor (pos m)) rs high i ≡ outflow floor_div rs high i
  plain_sum i [] all = refl
  plain_sum i (r ∷ rs) all =
      let here = All-head IsPlain r rs all in
      let rest = plain_sum i rs (All-tail IsPlain r rs all) in
      let e = taken_plain (eqb r.a i) (eqb r.b i) (held_floor (pos m) (high r.a -ℤ high r.b) r.ohms) (held_floor (pos m) (high r.b -ℤ high r.a) r.ohms) (floor_div (high r.a -ℤ high r.b) r.ohms) (floor_div (high r.b -ℤ high r.a) r.ohms) here.0 here.1 in
      omega (arith, ints, e, rest)

  -- Each node's sum of held flows is its sum of floors.
  pub sums_are_plain : (i : ℕ) → outflow (held_floor (pos m)) net.resistors high i ≡ outflow floor_div net.resistors high i
  sums_are_plain i = plain_sum i net.resistors each_plain

  -- And each flow lies within the limit.
  pub flows_within : (k : ℕ) (d : Resistor) → k < length net.resistors → let r = get_or net.resistors k d in (neg_ℤ (pos m) ≤ℤ floor_div (high r.a -ℤ high r.b) r.ohms) × (floor_div (high r.a -ℤ high r.b) r.ohms ≤ℤ pos m)
  flows_within k d l =
      let r = get_or net.resistors k d in
      let e : held (pos m) (floor_div (high r.a -ℤ high r.b) r.ohms) ≡ floor_div (high r.a -ℤ high r.b) r.ohms = (each_plain k d l).0 in
      within_from_held (pos m) (floor_div (high r.a -ℤ high r.b) r.ohms) (omega (arith, ints)) e
    where
      within_from_held : (m a : ℤ) → pos 0 ≤ℤ m → held m a ≡ a → (neg_ℤ m ≤ℤ a) × (a ≤ℤ m)
      within_from_held m a h e = omega (arith, ints, clamps)
