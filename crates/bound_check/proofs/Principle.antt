-- The maximum principle: each solution lies between the two lists of a certificate.
use Rattle.std.proofs.Common.{◌≡◌, ap, ℕ, suc, ◌<◌, Bool, true, false, cond, eqb, ℤ, pos, neg_ℤ, ◌+ℤ◌, ◌-ℤ◌, ◌*ℤ◌, ◌≤ℤ◌, arith, refl, sym, subst, List, [], ◌∷◌, All, length, Option, Some, None, suc-le-suc, get_or}
use Rattle.std.proofs.lemmas.Int.{ints}
use Rattle.std.proofs.lemmas.List.Elements.{All-head, All-tail}
use Rattle.grid_net.specs.declared.part.Resistor.{Resistor}
use Rattle.rounding.specs.Rounding.{floor_div, ceil_div}
use Rattle.grid_net.specs.Network.{Network, IsNetwork, IsResistorOf, taken_by, outflow, net_current, low_load, high_load, pad_at, entry_of}
use Rattle.grid_net.specs.Solution.{IsSolution}
use Rattle.grid_net.specs.Certificate.{HighHolds, LowHolds}
use Rattle.grid_net.specs.Mirror.{turned, mirror}
use Rattle.grid_net.specs.Laws.Mirror.{mirror_network, no_pad_out, pad_out, load_in, high_in, outflow_turned}
use Rattle.bound_check.specs.Certified.{least_current, greatest_current}
use Rattle.bound_check.specs.OneSided.{MeetsLaws, PadsAtMost, PadsAtLeast}
use Rattle.rounding.specs.Laws.{times_le, times_le_out, times_swap, times_difference, times_sum, times_neg, floor_is, greatest_of}
use Rattle.grid_net.specs.Laws.Sums.{taken_le, taken_times}

-- The current through a resistance is at least q times the floored flow, if its first end is as far above the bound as any.
current_above : (q : ℕ) (R P P' X X' c : ℤ) → pos 1 ≤ℤ R → P -ℤ P' ≡ R *ℤ c → (P' -ℤ pos q *ℤ X') ≤ℤ (P -ℤ pos q *ℤ X) → (pos q *ℤ floor_div (X -ℤ X') R) ≤ℤ c
current_above q R P P' X X' c pos_R ohm top =
    let f = floor_is (X -ℤ X') R pos_R in
    let a = times_le (pos q) (R *ℤ floor_div (X -ℤ X') R) (X -ℤ X') (omega (arith, ints)) f.reached in
    let s = times_swap R q (floor_div (X -ℤ X') R) pos_R in
    let d = times_difference (pos q) X X' in
    times_le_out R (pos q *ℤ floor_div (X -ℤ X') R) c pos_R (omega (arith, ints, a, s, d, ohm, top))

-- Ohm's law at each of a list of resistors.
Ohm : List Resistor → (ℕ → ℤ) → (ℕ → ℤ) → Type 0
Ohm rs p c = (k : ℕ) (d : Resistor) → k < length rs → p (get_or rs k d).a -ℤ p (get_or rs k d).b ≡ (get_or rs k d).ohms *ℤ c k

module _ (n : ℕ) (q : ℕ) (p x : ℕ → ℤ) (i : ℕ) where
  -- Where p is farthest above q times a list, the currents leave faster than q times its floored flows.
  floors_below : (rs : List Resistor) (c : ℕ → ℤ) → All (IsResistorOf n) rs → Ohm rs p c → ((j : ℕ) → j < n → (p j -ℤ pos q *ℤ x j) ≤ℤ (p i -ℤ pos q *ℤ x i)) → (pos q *ℤ outflow floor_div rs x i) ≤ℤ net_current rs c i
  unfolding Ohm
  floors_below [] c all ohm top = omega (arith, ints)
  floors_below (r ∷ rs) c all ohm top =
      let of_r = All-head (IsResistorOf n) r rs all in
      let e : p r.a -ℤ p r.b ≡ r.ohms *ℤ c 0 = ohm 0 r (omega arith) in
      let e' : p r.b -ℤ p r.a ≡ r.ohms *ℤ neg_ℤ (c 0) = omega (arith, ints, e, times_neg r.ohms (c 0)) in
      let F = floor_div (x r.a -ℤ x r.b) r.ohms in
      let G = floor_div (x r.b -ℤ x r.a) r.ohms in
      let here = taken_le r i (pos q *ℤ F) (pos q *ℤ G) (c 0) (neg_ℤ (c 0))
      (λ at_a. current_above q r.ohms (p r.a) (p r.b) (x r.a) (x r.b) (c 0) of_r.resists e (subst (λ (m : ℕ). (p r.b -ℤ pos q *ℤ x r.b) ≤ℤ (p m -ℤ pos q *ℤ x m)) (sym at_a) (top r.b of_r.b_is_node)))
      (λ at_b. current_above q r.ohms (p r.b) (p r.a) (x r.b) (x r.a) (neg_ℤ (c 0)) of_r.resists e' (subst (λ (m : ℕ). (p r.a -ℤ pos q *ℤ x r.a) ≤ℤ (p m -ℤ pos q *ℤ x m)) (sym at_b) (top r.a of_r.a_is_node))) in
      let rest = floors_below rs (λ k. c (suc k)) (All-tail (IsResistorOf n) r rs all) (λ k d l. ohm (suc k) d (suc-le-suc l)) top in
      let s = times_sum (pos q) (taken_by r i F G) (outflow floor_div rs x i) in
      let t = taken_times r i (pos q) F G in
      omega (arith, ints, here, rest, s, t)

module _ (net : Network) (q : ℕ) (p c drawn x : ℕ → ℤ) (wf : IsNetwork net) (laws : MeetsLaws net q p c drawn) (pads : PadsAtMost net q p) where
  top_is_low : HighHolds net x → (i : ℕ) → i < net.nodes → ((j : ℕ) → j < net.nodes → (p j -ℤ pos q *ℤ x j) ≤ℤ (p i -ℤ pos q *ℤ x i)) → (o : Option ℤ) → pad_at net i ≡ o → p i ≤ℤ (pos q *ℤ x i)
  unfolding Ohm
  top_is_low high i l top None no_pad =
      let S = outflow floor_div net.resistors x i in
      let flows = floors_below net.nodes q p x i net.resistors c wf.each_resistor laws.ohm top in
      let law = laws.kirchhoff i l no_pad in
      let test = times_le (pos q) (pos 1) (S +ℤ low_load net i) (omega (arith, ints)) (high.sums i l no_pad) in
      let split = times_sum (pos q) S (low_load net i) in
      absurd (omega (arith, ints, flows, law, laws.drawn i l, test, split, laws.denominator))
  top_is_low high i l top (Some v) pad =
      let at_pad = pads i v l pad in
      let test = times_le (pos q) v (x i) (omega (arith, ints)) (high.pads i v l pad) in
      omega (arith, ints, at_pad, test)

  -- Where no pad is above its voltage, no node is above the list.
  pub laws_at_most_high : HighHolds net x → (j : ℕ) → j < net.nodes → p j ≤ℤ (pos q *ℤ x j)
  laws_at_most_high high j l =
      let g = greatest_of (λ k. p k -ℤ pos q *ℤ x k) net.nodes (omega arith) in
      let t = top_is_low high g.0 g.1 g.2 (pad_at net g.0) refl in
      omega (arith, ints, t, g.2 j l)

-- A solution meets the laws, and its pads have their voltages.
laws_of_solution : (net : Network) (q : ℕ) (p c drawn : ℕ → ℤ) → IsSolution net q p c drawn → MeetsLaws net q p c drawn
laws_of_solution net q p c drawn sol = record {
  denominator = sol.denominator;
  ohm = sol.ohm;
  drawn = sol.drawn;
  kirchhoff = sol.kirchhoff;
}

module _ (net : Network) (q : ℕ) (p c drawn x : ℕ → ℤ) (wf : IsNetwork net) (sol : IsSolution net q p c drawn) where
  pub solution_at_most_high : HighHolds net x → (j : ℕ) → j < net.nodes → p j ≤ℤ (pos q *ℤ x j)
  solution_at_most_high high j l =
      laws_at_most_high net q p c drawn x wf (laws_of_solution net q p c drawn sol)
      (λ i v l' e. omega (arith, ints, sol.pads i v l' e)) high j l

-- ---- the low side, as the high side of the mirrored network
-- Currents that are turned in sign leave a node as much less as they arrived.
currents_turned : (rs : List Resistor) (c : ℕ → ℤ) (i : ℕ) → net_current rs (turned c) i ≡ neg_ℤ (net_current rs c i)
currents_turned [] c i = refl
currents_turned (r ∷ rs) c i = omega (arith, ints, ends (eqb r.a i) (eqb r.b i) (c 0), currents_turned rs (λ k. c (suc k)) i)
  where
    ends : (s t : Bool) (u : ℤ) → cond s (neg_ℤ u) (pos 0) +ℤ cond t (neg_ℤ (neg_ℤ u)) (pos 0) ≡ neg_ℤ (cond s u (pos 0) +ℤ cond t (neg_ℤ u) (pos 0))
    ends true true u = omega (arith, ints)
    ends true false u = omega (arith, ints)
    ends false true u = omega (arith, ints)
    ends false false u = omega (arith, ints)

-- Laws that are met with each number turned in sign are met in the mirrored network.
laws_turned : (net : Network) (q : ℕ) (p c drawn : ℕ → ℤ) → MeetsLaws net q p c drawn → MeetsLaws (mirror net) q (turned p) (turned c) (turned drawn)
laws_turned net q p c drawn laws = record {
  denominator = laws.denominator;
  ohm = λ k d l. (let r = get_or net.resistors k d in omega (arith, ints, laws.ohm k d l, times_neg r.ohms (c k)));
  drawn = λ i l.
      (let e = times_neg (pos q) (low_load net i) in
      let f = times_neg (pos q) (high_load net i) in
      let a = ap (λ z. pos q *ℤ z) (load_in net i) in
      let b = ap (λ z. pos q *ℤ z) (high_in net i) in
      (omega (arith, ints, laws.drawn i l, a, f), omega (arith, ints, laws.drawn i l, b, e)));
  kirchhoff = λ i l e. (let k = laws.kirchhoff i l (no_pad_out net i e) in omega (arith, ints, k, currents_turned net.resistors c i));
}

pads_turned : (net : Network) (q : ℕ) (p : ℕ → ℤ) → PadsAtLeast net q p → PadsAtMost (mirror net) q (turned p)
pads_turned net q p pads i v l e =
    let k = pads i (neg_ℤ v) l (pad_out net i v e) in omega (arith, ints, k, times_neg (pos q) v)

-- The low half of the sums is the high half of the mirrored network.
high_of_low : (net : Network) (low : ℕ → ℤ) → LowHolds net low → HighHolds (mirror net) (turned low)
high_of_low net low holds = record {
  pads = λ i v l e. (let k = holds.pads i (neg_ℤ v) l (pad_out net i v e) in omega (arith, ints, k));
  sums = λ i l e.
      (let k = holds.sums i l (no_pad_out net i e) in
      let t = outflow_turned floor_div net.resistors low (turned low) i (λ j. omega (arith, ints)) in
      omega (arith, ints, k, t, load_in net i));
}

-- Where no pad is below its voltage, no node is below the list.
pub laws_at_least_low : (net : Network) (q : ℕ) (p c drawn x : ℕ → ℤ) → IsNetwork net → MeetsLaws net q p c drawn → PadsAtLeast net q p → LowHolds net x → (j : ℕ) → j < net.nodes → (pos q *ℤ x j) ≤ℤ p j
laws_at_least_low net q p c drawn x wf laws pads low j l =
    let t = laws_at_most_high (mirror net) q (turned p) (turned c) (turned drawn) (turned x) (mirror_network net wf) (laws_turned net q p c drawn laws) (pads_turned net q p pads) (high_of_low net x low) j l in
    omega (arith, ints, t, times_neg (pos q) (x j))

pub solution_at_least_low : (net : Network) (q : ℕ) (p c drawn x : ℕ → ℤ) → IsNetwork net → IsSolution net q p c drawn → LowHolds net x → (j : ℕ) → j < net.nodes → (pos q *ℤ x j) ≤ℤ p j
solution_at_least_low net q p c drawn x wf sol low j l =
    laws_at_least_low net q p c drawn x wf (laws_of_solution net q p c drawn sol)
    (λ i v l' e. omega (arith, ints, sol.pads i v l' e)) low j l

-- ---- currents
-- The current through a resistor lies between the bounds that the lists give at its ends.
current_between : (q : ℕ) (R P P' low high low' high' c : ℤ) → pos 1 ≤ℤ R → P -ℤ P' ≡ R *ℤ c
    → (pos q *ℤ low) ≤ℤ P → P ≤ℤ (pos q *ℤ high) → (pos q *ℤ low') ≤ℤ P' → P' ≤ℤ (pos q *ℤ high')
    → ((pos q *ℤ floor_div (low -ℤ high') R) ≤ℤ c) × (c ≤ℤ (pos q *ℤ ceil_div (high -ℤ low') R))
current_between q R P P' low high low' high' c pos_R ohm a b a' b' =
    let back : P' -ℤ P ≡ R *ℤ neg_ℤ c = omega (arith, ints, ohm, times_neg R c) in
    let turn : neg_ℤ (high -ℤ low') ≡ low' -ℤ high = omega (arith, ints) in
    let least = current_above q R P' P low' high (neg_ℤ c) pos_R back (omega (arith, ints)) in
    let e = times_neg (pos q) (floor_div (neg_ℤ (high -ℤ low')) R) in
    let f = ap (λ z. pos q *ℤ floor_div z R) turn in
    (current_above q R P P' low high' c pos_R ohm (omega (arith, ints)), omega (arith, ints, least, e, f))

module _ (net : Network) (high low : List ℤ) (q : ℕ) (p c drawn : ℕ → ℤ) (wf : IsNetwork net) (highs : HighHolds net (entry_of high)) (lows : LowHolds net (entry_of low)) (sol : IsSolution net q p c drawn) where
  -- The current through each resistor lies within what the lists say of it.
  pub currents_between : (k : ℕ) (d : Resistor) → k < length net.resistors → let r = get_or net.resistors k d in ((pos q *ℤ least_current high low r) ≤ℤ c k) × (c k ≤ℤ (pos q *ℤ greatest_current high low r))
  currents_between k d l =
      let r = get_or net.resistors k d in
      let of_r : IsResistorOf net.nodes r = wf.each_resistor k d l in
      let to : (j : ℕ) → j < net.nodes → p j ≤ℤ (pos q *ℤ entry_of high j) = solution_at_most_high net q p c drawn (entry_of high) wf sol highs in
      let from : (j : ℕ) → j < net.nodes → (pos q *ℤ entry_of low j) ≤ℤ p j = solution_at_least_low net q p c drawn (entry_of low) wf sol lows in
      current_between q r.ohms (p r.a) (p r.b) (entry_of low r.a) (entry_of high r.a) (entry_of low r.b) (entry_of high r.b) (c k) of_r.resists (sol.ohm k d l)
      (from r.a of_r.a_is_node) (to r.a of_r.a_is_node) (from r.b of_r.b_is_node) (to r.b of_r.b_is_node)
