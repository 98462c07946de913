-- Two solutions of a network with shorts are the same but for the currents of the shorts.
use Rattle.std.proofs.Common.{◌≡◌, ℕ, ◌<◌, ℤ, pos, neg_ℤ, ◌+ℤ◌, ◌-ℤ◌, ◌*ℤ◌, arith, sym, ap, ◌∙◌, List, length, map, get_or, Bool, true, false, cond, eqb}
use Rattle.std.proofs.lemmas.Int.{ints}
use Rattle.std.proofs.lemmas.List.{length-map}
use Rattle.grid_net.specs.Network.{Network, IsNetwork}
use Rattle.grid_net.specs.Limits.{IsBuilt}
use Rattle.grid_net.specs.Solution.{IsSolution}
use Rattle.grid_net.specs.Shorted.{IsShortedSolution, short_current}
use Rattle.node_groups.specs.Groups.{AreGroups}
use Rattle.node_groups.specs.Laws.{group_of}
use Rattle.group_net.specs.Merging.{AreNodes, grouped_resistor, grouped_pad, grouped_loads, merged_network, group_potential, group_drawn}
use Rattle.group_net.proofs.Sums.{group-same}
use Rattle.group_net.proofs.Solutions.{no_pad_in}
use Rattle.solution_exists.specs.Existence.{EachIsSupplied, AreSame, DrawAlike}
use Rattle.solution_exists.specs.Shorted.{with_loop}
use Rattle.solution_exists.specs.Laws.{neg_times}
use Rattle.solution_exists.proofs.Linear.{unit}
use Rattle.solution_exists.proofs.Plain.{plain_voltages, plain_currents}
use Rattle.solution_exists.proofs.Routes.{mark, one_short, shorts_combined, shorts_same}
use Rattle.solution_exists.proofs.Carried.{KeepsPads, group_times, merged_is_network}

module _ (net : Network) (shorts : List (ℕ × ℕ)) (group firsts : List ℕ) (q r : ℕ) (p c l p' c' l' : ℕ → ℤ)
    (built : IsBuilt net) (nodes : AreNodes net.nodes shorts) (h : AreGroups net.nodes shorts group firsts)
    (kept : KeepsPads) (supplied : EachIsSupplied (merged_network net group (length firsts)))
    (one : IsSolution (merged_network net group (length firsts)) q (group_potential firsts p) c (group_drawn net.nodes group l))
    (other : IsSolution (merged_network net group (length firsts)) r (group_potential firsts p') c' (group_drawn net.nodes group l'))
    (drawn : DrawAlike net q l r l') where
  abbrev merged : Network
  merged = merged_network net group (length firsts)

  wf : IsNetwork merged
  wf = merged_is_network net shorts group firsts built.is_network built.pads_are_nodes nodes h

  alike : DrawAlike merged q (group_drawn net.nodes group l) r (group_drawn net.nodes group l')
  alike g m free =
      let none = sym (kept (length firsts) (map (grouped_resistor group) net.resistors) (map (grouped_pad group) net.pads)
      (grouped_loads net group) g m) ∙ free in
      group_times group g net.nodes (pos r) l
      ∙ group-same group g net.nodes (λ i. pos r *ℤ l i) (λ i. pos q *ℤ l' i)
      (λ i b same. drawn i b (no_pad_in group g net.pads i same none))
      ∙ sym (group_times group g net.nodes (pos q) l')

  pub shorted_voltages : ((i : ℕ) → i < net.nodes → p i ≡ group_potential firsts p (get_or group i 0))
      → ((i : ℕ) → i < net.nodes → p' i ≡ group_potential firsts p' (get_or group i 0)) → AreSame net.nodes q p r p'
  shorted_voltages at at' i m =
      let same = plain_voltages merged q r (group_potential firsts p) c (group_drawn net.nodes group l)
      (group_potential firsts p') c' (group_drawn net.nodes group l') wf supplied one other alike (get_or group i 0)
      (group_of net.nodes shorts group firsts h i m) in
      ap (λ z. pos r *ℤ z) (at i m) ∙ same ∙ ap (λ z. pos q *ℤ z) (sym (at' i m))

  pub shorted_currents : AreSame (length net.resistors) q c r c'
  shorted_currents j m =
      plain_currents merged q r (group_potential firsts p) c (group_drawn net.nodes group l) (group_potential firsts p') c'
      (group_drawn net.nodes group l') wf supplied one other alike j
      (omega (arith, m, length-map net.resistors (grouped_resistor group)))

-- ---- a current that goes round
module _ (net : Network) (shorts : List (ℕ × ℕ)) (q : ℕ) (p c l s : ℕ → ℤ) (there back : ℕ) (x : ℤ) (d : ℕ × ℕ)
    (first : there < length shorts) (second : back < length shorts) (ends : get_or shorts there d ≡ get_or shorts back d) where
  one_loop : (k : ℕ) → with_loop there back x s k ≡ pos 1 *ℤ (pos 1 *ℤ s k +ℤ x *ℤ unit there k) +ℤ neg_ℤ x *ℤ unit back k
  one_loop k = by_tests (eqb k there) (eqb k back)
    where
      by_tests : (t u : Bool) → (s k +ℤ cond t x (pos 0)) -ℤ cond u x (pos 0)
          ≡ pos 1 *ℤ (pos 1 *ℤ s k +ℤ x *ℤ cond t (pos 1) (pos 0)) +ℤ neg_ℤ x *ℤ cond u (pos 1) (pos 0)
      by_tests true true = omega (arith, ints)
      by_tests true false = omega (arith, ints)
      by_tests false true = omega (arith, ints)
      by_tests false false = omega (arith, ints)

  loop_leaves : (node : ℕ) → short_current shorts (with_loop there back x s) node ≡ short_current shorts s node
  loop_leaves node =
      let a = shorts_same shorts node (with_loop there back x s)
      (λ k. pos 1 *ℤ (pos 1 *ℤ s k +ℤ x *ℤ unit there k) +ℤ neg_ℤ x *ℤ unit back k) (λ k m. one_loop k) in
      let b = shorts_combined shorts node (pos 1) (neg_ℤ x) (λ k. pos 1 *ℤ s k +ℤ x *ℤ unit there k) (unit back) in
      let e = shorts_combined shorts node (pos 1) x s (unit there) in
      let f = one_short shorts there d first node in
      let g = one_short shorts back d second node in
      let same : short_current shorts (unit there) node ≡ short_current shorts (unit back) node =
      f ∙ ap (λ (e : ℕ × ℕ). mark e.0 node -ℤ mark e.1 node) ends ∙ sym g in
      let u = ap (λ z. x *ℤ z) same in
      let w = neg_times x (short_current shorts (unit back) node) in
      omega (arith, ints, a, b, e, u, w)

  pub round : IsShortedSolution net shorts q p c l s → IsShortedSolution net shorts q p c l (with_loop there back x s)
  round sol = record {
    denominator = sol.denominator;
    ohm = sol.ohm;
    drawn = sol.drawn;
    kirchhoff = λ i m free. (let e = sol.kirchhoff i m free in omega (arith, ints, e, loop_leaves i));
    pads = sol.pads;
    joined = sol.joined;
  }
