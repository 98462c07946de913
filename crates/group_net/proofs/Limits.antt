-- Where nodes become groups, no limit is newly passed.
use Rattle.std.proofs.Common.{◌≡◌, ℕ, zero, suc, ◌+◌, ◌<◌, pos, ◌≤ℤ◌, arith, refl, sym, ap, subst, ◌∙◌, List, [], ◌∷◌, ◌++◌, length, get_or, map, All, add-one}
use Rattle.std.specs.Prelude.{max, unsigned_abs}
use Rattle.std.specs.List.{range_with_len}
use Rattle.std.proofs.lemmas.List.{length-map, get_or-map}
use Rattle.std.proofs.lemmas.List.FromFn.{map-range_with_len_more, length-map-range_with_len, get_or-map-range_with_len}
use Rattle.std.proofs.lemmas.List.Elements.{All-map}
use Rattle.grid_net.specs.declared.part.Pad.{Pad}
use Rattle.grid_net.specs.declared.part.Load.{Load}
use Rattle.grid_net.specs.Network.{Network, over_nodes, total_load}
use Rattle.grid_net.specs.Adding.{given_load}
use Rattle.grid_net.specs.Building.{KeepsLimits, PadsAgree}
use Rattle.grid_net.specs.Limits.{IsBuilt, IsInLimit, greatest_resistance, greatest_voltage}
use Rattle.grid_net.specs.Laws.Loads.{load_in_order}
use Rattle.node_groups.specs.Groups.{AreGroups}
use Rattle.node_groups.specs.Laws.{groups_at_most, group_of}
use Rattle.group_net.specs.Merging.{grouped_resistor, grouped_pad, grouped_load, grouped_loads, PadsOfGroupsAgree}

-- ---- the loads
given_load-append : (xs ys : List Load) → given_load (xs ++ ys) ≡ given_load xs + given_load ys
given_load-append [] ys = omega arith
given_load-append (l ∷ xs) ys = let e = given_load-append xs ys in omega arith

given_over : (f : ℕ → Load) (n : ℕ)
    → given_load (map f (range_with_len 0 n)) ≡ over_nodes n (λ i. max (unsigned_abs (f i).low) (unsigned_abs (f i).high))
given_over f zero = refl
given_over f (suc n) =
    let rest = given_over f n in
    let next = ap given_load (ap (λ (k : ℕ). map f (range_with_len 0 k)) (sym (add-one n))
    ∙ map-range_with_len_more f 0 n n (omega arith)) in
    let split = given_load-append (map f (range_with_len 0 n)) (f n ∷ []) in
    omega (arith, rest, next, split)

module _ (net : Network) (shorts : List (ℕ × ℕ)) (group firsts : List ℕ) (built : IsBuilt net)
    (h : AreGroups net.nodes shorts group firsts) where
  at : (i : ℕ) → i < net.nodes → get_or group i 0 < length firsts
  at = group_of net.nodes shorts group firsts h

  load_is : (k : ℕ) (d : Load) → k < length (grouped_loads net group)
      → (k < net.nodes) × (get_or (grouped_loads net group) k d ≡ grouped_load net group k)
  load_is k d l =
      let l' : k < net.nodes = omega (arith, l, length-map-range_with_len (grouped_load net group) 0 net.nodes) in
      (l', get_or-map-range_with_len (grouped_load net group) 0 net.nodes k k d l' (omega arith))

  pub ranges_in_order : All (λ l. l.low ≤ℤ l.high) (grouped_loads net group)
  ranges_in_order k d l =
      subst (λ (x : Load). x.low ≤ℤ x.high) (sym (load_is k d l).1) (load_in_order net built.is_network k)

  loads_stay : given_load (grouped_loads net group) ≡ total_load net
  loads_stay = given_over (grouped_load net group) net.nodes

  pub keeps_limits : KeepsLimits (length firsts) (map (grouped_resistor group) net.resistors)
      (map (grouped_pad group) net.pads) (grouped_loads net group)
  keeps_limits = record {
    ends_are_nodes = All-map (λ r. (r.a < length firsts) × (r.b < length firsts)) (grouped_resistor group) net.resistors
        (λ k d l. let r = built.is_network.each_resistor k d l in
        (at (get_or net.resistors k d).a r.a_is_node, at (get_or net.resistors k d).b r.b_is_node));
    pads_are_nodes = All-map (λ p. p.node < length firsts) (grouped_pad group) net.pads
        (λ k d l. at (get_or net.pads k d).node (built.pads_are_nodes k d l));
    loads_are_nodes = λ k d l. subst (λ (x : Load). x.node < length firsts) (sym (load_is k d l).1)
        (at k (load_is k d l).0);
    few_nodes = (let a = groups_at_most net.nodes shorts group firsts h in let b = built.few_nodes in omega arith);
    few_resistors = (let a = length-map net.resistors (grouped_resistor group) in let b = built.few_resistors in omega arith);
    resistances = All-map (λ r. (pos 1 ≤ℤ r.ohms) × (r.ohms ≤ℤ pos greatest_resistance)) (grouped_resistor group)
        net.resistors (λ k d l. ((built.is_network.each_resistor k d l).resists, built.resistances k d l));
    voltages = All-map (λ p. IsInLimit greatest_voltage p.volts) (grouped_pad group) net.pads built.voltages;
    sum_of_loads = (let a = loads_stay in let b = built.loads_in_limit in omega (arith, a, b));
  }

  -- Pads that agree by group agree where their nodes are joined.
  pub agree_by_group : PadsAgree (map (grouped_pad group) net.pads) → PadsOfGroupsAgree net shorts
  agree_by_group agree k d l j e m joined =
      let k' : k < length (map (grouped_pad group) net.pads) = omega (arith, l, length-map net.pads (grouped_pad group)) in
      let j' : j < length (map (grouped_pad group) net.pads) = omega (arith, m, length-map net.pads (grouped_pad group)) in
      let one = get_or-map (grouped_pad group) net.pads k d d l in
      let other = get_or-map (grouped_pad group) net.pads j e e m in
      let same : get_or group (get_or net.pads k d).node 0 ≡ get_or group (get_or net.pads j e).node 0 =
      (h.joined (get_or net.pads k d).node (get_or net.pads j e).node (built.pads_are_nodes k d l)
      (built.pads_are_nodes j e m)).1 joined in
      sym (ap (λ (p : Pad). p.volts) one)
      ∙ agree k d k' j e j' (ap (λ (p : Pad). p.node) one ∙ same ∙ sym (ap (λ (p : Pad). p.node) other))
      ∙ ap (λ (p : Pad). p.volts) other
