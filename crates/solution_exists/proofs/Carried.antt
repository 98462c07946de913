-- A network with shorts: the solution of the network of the groups gives the voltages and the currents through resistors, and the
-- shorts of each group carry what is over at each of its nodes to one of them: to a pad where the group has one.
use Rattle.std.proofs.Common.{◌≡◌, ℕ, zero, suc, ◌<◌, ◌≤◌, inl, inr, ℤ, pos, neg_ℤ, ◌+ℤ◌, ◌-ℤ◌, ◌*ℤ◌, ◌≤ℤ◌, arith, refl, sym, ap, ◌∙◌, subst, List, [], length, map, get_or, All, Option, Some, None, Bool, true, false, cond, eqb, eq-eqb}
use Rattle.std.specs.List.{range_with_len}
use Rattle.std.proofs.lemmas.Int.{ints}
use Rattle.std.proofs.lemmas.Bool.{cases_eq, ne_eqb}
use Rattle.std.proofs.lemmas.Option.{none-some}
use Rattle.std.proofs.lemmas.List.{get_or-map, length-map}
use Rattle.std.proofs.lemmas.List.Elements.{All-nil, All-map, Contains-get_or}
use Rattle.rounding.specs.Laws.{times_difference}
use Rattle.grid_net.specs.declared.part.Resistor.{Resistor}
use Rattle.grid_net.specs.declared.part.Pad.{Pad}
use Rattle.grid_net.specs.declared.part.Load.{Load}
use Rattle.grid_net.specs.declared.part.LoadRange.{LoadRange}
use Rattle.grid_net.specs.Network.{Network, IsNetwork, IsResistorOf, first_pad, pad_at, low_load, high_load, net_current}
use Rattle.grid_net.specs.Building.{network_of, load_of}
use Rattle.grid_net.specs.Shorted.{short_current}
use Rattle.grid_net.specs.Laws.Loads.{load_in_order}
use Rattle.grid_net.specs.Laws.Pads.{first_is_of_list}
use Rattle.grid_net.specs.Laws.Sums.{total_le}
use Rattle.node_groups.specs.Joined.{AreJoined}
use Rattle.node_groups.specs.Groups.{AreGroups}
use Rattle.node_groups.specs.Laws.{group_of}
use Rattle.group_net.specs.Merging.{AreNodes, PadsOfGroupsAgree, grouped_resistor, grouped_pad, grouped_load, grouped_loads, merged_network, group_drawn}
use Rattle.group_net.proofs.Sums.{total-times, over, over_next, over_same, pick, of_group, group-sum, group-neg, group-nothing, group-currents}
use Rattle.group_net.proofs.Solutions.{no_pad_in, pad_of_node}
use Rattle.solution_exists.specs.Existence.{EachIsSupplied, AreDrawn}
use Rattle.solution_exists.specs.Branches.{Branch, AreBranches}
use Rattle.solution_exists.specs.Shorted.{HasShortedSolution}
use Rattle.solution_exists.specs.Laws.{at_least, scaled_range}
use Rattle.solution_exists.proofs.Routes.{mark, Flow, flow_along, shorts_combined, shorts_nothing}
use Rattle.solution_exists.proofs.System.{Met, met}
use Rattle.solution_exists.proofs.Plain.{nothing}

-- What the laws of a built network say of its pads.
abbrev pub KeepsPads : Type 0
KeepsPads = (n : ℕ) (rs : List Resistor) (ps : List Pad) (ls : List Load) (i : ℕ) → i < n
    → pad_at (network_of n rs ps ls) i ≡ first_pad ps i

eqb_turned : (a b : ℕ) → eqb a b ≡ eqb b a
eqb_turned a b = elim (cases_eq a b) [
  | inl e ↦ eq-eqb a b e ∙ sym (eq-eqb b a (sym e))
  | inr ne ↦ ne_eqb a b ne ∙ sym (ne_eqb b a (λ e. ne (sym e)))
]

-- A factor goes into a sum over the nodes of a group.
pub group_times : (group : List ℕ) (g n : ℕ) (k : ℤ) (f : ℕ → ℤ)
    → k *ℤ over n (of_group group g f) ≡ over n (of_group group g (λ i. k *ℤ f i))
group_times group g n k f =
    sym (total-times k (of_group group g f) (range_with_len 0 n))
    ∙ over_same n (λ i. k *ℤ of_group group g f i) (of_group group g (λ i. k *ℤ f i))
    (λ i m. inside (eqb (get_or group i 0) g) (f i))
  where
    inside : (b : Bool) (x : ℤ) → k *ℤ cond b x (pos 0) ≡ cond b (k *ℤ x) (pos 0)
    inside true x = refl
    inside false x = omega (arith, ints)

module _ (net : Network) (shorts : List (ℕ × ℕ)) (group firsts : List ℕ) (wf : IsNetwork net)
    (on_nodes : All (λ p. p.node < net.nodes) net.pads) (nodes : AreNodes net.nodes shorts)
    (h : AreGroups net.nodes shorts group firsts) where
  abbrev group_at : ℕ → ℕ
  group_at i = get_or group i 0

  abbrev groups : ℕ
  groups = length firsts

  abbrev merged : Network
  merged = merged_network net group groups

  abbrev pads : List Pad
  pads = map (grouped_pad group) net.pads

  -- ---- the network of the groups is a network
  merged_resistors : All (IsResistorOf groups) (map (grouped_resistor group) net.resistors)
  merged_resistors =
      All-map (IsResistorOf groups) (grouped_resistor group) net.resistors
      (λ k d l. (let r = wf.each_resistor k d l in
      record {
        a_is_node = group_of net.nodes shorts group firsts h (get_or net.resistors k d).a r.a_is_node;
        b_is_node = group_of net.nodes shorts group firsts h (get_or net.resistors k d).b r.b_is_node;
        resists = r.resists;
      }))

  end_of : (b : Bool) (x y : ℤ) → x ≤ℤ y → cond b x (pos 0) ≤ℤ cond b y (pos 0)
  end_of true x y le = le
  end_of false x y le = omega (arith, ints)

  load_ordered : (g : ℕ) → (load_of (grouped_loads net group) g).low ≤ℤ (load_of (grouped_loads net group) g).high
  load_ordered g =
      total_le (λ (l : Load). l.low ≤ℤ l.high) (λ (l : Load). cond (eqb l.node g) l.low (pos 0))
      (λ (l : Load). cond (eqb l.node g) l.high (pos 0)) (λ l le. end_of (eqb l.node g) l.low l.high le) (grouped_loads net group)
      (All-map (λ (l : Load). l.low ≤ℤ l.high) (grouped_load net group) (range_with_len 0 net.nodes)
      (λ k d l. load_in_order net wf (get_or (range_with_len 0 net.nodes) k d)))

  pub merged_is_network : IsNetwork merged
  merged_is_network = record {
    each_resistor = merged_resistors;
    each_load = All-map (λ (l : LoadRange). l.low ≤ℤ l.high) (load_of (grouped_loads net group)) (range_with_len 0 groups)
        (λ k d l. load_ordered (get_or (range_with_len 0 groups) k d));
  }

  -- ---- the node to which a group's shorts carry what is over
  root_by : (g : ℕ) (o : Option ℤ) → first_pad pads g ≡ o → ℕ
  root_by g (Some v) e = (pad_of_node group g net.nodes net.pads v on_nodes e).0
  root_by g None e = get_or firsts g 0

  root : ℕ → ℕ
  root g = root_by g (first_pad pads g) refl

  root_by_node : (g : ℕ) (o : Option ℤ) (e : first_pad pads g ≡ o) → g < groups → root_by g o e < net.nodes
  unfolding root_by
  root_by_node g (Some v) e l = (pad_of_node group g net.nodes net.pads v on_nodes e).1
  root_by_node g None e l = h.each_first g 0 l

  root_by_group : (g : ℕ) (o : Option ℤ) (e : first_pad pads g ≡ o) → g < groups → group_at (root_by g o e) ≡ g
  unfolding root_by
  root_by_group g (Some v) e l = (pad_of_node group g net.nodes net.pads v on_nodes e).2
  root_by_group g None e l = h.of_its_group g l

  root_by_free : (g : ℕ) (o : Option ℤ) (e : first_pad pads g ≡ o) → pad_at net (root_by g o e) ≡ None → o ≡ None
  unfolding root_by
  root_by_free g (Some v) e free =
      absurd (none-some v (sym free ∙ (pad_of_node group g net.nodes net.pads v on_nodes e).3))
  root_by_free g None e free = refl

  root_is_node : (g : ℕ) → g < groups → root g < net.nodes
  unfolding root
  root_is_node g l = root_by_node g (first_pad pads g) refl l

  root_of_group : (g : ℕ) → g < groups → group_at (root g) ≡ g
  unfolding root
  root_of_group g l = root_by_group g (first_pad pads g) refl l

  root_free : (g : ℕ) → pad_at net (root g) ≡ None → first_pad pads g ≡ None
  unfolding root
  root_free g free = root_by_free g (first_pad pads g) refl free

  root_at : ℕ → ℕ
  root_at i = root (group_at i)

  flow_to_root : (i : ℕ) → i < net.nodes → Flow shorts i (root_at i)
  unfolding root_at
  flow_to_root i l =
      let g = group_of net.nodes shorts group firsts h i l in
      let chain = (h.joined i (root (group_at i)) l (root_is_node (group_at i) g)).0 (sym (root_of_group (group_at i) g)) in
      flow_along shorts chain.0 i (root (group_at i)) chain.1

  -- ---- what is over at each node, carried there
  record Routed (m : ℕ) (b : ℕ → ℤ) : Type 0 where
    s : ℕ → ℤ
    leaves : (node : ℕ) → short_current shorts s node ≡ over m (λ i. b i *ℤ (mark i node -ℤ mark (root_at i) node))

  routed : (m : ℕ) (b : ℕ → ℤ) → m ≤ net.nodes → Routed m b
  routed zero b l = record { s = λ k. pos 0; leaves = λ node. shorts_nothing shorts node (λ k. pos 0) (λ k l. refl) }
  routed (suc m) b l =
      let before = routed m b (omega arith) in
      let one = flow_to_root m (omega arith) in
      record {
        s = λ k. pos 1 *ℤ before.s k +ℤ b m *ℤ one.s k;
        leaves = λ node.
            (let t = shorts_combined shorts node (pos 1) (b m) before.s one.s in
            let e = ap (λ z. b m *ℤ z) (one.leaves node) in
            let next = over_next m (λ i. b i *ℤ (mark i node -ℤ mark (root_at i) node)) in
            omega (arith, ints, t, e, next, before.leaves node));
      }

  module _ (b : ℕ → ℤ) (node : ℕ) where
    mark_times : (t : Bool) (x : ℤ) → x *ℤ cond t (pos 1) (pos 0) ≡ cond t x (pos 0)
    mark_times true x = omega (arith, ints)
    mark_times false x = omega (arith, ints)

    over_difference : (m : ℕ) (f g : ℕ → ℤ) → over m (λ i. f i -ℤ g i) ≡ over m f -ℤ over m g
    over_difference zero f g = omega (arith, ints)
    over_difference (suc m) f g =
        let e = over_difference m f g in
        omega (arith, ints, e, over_next m (λ i. f i -ℤ g i), over_next m f, over_next m g)

    leaves_split : (m : ℕ) → over m (λ i. b i *ℤ (mark i node -ℤ mark (root_at i) node))
        ≡ over m (λ i. cond (eqb node i) (b i) (pos 0)) -ℤ over m (λ i. cond (eqb (root_at i) node) (b i) (pos 0))
    leaves_split m =
        over_same m (λ i. b i *ℤ (mark i node -ℤ mark (root_at i) node))
        (λ i. cond (eqb node i) (b i) (pos 0) -ℤ cond (eqb (root_at i) node) (b i) (pos 0))
        (λ i l. (let d = times_difference (b i) (mark i node) (mark (root_at i) node) in
        let one = mark_times (eqb i node) (b i) in
        let other = mark_times (eqb (root_at i) node) (b i) in
        let turned = ap (λ (t : Bool). cond t (b i) (pos 0)) (eqb_turned i node) in
        omega (arith, ints, d, one, other, turned)))
        ∙ over_difference m (λ i. cond (eqb node i) (b i) (pos 0)) (λ i. cond (eqb (root_at i) node) (b i) (pos 0))

    -- At a node without a pad nothing of the others' arrives: it is no group's root, or what is over in its group is 0 in all.
    arrives : node < net.nodes → (first_pad pads (group_at node) ≡ None → over net.nodes (of_group group (group_at node) b) ≡ pos 0)
        → pad_at net node ≡ None → over net.nodes (λ i. cond (eqb (root_at i) node) (b i) (pos 0)) ≡ pos 0
    unfolding root_at
    arrives l balanced free =
        elim (cases_eq (root (group_at node)) node) [
          | inl e ↦ over_same net.nodes (λ i. cond (eqb (root (group_at i)) node) (b i) (pos 0)) (of_group group (group_at node) b)
              (λ i m. ap (λ (t : Bool). cond t (b i) (pos 0)) (of_root e i m))
              ∙ balanced (root_free (group_at node) (ap (pad_at net) e ∙ free))
          | inr ne ↦ over_same net.nodes (λ i. cond (eqb (root (group_at i)) node) (b i) (pos 0)) (of_group group (group_at node) (λ i. pos 0))
              (λ i m. none_of ne i m)
              ∙ group-nothing group (group_at node) net.nodes
        ]
      where
        in_group : (i : ℕ) → i < net.nodes → root (group_at i) ≡ node → group_at i ≡ group_at node
        in_group i m e =
            sym (root_of_group (group_at i) (group_of net.nodes shorts group firsts h i m)) ∙ ap group_at e

        of_root : root (group_at node) ≡ node → (i : ℕ) → i < net.nodes → eqb (root (group_at i)) node ≡ eqb (group_at i) (group_at node)
        of_root e i m = elim (cases_eq (group_at i) (group_at node)) [
          | inl same ↦ eq-eqb (root (group_at i)) node (ap root same ∙ e) ∙ sym (eq-eqb (group_at i) (group_at node) same)
          | inr other ↦ ne_eqb (root (group_at i)) node (λ r. other (in_group i m r))
              ∙ sym (ne_eqb (group_at i) (group_at node) other)
        ]

        both_none : (t : Bool) → cond t (pos 0) (pos 0) ≡ pos 0
        both_none true = refl
        both_none false = refl

        none_of : (root (group_at node) ≡ node → ⊥) → (i : ℕ) → i < net.nodes
            → cond (eqb (root (group_at i)) node) (b i) (pos 0) ≡ of_group group (group_at node) (λ i. pos 0) i
        none_of ne i m =
            ap (λ (t : Bool). cond t (b i) (pos 0))
            (ne_eqb (root (group_at i)) node (λ r. ne (ap root (sym (in_group i m r)) ∙ r)))
            ∙ sym (both_none (eqb (group_at i) (group_at node)))

  -- Currents through the shorts after which this leaves each node without a pad.
  carried : (b : ℕ → ℤ) → ((g : ℕ) → g < groups → first_pad pads g ≡ None → over net.nodes (of_group group g b) ≡ pos 0)
      → (s : ℕ → ℤ) × ((i : ℕ) → i < net.nodes → pad_at net i ≡ None → short_current shorts s i ≡ b i)
  carried b balanced =
      let all = routed net.nodes b (omega arith) in (
        all.s,
        λ i l free.
            (let e = all.leaves i in
            let d = leaves_split b i net.nodes in
            let one = pick net.nodes i b l in
            let none = arrives b i l (balanced (group_at i) (group_of net.nodes shorts group firsts h i l)) free in
            omega (arith, ints, e, d, one, none)),
      )

  -- ---- pads
  pad_seen : (i : ℕ) (v : ℤ) → PadsOfGroupsAgree net shorts → i < net.nodes → pad_at net i ≡ Some v → first_pad pads (group_at i) ≡ Some v
  pad_seen i v agree l pad = by_first (first_pad pads (group_at i)) refl
    where
      Agrees : Pad → Type 0
      Agrees p = All (λ (q : Pad). AreJoined shorts p.node q.node → p.volts ≡ q.volts) net.pads

      by_first : (o : Option ℤ) → first_pad pads (group_at i) ≡ o → o ≡ Some v
      by_first None e = absurd (none-some v (sym (no_pad_in group (group_at i) net.pads i refl e) ∙ pad))
      by_first (Some w) e =
          let node = pad_of_node group (group_at i) net.nodes net.pads w on_nodes e in
          let one = first_is_of_list (λ (p : Pad). All (λ (q : Pad). AreJoined shorts p.node q.node → p.volts ≡ q.volts) net.pads)
          net.pads i v agree pad in
          let other = first_is_of_list (λ (q : Pad). AreJoined shorts one.0.node q.node → one.0.volts ≡ q.volts) net.pads node.0 w
          one.3 node.3 in
          let joined = (h.joined i node.0 l node.1).0 (sym node.2) in
          let together : AreJoined shorts one.0.node other.0.node = subst (λ (x : ℕ). AreJoined shorts x other.0.node) (sym one.1)
          (subst (λ (y : ℕ). AreJoined shorts i y) (sym other.1) joined) in
          ap Some (sym other.2 ∙ sym (other.3 together) ∙ one.2)

  one_group : All (λ (e : ℕ × ℕ). group_at e.0 ≡ group_at e.1) shorts
  one_group k d m =
      let both = nodes k d m in
      (h.joined (get_or shorts k d).0 (get_or shorts k d).1 both.0 both.1).1
      (1, ((get_or shorts k d).1, inl (Contains-get_or shorts k d m), refl))

  -- ---- the whole
  module _ (kept : KeepsPads) (agree : PadsOfGroupsAgree net shorts) (supplied : EachIsSupplied merged) (d : ℕ) (drawn : ℕ → ℤ)
      (given : AreDrawn net d drawn) where
    no_branches : AreBranches groups []
    no_branches = All-nil (λ (x : Branch). (x.node < groups) × (pos 1 ≤ℤ x.ohms))

    abbrev by_groups : ℕ → ℤ
    by_groups = group_drawn net.nodes group drawn

    found : Met merged [] (pos d) nothing by_groups
    found = met merged [] (pos d) nothing by_groups merged_is_network no_branches supplied

    abbrev n : ℕ
    n = found.n

    abbrev potential : ℕ → ℤ
    potential i = found.p (group_at i)

    abbrev over_at : ℕ → ℤ
    over_at i = neg_ℤ (pos n *ℤ drawn i) +ℤ neg_ℤ (net_current net.resistors found.c i)

    kept_here : (g : ℕ) → g < groups → pad_at merged g ≡ first_pad pads g
    kept_here g m = kept groups (map (grouped_resistor group) net.resistors) pads (grouped_loads net group) g m

    ends : All (λ r. (r.a < net.nodes) × (r.b < net.nodes)) net.resistors
    ends k d m = let r = wf.each_resistor k d m in (r.a_is_node, r.b_is_node)

    balanced : (g : ℕ) → g < groups → first_pad pads g ≡ None → over net.nodes (of_group group g over_at) ≡ pos 0
    balanced g m none =
        let law = found.balances.kirchhoff g m (kept_here g m ∙ none) in
        let split = group-sum group g net.nodes (λ i. neg_ℤ (pos n *ℤ drawn i)) (λ i. neg_ℤ (net_current net.resistors found.c i)) in
        let turned = group-neg group g net.nodes (λ i. pos n *ℤ drawn i) in
        let back = group-neg group g net.nodes (net_current net.resistors found.c) in
        let currents = group-currents group g net.nodes net.resistors found.c ends in
        let times = group_times group g net.nodes (pos n) drawn in
        omega (arith, ints, law, split, turned, back, currents, times)

    shorts_carry : (s : ℕ → ℤ) × ((i : ℕ) → i < net.nodes → pad_at net i ≡ None → short_current shorts s i ≡ over_at i)
    shorts_carry = carried over_at balanced

    ohm : (k : ℕ) (d : Resistor) → k < length net.resistors
        → potential (get_or net.resistors k d).a -ℤ potential (get_or net.resistors k d).b ≡ (get_or net.resistors k d).ohms *ℤ found.c k
    ohm k d m =
        let law = found.balances.ohm k (grouped_resistor group d) (omega (arith, m, length-map net.resistors (grouped_resistor group))) in
        subst (λ (r : Resistor). found.p r.a -ℤ found.p r.b ≡ r.ohms *ℤ found.c k)
        (get_or-map (grouped_resistor group) net.resistors k d (grouped_resistor group d) m) law

    pub shorted : HasShortedSolution net shorts d drawn
    shorted = record {
      factor = n;
      potential = potential;
      current = found.c;
      through_short = shorts_carry.0;
      is_solution = record {
        denominator = at_least n d found.positive given.denominator;
        ohm = ohm;
        drawn = λ i m. scaled_range n d (low_load net i) (high_load net i) (drawn i) (given.within i m);
        kirchhoff = λ i m free. (let e = shorts_carry.1 i m free in omega (arith, ints, e));
        pads = λ i v m pad.
            (let g = group_of net.nodes shorts group firsts h i m in
            found.balances.pads (group_at i) v g (kept_here (group_at i) g ∙ pad_seen i v agree m pad));
        joined = λ k d m. ap found.p (one_group k d m);
      };
    }
