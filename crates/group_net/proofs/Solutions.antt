-- A solution of a network with shorts, group by group.
use Rattle.std.proofs.Common.{◌≡◌, ℕ, suc, ◌<◌, inl, ℤ, pos, neg_ℤ, ◌+ℤ◌, ◌-ℤ◌, ◌*ℤ◌, ◌≤ℤ◌, arith, refl, sym, ap, subst, ◌∙◌, List, [], ◌∷◌, length, get_or, map, All, Option, Some, None, Bool, true, false, cond, eqb, eqb-true, eq-eqb}
use Rattle.std.specs.List.{range_with_len}
use Rattle.std.proofs.lemmas.Int.{ints}
use Rattle.std.proofs.lemmas.List.{get_or-map, length-map}
use Rattle.std.proofs.lemmas.List.FromFn.{get_or-map-range_with_len}
use Rattle.std.proofs.lemmas.List.Elements.{Contains-get_or}
use Rattle.grid_net.specs.declared.part.Resistor.{Resistor}
use Rattle.grid_net.specs.declared.part.Pad.{Pad}
use Rattle.grid_net.specs.declared.part.Load.{Load}
use Rattle.grid_net.specs.Network.{Network, first_pad, pad_at, low_load, high_load, net_current}
use Rattle.grid_net.specs.Adding.{end_sum}
use Rattle.grid_net.specs.Building.{network_of, load_of}
use Rattle.grid_net.specs.Limits.{IsBuilt}
use Rattle.grid_net.specs.Solution.{IsSolution}
use Rattle.grid_net.specs.Shorted.{IsShortedSolution, short_current}
use Rattle.grid_net.specs.Laws.Sums.{total_le}
use Rattle.node_groups.specs.Groups.{AreGroups}
use Rattle.node_groups.specs.Laws.{joined_label, group_of}
use Rattle.group_net.specs.Merging.{AreNodes, grouped_resistor, grouped_pad, grouped_load, grouped_loads, merged_network, group_potential, group_drawn}
use Rattle.group_net.proofs.Sums.{total-map, total-times, over, all_below, over_same, of_group, group-sum, group-neg, group-same, group-currents, group-shorts}

-- ---- pads of a group
none_is_not : {X : Type 0} (x : X) → Some x ≡ None → ⊥
none_is_not {X} x e = let f : ◌≡◌ {A = Option X} (Some x) None = e in cc

module _ (group : List ℕ) (g : ℕ) where
  -- A group without a pad has no node with one.
  pub no_pad_in : (ps : List Pad) (i : ℕ) → get_or group i 0 ≡ g → first_pad (map (grouped_pad group) ps) g ≡ None
      → first_pad ps i ≡ None
  no_pad_in [] i e none = refl
  no_pad_in (p ∷ ps) i e none = by_tests (eqb (get_or group p.node 0) g) (eqb p.node i) refl refl none (no_pad_in ps i e)
    where
      by_tests : (s t : Bool) → eqb (get_or group p.node 0) g ≡ s → eqb p.node i ≡ t
          → cond s (Some p.volts) (first_pad (map (grouped_pad group) ps) g) ≡ None
          → (first_pad (map (grouped_pad group) ps) g ≡ None → first_pad ps i ≡ None)
          → cond t (Some p.volts) (first_pad ps i) ≡ None
      by_tests true t f h n rest = absurd (none_is_not p.volts n)
      by_tests false true f h n rest =
          let same : get_or group p.node 0 ≡ g = ap (λ (x : ℕ). get_or group x 0) (eqb-true p.node i h) ∙ e in
          absurd (let u : ◌≡◌ {A = Bool} false true = sym f ∙ eq-eqb (get_or group p.node 0) g same in cc)
      by_tests false false f h n rest = rest n

  -- The pad of a group is the pad of one of its nodes.
  pub pad_of_node : (n : ℕ) (ps : List Pad) (v : ℤ) → All (λ p. p.node < n) ps
      → first_pad (map (grouped_pad group) ps) g ≡ Some v
      → (i : ℕ) × (i < n) × (get_or group i 0 ≡ g) × (first_pad ps i ≡ Some v)
  pad_of_node n [] v all e = absurd (none_is_not v (sym e))
  pad_of_node n (p ∷ ps) v all e =
      by_test (eqb (get_or group p.node 0) g) refl e (pad_of_node n ps v (λ k d l. all (suc k) d (omega arith)))
    where
      beyond : (i : ℕ) → eqb (get_or group p.node 0) g ≡ false → get_or group i 0 ≡ g → (t : Bool) → eqb p.node i ≡ t
          → (o : Option ℤ) → first_pad ps i ≡ o → cond t (Some p.volts) (first_pad ps i) ≡ o
      beyond i f same true h o e =
          let at : get_or group p.node 0 ≡ g = ap (λ (x : ℕ). get_or group x 0) (eqb-true p.node i h) ∙ same in
          absurd (let u : ◌≡◌ {A = Bool} false true = sym f ∙ eq-eqb (get_or group p.node 0) g at in cc)
      beyond i f same false h o e = e

      by_test : (s : Bool) → eqb (get_or group p.node 0) g ≡ s
          → cond s (Some p.volts) (first_pad (map (grouped_pad group) ps) g) ≡ Some v
          → (first_pad (map (grouped_pad group) ps) g ≡ Some v
          → (i : ℕ) × (i < n) × (get_or group i 0 ≡ g) × (first_pad ps i ≡ Some v))
          → (i : ℕ) × (i < n) × (get_or group i 0 ≡ g) × (first_pad (p ∷ ps) i ≡ Some v)
      by_test true f told rest = (
        p.node,
        all 0 p (omega arith),
        eqb-true (get_or group p.node 0) g f,
        ap (λ (b : Bool). cond b (Some p.volts) (first_pad ps p.node)) (eq-eqb p.node p.node refl) ∙ told,
      )
      by_test false f told rest =
          let h = rest told in (h.0, h.1, h.2, beyond h.0 f h.2 (eqb p.node h.0) refl (Some v) h.3)

-- ---- the whole
module _ (net : Network) (shorts : List (ℕ × ℕ)) (group firsts : List ℕ) (q : ℕ) (p c l s : ℕ → ℤ)
    (h : AreGroups net.nodes shorts group firsts) (sol : IsShortedSolution net shorts q p c l s) where
  abbrev potential : ℕ → ℤ
  potential = group_potential firsts p

  pub at_nodes : (i : ℕ) → i < net.nodes → p i ≡ potential (get_or group i 0)
  at_nodes i m =
      let g = group_of net.nodes shorts group firsts h i m in
      let first_is_node : get_or firsts (get_or group i 0) 0 < net.nodes = h.each_first (get_or group i 0) 0 g in
      joined_label p shorts sol.joined i (get_or firsts (get_or group i 0) 0)
      ((h.joined i (get_or firsts (get_or group i 0) 0) m first_is_node).0 (sym (h.of_its_group (get_or group i 0) g)))

  module _ (built : IsBuilt net) (nodes : AreNodes net.nodes shorts)
      (kept : (n : ℕ) (rs : List Resistor) (ps : List Pad) (ls : List Load) (i : ℕ) → i < n
      → pad_at (network_of n rs ps ls) i ≡ first_pad ps i) where
    abbrev merged : Network
    merged = merged_network net group (length firsts)

    abbrev pads : List Pad
    pads = map (grouped_pad group) net.pads

    kept_here : (g : ℕ) → g < length firsts → pad_at merged g ≡ first_pad pads g
    kept_here g m = kept (length firsts) (map (grouped_resistor group) net.resistors) pads (grouped_loads net group) g m

    ends : All (λ r. (r.a < net.nodes) × (r.b < net.nodes)) net.resistors
    ends k d m = let r = built.is_network.each_resistor k d m in (r.a_is_node, r.b_is_node)

    ohm : (k : ℕ) (d : Resistor) → k < length (map (grouped_resistor group) net.resistors)
        → let r = get_or (map (grouped_resistor group) net.resistors) k d in
        potential r.a -ℤ potential r.b ≡ r.ohms *ℤ c k
    ohm k d m =
        let k' : k < length net.resistors = omega (arith, m, length-map net.resistors (grouped_resistor group)) in
        let is = get_or-map (grouped_resistor group) net.resistors k d d k' in
        let r = get_or net.resistors k d in
        let both = ends k d k' in
        let one = at_nodes r.a both.0 in
        let other = at_nodes r.b both.1 in
        subst (λ (x : Resistor). potential x.a -ℤ potential x.b ≡ x.ohms *ℤ c k) (sym is)
        (ap (λ (x : ℤ). x -ℤ potential (get_or group r.b 0)) (sym one) ∙ ap (λ (x : ℤ). p r.a -ℤ x) (sym other)
        ∙ sol.ohm k d k')

    sum_is : (end : Load → ℤ) (f : ℕ → ℤ) → ((i : ℕ) → end (grouped_load net group i) ≡ f i) → (g : ℕ)
        → end_sum end (grouped_loads net group) g ≡ over net.nodes (of_group group g f)
    sum_is end f e g =
        total-map (λ (x : Load). cond (eqb x.node g) (end x) (pos 0)) (grouped_load net group) (range_with_len 0 net.nodes)
        ∙ group-same group g net.nodes (λ i. end (grouped_load net group i)) f (λ i m same. e i)

    times_in : (g : ℕ) (f : ℕ → ℤ)
        → pos q *ℤ over net.nodes (of_group group g f) ≡ over net.nodes (of_group group g (λ i. pos q *ℤ f i))
    times_in g f = sym (total-times (pos q) (of_group group g f) (range_with_len 0 net.nodes))
        ∙ over_same net.nodes (λ i. pos q *ℤ of_group group g f i) (of_group group g (λ i. pos q *ℤ f i))
        (λ i m. inside (eqb (get_or group i 0) g) (f i))
      where
        inside : (b : Bool) (x : ℤ) → pos q *ℤ cond b x (pos 0) ≡ cond b (pos q *ℤ x) (pos 0)
        inside true x = refl
        inside false x = omega (arith, ints)

    le_if : (b : Bool) (x y : ℤ) → x ≤ℤ y → cond b x (pos 0) ≤ℤ cond b y (pos 0)
    le_if true x y m = m
    le_if false x y m = omega (arith, ints)

    group_le : (g : ℕ) (f k : ℕ → ℤ) → ((i : ℕ) → i < net.nodes → f i ≤ℤ k i)
        → over net.nodes (of_group group g f) ≤ℤ over net.nodes (of_group group g k)
    group_le g f k m = total_le (λ i. i < net.nodes) (of_group group g f) (of_group group g k)
        (λ i b. le_if (eqb (get_or group i 0) g) (f i) (k i) (m i b)) (range_with_len 0 net.nodes) (all_below net.nodes)

    low_is : (g : ℕ) → g < length firsts → low_load merged g ≡ over net.nodes (of_group group g (low_load net))
    low_is g m = ap (λ x. x.low) (get_or-map-range_with_len (load_of (grouped_loads net group)) 0 (length firsts) g g
        (record { low = pos 0; high = pos 0 }) m (omega arith)) ∙ sum_is (λ x. x.low) (low_load net) (λ i. refl) g

    high_is : (g : ℕ) → g < length firsts → high_load merged g ≡ over net.nodes (of_group group g (high_load net))
    high_is g m = ap (λ x. x.high) (get_or-map-range_with_len (load_of (grouped_loads net group)) 0 (length firsts) g g
        (record { low = pos 0; high = pos 0 }) m (omega arith)) ∙ sum_is (λ x. x.high) (high_load net) (λ i. refl) g

    drawn : (g : ℕ) → g < length firsts
        → ((pos q *ℤ low_load merged g) ≤ℤ group_drawn net.nodes group l g)
        × (group_drawn net.nodes group l g ≤ℤ (pos q *ℤ high_load merged g))
    drawn g m =
        let low = ap (λ (x : ℤ). pos q *ℤ x) (low_is g m) ∙ times_in g (low_load net) in
        let high = ap (λ (x : ℤ). pos q *ℤ x) (high_is g m) ∙ times_in g (high_load net) in
        let above = group_le g (λ i. pos q *ℤ low_load net i) l (λ i b. (sol.drawn i b).0) in
        let below = group_le g l (λ i. pos q *ℤ high_load net i) (λ i b. (sol.drawn i b).1) in
        (omega (arith, ints, low, above), omega (arith, ints, high, below))

    one_group : All (λ (e : ℕ × ℕ). get_or group e.0 0 ≡ get_or group e.1 0) shorts
    one_group k d m =
        let both = nodes k d m in
        (h.joined (get_or shorts k d).0 (get_or shorts k d).1 both.0 both.1).1
        (1, ((get_or shorts k d).1, inl (Contains-get_or shorts k d m), refl))

    kirchhoff : (g : ℕ) → g < length firsts → pad_at merged g ≡ None
        → net_current (map (grouped_resistor group) net.resistors) c g ≡ neg_ℤ (group_drawn net.nodes group l g)
    kirchhoff g m none =
        let none' = sym (kept_here g m) ∙ none in
        let currents = group-currents group g net.nodes net.resistors c ends in
        let no_shorts = group-shorts group g net.nodes shorts s nodes one_group in
        let split = group-sum group g net.nodes (net_current net.resistors c) (short_current shorts s) in
        let balance = group-same group g net.nodes (λ i. net_current net.resistors c i +ℤ short_current shorts s i)
        (λ i. neg_ℤ (l i)) (λ i b same. sol.kirchhoff i b (no_pad_in group g net.pads i same none')) in
        let turned = group-neg group g net.nodes l in
        omega (arith, ints, currents, no_shorts, split, balance, turned)

    pad : (g : ℕ) (v : ℤ) → g < length firsts → pad_at merged g ≡ Some v → potential g ≡ pos q *ℤ v
    pad g v m told =
        let node = pad_of_node group g net.nodes net.pads v built.pads_are_nodes (sym (kept_here g m) ∙ told) in
        ap potential (sym node.2) ∙ sym (at_nodes node.0 node.1) ∙ sol.pads node.0 v node.1 node.3

    pub by_groups : IsSolution merged q potential c (group_drawn net.nodes group l)
    by_groups = record {
      denominator = sol.denominator;
      ohm = ohm;
      drawn = drawn;
      kirchhoff = kirchhoff;
      pads = pad;
    }
