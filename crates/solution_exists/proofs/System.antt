-- The equations of a network as linear equations. Their unknowns are the potential of each node, the current through each resistor
-- and into each branch, and by how much the denominator grows: one more than there are equations.
use Rattle.std.proofs.Common.{◌≡◌, ◌≢◌, ℕ, zero, suc, ◌+◌, ◌-◌, ◌<◌, ◌≤◌, inl, inr, ℤ, pos, negsuc, neg_ℤ, ◌+ℤ◌, ◌-ℤ◌, ◌*ℤ◌, ◌≤ℤ◌, arith, refl, sym, ap, ◌∙◌, subst, List, ◌++◌, length, map, get_or, All, Option, Some, None}
use Rattle.std.specs.List.{range_with_len}
use Rattle.std.proofs.lemmas.Int.{ints}
use Rattle.std.proofs.lemmas.Bool.{cases_lt}
use Rattle.std.proofs.lemmas.List.{length-append, get_or_append_left, get_or-append-add, get_or_default}
use Rattle.std.proofs.lemmas.List.FromFn.{length-map-range_with_len, get_or-map-range_with_len}
use Rattle.std.proofs.lemmas.List.Elements.{All-append}
use Rattle.grid_net.specs.declared.part.Resistor.{Resistor}
use Rattle.grid_net.specs.Network.{Network, IsNetwork, IsResistorOf, net_current, pad_at}
use Rattle.solution_exists.specs.Existence.{EachIsSupplied}
use Rattle.solution_exists.specs.Branches.{Branch, AreBranches, over_branches, Balances}
use Rattle.solution_exists.specs.Laws.{times_comm, times_assoc, neg_times}
use Rattle.solution_exists.proofs.Linear.{IsLinear, linear_at, linear_sum, linear_times, linear_neg, Solved, solve}
use Rattle.solution_exists.proofs.Combined.{linear_currents, linear_branches, restated, scaled}
use Rattle.solution_exists.proofs.Nothing.{potential_nothing, current_nothing, branch_nothing}

-- ---- lists of equations
abbrev LeftSide : Type 0
LeftSide = (ℕ → ℤ) → ℤ

module _ (P : LeftSide → Type 0) where
  all_made : (f : ℕ → LeftSide) (n : ℕ) → ((i : ℕ) → i < n → P (f i)) → All P (map f (range_with_len 0 n))
  all_made f n h k d l =
      let m : k < n = omega (arith, l, length-map-range_with_len f 0 n) in
      subst P (sym (get_or-map-range_with_len f 0 n k k d m (omega arith))) (h k m)

  made : (f : ℕ → LeftSide) (n : ℕ) → All P (map f (range_with_len 0 n)) → (i : ℕ) → i < n → P (f i)
  made f n all i m =
      subst P (get_or-map-range_with_len f 0 n i i (f i) m (omega arith))
      (all i (f i) (omega (arith, m, length-map-range_with_len f 0 n)))

  first_part : (xs ys : List LeftSide) → All P (xs ++ ys) → All P xs
  first_part xs ys all k d l = subst P (get_or_append_left xs ys d k l) (all k d (omega (arith, l, length-append xs ys)))

  second_part : (xs ys : List LeftSide) → All P (xs ++ ys) → All P ys
  second_part xs ys all k d l =
      subst P (get_or-append-add xs ys k d) (all (length xs + k) d (omega (arith, l, length-append xs ys)))

-- ---- the equations
any_resistor : Resistor
any_resistor = record { a = 0; b = 0; ohms = pos 1 }

any_branch : Branch
any_branch = record { node = 0; ohms = pos 1 }

-- What meets the equations of the network, over n times a denominator.
pub record Met (net : Network) (branches : List Branch) (s : ℤ) (held drawn : ℕ → ℤ) : Type 0 where
  pub n : ℕ
  pub positive : 1 ≤ n
  pub p : ℕ → ℤ
  pub c : ℕ → ℤ
  pub k : ℕ → ℤ
  pub balances : Balances net branches (pos n *ℤ s) (λ i. pos n *ℤ held i) (λ i. pos n *ℤ drawn i) p c k

module _ (net : Network) (branches : List Branch) (s : ℤ) (held drawn : ℕ → ℤ) (wf : IsNetwork net)
    (fit : AreBranches net.nodes branches) where
  abbrev nodes : ℕ
  nodes = net.nodes

  abbrev places : ℕ
  places = length net.resistors

  abbrev last : ℕ
  last = nodes + (places + length branches)

  abbrev current_place : ℕ → ℕ
  current_place k = nodes + k

  abbrev branch_place : ℕ → ℕ
  branch_place j = nodes + (places + j)

  abbrev resistor_at : ℕ → Resistor
  resistor_at k = get_or net.resistors k any_resistor

  abbrev branch_at : ℕ → Branch
  branch_at j = get_or branches j any_branch

  abbrev ohm_side : ℕ → LeftSide
  ohm_side k x =
      (x (resistor_at k).a +ℤ neg_ℤ (x (resistor_at k).b)) +ℤ neg_ℤ ((resistor_at k).ohms *ℤ x (current_place k))

  abbrev branch_side : ℕ → LeftSide
  branch_side j x =
      (x (branch_at j).node +ℤ neg_ℤ (held (branch_at j).node *ℤ x last))
      +ℤ neg_ℤ ((branch_at j).ohms *ℤ x (branch_place j))

  abbrev node_side : Option ℤ → ℕ → LeftSide
  node_side (Some v) i x = x i +ℤ neg_ℤ ((s *ℤ v) *ℤ x last)
  node_side None i x =
      (net_current net.resistors (λ k. x (current_place k)) i +ℤ over_branches branches (λ j. x (branch_place j)) i)
      +ℤ drawn i *ℤ x last

  abbrev each_node : List LeftSide
  each_node = map (λ i. node_side (pad_at net i) i) (range_with_len 0 nodes)

  abbrev each_resistor : List LeftSide
  each_resistor = map ohm_side (range_with_len 0 places)

  abbrev each_branch : List LeftSide
  each_branch = map branch_side (range_with_len 0 (length branches))

  abbrev sides : List LeftSide
  sides = each_node ++ (each_resistor ++ each_branch)

  few : length sides < suc last
  few =
      let a = length-append each_node (each_resistor ++ each_branch) in
      let b = length-append each_resistor each_branch in
      let c = length-map-range_with_len (λ i. node_side (pad_at net i) i) 0 nodes in
      let d = length-map-range_with_len ohm_side 0 places in
      let e = length-map-range_with_len branch_side 0 (length branches) in
      omega (arith, a, b, c, d, e)

  -- ---- they are linear
  less : (f g : LeftSide) → IsLinear (suc last) f → IsLinear (suc last) g → IsLinear (suc last) (λ x. f x +ℤ neg_ℤ (g x))
  less f g lf lg = linear_sum (suc last) f (λ x. neg_ℤ (g x)) lf (linear_neg (suc last) g g lg)

  at : (j : ℕ) → j < suc last → IsLinear (suc last) (λ x. x j)
  at j l = linear_at (suc last) j l

  part : (k : ℤ) (j : ℕ) → j < suc last → IsLinear (suc last) (λ x. k *ℤ x j)
  part k j l = linear_times (suc last) (λ x. x j) (λ x. x j) (at j l) k

  linear_ohm : (k : ℕ) → k < places → IsLinear (suc last) (ohm_side k)
  linear_ohm k l =
      let r = resistor_at k in
      let of_r : IsResistorOf nodes r = wf.each_resistor k any_resistor l in
      less (λ x. x r.a +ℤ neg_ℤ (x r.b)) (λ x. r.ohms *ℤ x (current_place k))
      (less (λ x. x r.a) (λ x. x r.b) (at r.a (omega (arith, of_r.a_is_node))) (at r.b (omega (arith, of_r.b_is_node))))
      (part r.ohms (current_place k) (omega (arith, l)))

  linear_branch : (j : ℕ) → j < length branches → IsLinear (suc last) (branch_side j)
  linear_branch j l =
      let b = branch_at j in
      let of_b : (b.node < nodes) × (pos 1 ≤ℤ b.ohms) = fit j any_branch l in
      less (λ x. x b.node +ℤ neg_ℤ (held b.node *ℤ x last)) (λ x. b.ohms *ℤ x (branch_place j))
      (less (λ x. x b.node) (λ x. held b.node *ℤ x last) (at b.node (omega (arith, of_b.0))) (part (held b.node) last (omega arith)))
      (part b.ohms (branch_place j) (omega (arith, l)))

  linear_node : (o : Option ℤ) (i : ℕ) → i < nodes → IsLinear (suc last) (node_side o i)
  linear_node (Some v) i l = less (λ x. x i) (λ x. (s *ℤ v) *ℤ x last) (at i (omega (arith, l))) (part (s *ℤ v) last (omega arith))
  linear_node None i l =
      let currents : LeftSide = λ x. net_current net.resistors (λ k. x (current_place k)) i in
      let into : LeftSide = λ x. over_branches branches (λ j. x (branch_place j)) i in
      linear_sum (suc last) (λ x. currents x +ℤ into x) (λ x. drawn i *ℤ x last)
      (linear_sum (suc last) currents into
      (linear_currents (suc last) net.resistors current_place i (λ k m. omega (arith, m)))
      (linear_branches (suc last) branches branch_place i (λ j m. omega (arith, m))))
      (part (drawn i) last (omega arith))

  all_linear : All (IsLinear (suc last)) sides
  all_linear =
      All-append (IsLinear (suc last)) each_node (each_resistor ++ each_branch)
      (all_made (IsLinear (suc last)) (λ i. node_side (pad_at net i) i) nodes (λ i l. linear_node (pad_at net i) i l))
      (All-append (IsLinear (suc last)) each_resistor each_branch
      (all_made (IsLinear (suc last)) ohm_side places linear_ohm)
      (all_made (IsLinear (suc last)) branch_side (length branches) linear_branch))

  found : Solved (suc last) sides
  found = solve (suc last) sides all_linear few

  -- ---- what the numbers that are found mean
  abbrev Holds : LeftSide → Type 0
  Holds f = f found.x ≡ pos 0

  ohm_holds : (k : ℕ) → k < places → ohm_side k found.x ≡ pos 0
  ohm_holds k l =
      made Holds ohm_side places
      (first_part Holds each_resistor each_branch (second_part Holds each_node (each_resistor ++ each_branch) found.holds)) k l

  branch_holds : (j : ℕ) → j < length branches → branch_side j found.x ≡ pos 0
  branch_holds j l =
      made Holds branch_side (length branches)
      (second_part Holds each_resistor each_branch (second_part Holds each_node (each_resistor ++ each_branch) found.holds)) j l

  node_holds : (i : ℕ) → i < nodes → (o : Option ℤ) → pad_at net i ≡ o → node_side o i found.x ≡ pos 0
  node_holds i l o e =
      subst (λ (p : Option ℤ). node_side p i found.x ≡ pos 0) e
      (made Holds (λ i. node_side (pad_at net i) i) nodes
      (first_part Holds each_node (each_resistor ++ each_branch) found.holds) i l)

  abbrev factor : ℤ
  factor = found.x last

  abbrev currents_found : ℕ → ℤ
  currents_found k = found.x (current_place k)

  abbrev into_branches : ℕ → ℤ
  into_branches j = found.x (branch_place j)

  balances_found : Balances net branches (factor *ℤ s) (λ i. factor *ℤ held i) (λ i. factor *ℤ drawn i) found.x currents_found
      into_branches
  balances_found = record {
    ohm = λ j d l.
        (let e = ohm_holds j l in
        subst (λ (r : Resistor). found.x r.a -ℤ found.x r.b ≡ r.ohms *ℤ currents_found j)
        (get_or_default net.resistors j any_resistor d l) (omega (arith, ints, e)));
    branch = λ j d l.
        (let e = branch_holds j l in
        let b = branch_at j in
        let c = times_comm (held b.node) factor in
        subst (λ (x : Branch). found.x x.node -ℤ factor *ℤ held x.node ≡ x.ohms *ℤ into_branches j)
        (get_or_default branches j any_branch d l) (omega (arith, ints, e, c)));
    kirchhoff = λ i l free.
        (let e = node_holds i l None free in let c = times_comm (drawn i) factor in omega (arith, ints, e, c));
    pads = λ i v l pad.
        (let e = node_holds i l (Some v) pad in
        let c = times_comm (s *ℤ v) factor in
        let a = times_assoc factor s v in
        omega (arith, ints, e, c, a));
  }

  module _ (supplied : EachIsSupplied net) where
    all_nothing : factor ≡ pos 0 → (i : ℕ) → i < suc last → found.x i ≡ pos 0
    all_nothing none i l =
        elim (cases_lt i nodes) [
          | inl a ↦ potential_nothing net branches wf fit supplied (factor *ℤ s) (λ i. factor *ℤ held i) (λ i. factor *ℤ drawn i)
              found.x currents_found into_branches balances_found q_nothing held_nothing drawn_nothing i a
          | inr a ↦ elim (cases_lt i (nodes + places)) [
            | inl b ↦ ap found.x (sym (back i a)) ∙ current_nothing net branches wf fit supplied (factor *ℤ s) (λ i. factor *ℤ held i)
                (λ i. factor *ℤ drawn i) found.x currents_found into_branches balances_found q_nothing held_nothing drawn_nothing
                (i - nodes) (omega (arith, a, b))
            | inr b ↦ elim (cases_lt i last) [
              | inl c ↦ ap found.x (sym (far i b)) ∙ branch_nothing net branches wf fit supplied (factor *ℤ s)
                  (λ i. factor *ℤ held i) (λ i. factor *ℤ drawn i) found.x currents_found into_branches balances_found q_nothing
                  held_nothing drawn_nothing (i - (nodes + places)) (omega (arith, b, c))
              | inr c ↦ (let e : i ≡ last = omega (arith, l, c) in ap found.x e ∙ none)
            ]
          ]
        ]
      where
        back : (i : ℕ) → nodes ≤ i → current_place (i - nodes) ≡ i
        back i a = omega (arith, a)

        far : (i : ℕ) → nodes + places ≤ i → branch_place (i - (nodes + places)) ≡ i
        far i a = omega (arith, a)

        of_nothing : (z : ℤ) → factor *ℤ z ≡ pos 0
        of_nothing z = let e = ap (λ f. f *ℤ z) none in omega (arith, ints, e)

        q_nothing : factor *ℤ s ≡ pos 0
        q_nothing = of_nothing s

        held_nothing : All (λ (x : Branch). factor *ℤ held x.node ≡ pos 0) branches
        held_nothing k d l = of_nothing (held (get_or branches k d).node)

        drawn_nothing : (i : ℕ) → i < net.nodes → pad_at net i ≡ None → factor *ℤ drawn i ≡ pos 0
        drawn_nothing i l free = of_nothing (drawn i)

    turn : (t : ℕ) (z : ℤ) → negsuc 0 *ℤ (negsuc t *ℤ z) ≡ pos (suc t) *ℤ z
    turn t z =
        let e : negsuc t *ℤ z ≡ neg_ℤ (pos (suc t) *ℤ z) = neg_times (pos (suc t)) z in omega (arith, ints, e)

    met_by : (f : ℤ) (p c k : ℕ → ℤ) → f ≢ pos 0
        → Balances net branches (f *ℤ s) (λ i. f *ℤ held i) (λ i. f *ℤ drawn i) p c k → Met net branches s held drawn
    met_by (pos zero) p c k ne b = absurd (ne refl)
    met_by (pos (suc t)) p c k ne b = record { n = suc t; positive = omega arith; p = p; c = c; k = k; balances = b }
    met_by (negsuc t) p c k ne b = record {
      n = suc t;
      positive = omega arith;
      p = λ i. negsuc 0 *ℤ p i;
      c = λ j. negsuc 0 *ℤ c j;
      k = λ j. negsuc 0 *ℤ k j;
      balances = restated net branches (negsuc 0 *ℤ (negsuc t *ℤ s)) (pos (suc t) *ℤ s) (λ i. negsuc 0 *ℤ (negsuc t *ℤ held i))
          (λ i. negsuc 0 *ℤ (negsuc t *ℤ drawn i)) (λ i. negsuc 0 *ℤ p i) (λ j. negsuc 0 *ℤ c j) (λ j. negsuc 0 *ℤ k j)
          (λ i. pos (suc t) *ℤ held i) (λ i. pos (suc t) *ℤ drawn i) (turn t s) (λ i. turn t (held i)) (λ i. turn t (drawn i))
          (scaled net branches (negsuc 0) (negsuc t *ℤ s) (λ i. negsuc t *ℤ held i) (λ i. negsuc t *ℤ drawn i) p c k b);
    }

    pub met : Met net branches s held drawn
    met =
        met_by factor found.x currents_found into_branches
        (λ none. found.nonzero (all_nothing none found.place found.below)) balances_found
