-- The least lift: a list that is raised from 0, node by node, until the test holds for every load of that magnitude, and how high it comes.
use Rattle.std.proofs.Common.{◌≡◌, ℕ, zero, suc, ◌+◌, ◌*◌, ◌<◌, ◌⊎◌, inl, inr, ℤ, pos, neg_ℤ, ◌+ℤ◌, ◌-ℤ◌, ◌*ℤ◌, ◌≤ℤ◌, ◌<ℤ◌, arith, refl, sym, ap, ◌∙◌, subst, List, [], ◌∷◌, length, get_or, All, Option, Some, None, Bool, true, false, cond, eqb, eqb-true, eq-eqb, mul-le-mul_right}
use Rattle.std.proofs.lemmas.Int.{ints, by_lt_z}
use Rattle.std.proofs.lemmas.Bool.{cases_eq, cases_lt}
use Rattle.std.proofs.lemmas.List.Elements.{All-head, All-tail}
use lib.Signed.{le_z}
use borrow.Author.Differences.{le_out}
use Rattle.grid_net.specs.declared.part.Resistor.{Resistor}
use Rattle.grid_net.specs.Network.{Network, IsNetwork, IsResistorOf, outflow, FlowRule, load_size, pad_at, degree, over_nodes}
use Rattle.bound_make.specs.inside.Raising.{IsFlowRule, TellsBelow, IsRaisedByOne, IsLift}
use Rattle.grid_net.specs.Level.{AreJoined, IsWithin}
use Rattle.bound_make.proofs.Raised.{step_at_most, others_no_more, is_below, pad_is_other}
use Rattle.bound_make.proofs.Cut.{sum_to, sum_to_le, sum_to_add, sum_to_pos, taken_from, upper_cut, lower_cut, own_term, other_term, one_term}

-- A factor on the right keeps an order.
pub times_le_right : (c : ℕ) (a b : ℤ) → a ≤ℤ b → (a *ℤ pos c) ≤ℤ (b *ℤ pos c)
times_le_right c a b h = omega (arith, ints, mul-le-mul_right c (le_out a b h))

pub no_resistor : Resistor
no_resistor = record { a = 0; b = 0; ohms = pos 1 }

module _ (rule : FlowRule) (of_rule : IsFlowRule rule) (net : Network) (wf : IsNetwork net) where
  -- What a resistor with one end in a set takes from it is the flow from that end.
  crossing : (x : ℕ → ℤ) (s : ℕ → Bool) (i j : ℕ) (r : Resistor) → ((r.a ≡ i) × (r.b ≡ j)) ⊎ ((r.a ≡ j) × (r.b ≡ i)) → s i ≡ true → s j ≡ false → taken_from rule x s r ≡ rule (x i -ℤ x j) r.ohms
  crossing x s i j r (inl (a, b)) in_set out =
      let sa : s r.a ≡ true = ap s a ∙ in_set in
      let sb : s r.b ≡ false = ap s b ∙ out in
      let u = own_term (s r.a) (rule (x r.a -ℤ x r.b) r.ohms) sa in
      let v = other_term (s r.b) (rule (x r.b -ℤ x r.a) r.ohms) (λ e. cc) in
      let d : x r.a -ℤ x r.b ≡ x i -ℤ x j = ap (λ m. x m -ℤ x r.b) a ∙ ap (λ m. x i -ℤ x m) b in
      omega (arith, ints, u, v, ap (λ z. rule z r.ohms) d)
  crossing x s i j r (inr (a, b)) in_set out =
      let sa : s r.a ≡ false = ap s a ∙ out in
      let sb : s r.b ≡ true = ap s b ∙ in_set in
      let u = other_term (s r.a) (rule (x r.a -ℤ x r.b) r.ohms) (λ e. cc) in
      let v = own_term (s r.b) (rule (x r.b -ℤ x r.a) r.ohms) sb in
      let d : x r.b -ℤ x r.a ≡ x i -ℤ x j = ap (λ m. x m -ℤ x r.a) b ∙ ap (λ m. x i -ℤ x m) a in
      omega (arith, ints, u, v, ap (λ z. rule z r.ohms) d)

  -- The flow down from a node: at most what the nodes that are no lower are allowed, and the number of resistors.
  pub flow_down : (x : ℕ → ℤ) (limit : ℕ → ℕ) (i j : ℕ) (joined : AreJoined net i j) → x j <ℤ x i → ((v : ℕ) → v < net.nodes → x i ≤ℤ x v → outflow rule net.resistors x v ≤ℤ pos (limit v)) → (d : Resistor) → rule (x i -ℤ x j) (get_or net.resistors joined.place d).ohms ≤ℤ pos (over_nodes net.nodes limit + length net.resistors)
  flow_down x limit i j joined lt h d =
      let s : ℕ → Bool = λ v. le_z (x i) (x v) in
      let in_set : s i ≡ true = sym (omega (arith, ints)) in
      let out : s j ≡ false = sym (omega (arith, ints)) in
      let cut = upper_cut rule of_rule net.nodes x s limit net.resistors wf.each_resistor (x i) (λ v e. omega (arith, ints)) (λ v e. omega (arith, ints)) (λ v l e. h v l (omega (arith, ints))) joined.place d joined.in_list in
      let is = crossing x s i j (get_or net.resistors joined.place d) (joined.ends d) in_set out in
      omega (arith, ints, cut, is)

  -- The flow up from a node: at least the negative of what the nodes that are no higher are allowed.
  pub flow_up : (x : ℕ → ℤ) (limit : ℕ → ℕ) (i j : ℕ) (joined : AreJoined net i j) → x i <ℤ x j → ((v : ℕ) → v < net.nodes → x v ≤ℤ x i → neg_ℤ (pos (limit v)) ≤ℤ outflow rule net.resistors x v) → (d : Resistor) → neg_ℤ (pos (over_nodes net.nodes limit)) ≤ℤ rule (x i -ℤ x j) (get_or net.resistors joined.place d).ohms
  flow_up x limit i j joined lt h d =
      let s : ℕ → Bool = λ v. le_z (x v) (x i) in
      let in_set : s i ≡ true = sym (omega (arith, ints)) in
      let out : s j ≡ false = sym (omega (arith, ints)) in
      let cut = lower_cut rule of_rule net.nodes x s limit net.resistors wf.each_resistor (x i) (λ v e. omega (arith, ints)) (λ v e. omega (arith, ints)) (λ v l e. h v l (omega (arith, ints))) joined.place d joined.in_list in
      let is = crossing x s i j (get_or net.resistors joined.place d) (joined.ends d) in_set out in
      omega (arith, ints, cut, is)

-- What may leave a node of a list that is being raised: the load's greater magnitude, and one for each resistor.
abbrev pub allowed : Network → ℕ → ℕ
allowed net i = load_size net i + degree net.resistors i

-- A list on the way to the least lift.
pub record IsPartLift (rule : FlowRule) (net : Network) (y : ℕ → ℤ) : Type 0 where
  pub pads : (i : ℕ) (v : ℤ) → i < net.nodes → pad_at net i ≡ Some v → y i ≡ pos 0
  pub not_below : (i : ℕ) → i < net.nodes → pos 0 ≤ℤ y i
  pub limited : (i : ℕ) → i < net.nodes → pad_at net i ≡ None → outflow rule net.resistors y i ≤ℤ pos (allowed net i)
  pub below_all : (z : ℕ → ℤ) → IsLift rule net z → (i : ℕ) → i < net.nodes → y i ≤ℤ z i

module _ (rule : FlowRule) (of_rule : IsFlowRule rule) (net : Network) (wf : IsNetwork net) (R reach : ℕ) (each_at_most : All (λ r. r.ohms ≤ℤ pos R) net.resistors) (tells : TellsBelow rule reach) (room : over_nodes net.nodes (allowed net) + length net.resistors < reach) where
  -- A node is no higher above a neighbour than the greatest resistance times the reach.
  step_up : (y : ℕ → ℤ) → IsPartLift rule net y → (i j : ℕ) → i < net.nodes → j < net.nodes → AreJoined net i j → y i ≤ℤ (y j +ℤ pos (R * reach))
  step_up y part i j l m joined = by_lt_z (y j) (y i)
      (λ lt.
      let r : Resistor = get_or net.resistors joined.place no_resistor in
      let of_r : IsResistorOf net.nodes r = wf.each_resistor joined.place no_resistor joined.in_list in
      let ohms : r.ohms ≤ℤ pos R = each_at_most joined.place no_resistor joined.in_list in
      let flow = flow_down rule of_rule net wf y (allowed net) i j joined lt (λ v n le. no_pad v n (pad_at net v) refl (omega (arith, ints, part.not_below j m, le, lt))) no_resistor in
      let below : (y i -ℤ y j) <ℤ (r.ohms *ℤ pos reach) = tells (y i -ℤ y j) r.ohms of_r.resists (omega (arith, ints, flow, room)) in
      omega (arith, ints, below, times_le_right reach r.ohms (pos R) ohms))
      (λ le. omega (arith, ints))
    where
      no_pad : (v : ℕ) → v < net.nodes → (o : Option ℤ) → pad_at net v ≡ o → pos 0 <ℤ y v → outflow rule net.resistors y v ≤ℤ pos (allowed net v)
      no_pad v n None e pos_y = part.limited v n e
      no_pad v n (Some u) e pos_y = absurd (omega (arith, ints, part.pads v u n e, pos_y))

  -- A node that a chain of k resistors joins to a pad is at most k such steps high.
  pub within_bound : (y : ℕ → ℤ) → IsPartLift rule net y → (k i : ℕ) → i < net.nodes → IsWithin net k i → y i ≤ℤ pos (k * (R * reach))
  within_bound y part zero i l (v, pad) = omega (arith, ints, part.pads i v l pad)
  within_bound y part (suc k) i l (inl w) = let h = within_bound y part k i l w in omega (arith, ints, h)
  within_bound y part (suc k) i l (inr (j, m, joined, w)) =
      let h = within_bound y part k j m w in
      let s = step_up y part i j l m joined in
      omega (arith, ints, h, s)

-- One of the first n numbers passes, or each of them fails.
pub find_first : (P Q : ℕ → Type 0) → ((i : ℕ) → P i ⊎ Q i) → (n : ℕ) → ((i : ℕ) × (i < n) × P i) ⊎ ((i : ℕ) → i < n → Q i)
find_first P Q test zero = inr (λ i l. absurd (omega arith))
find_first P Q test (suc n) = elim (find_first P Q test n) [
  | inl (i, l, p) ↦ inl (i, omega arith, p)
  | inr all ↦ elim (test n) [
    | inl p ↦ inl (n, omega arith, p)
    | inr q ↦ inr (λ i l. elim (cases_lt i n) [ inl lt ↦ all i lt | inr ge ↦ (let e : i ≡ n = omega arith in subst Q (sym e) q) ])
  ]
]

-- The list with one more at a node.
abbrev pub raise_at : (ℕ → ℤ) → ℕ → ℕ → ℤ
raise_at y i j = y j +ℤ cond (eqb i j) (pos 1) (pos 0)

pub raise_at_step : (n : ℕ) (y : ℕ → ℤ) (i : ℕ) → IsRaisedByOne n i y (raise_at y i)
raise_at_step n y i = record {
  raised = ap (λ z. y i +ℤ z) (own_term (eqb i i) (pos 1) (eq-eqb i i refl));
  others = λ j l ne. let o = other_term (eqb i j) (pos 1) (λ e. ne (sym (eqb-true i j e))) in omega (arith, ints, o);
}

pub sum_raised : (n : ℕ) (y : ℕ → ℤ) (i : ℕ) → i < n → sum_to n (raise_at y i) ≡ sum_to n y +ℤ pos 1
sum_raised n y i l = sum_to_add n y (λ j. cond (eqb i j) (pos 1) (pos 0)) ∙ ap (λ z. sum_to n y +ℤ z) (one_term n i (λ j. pos 1) l)

pub over_same : (n m : ℕ) → over_nodes n (λ i. m) ≡ n * m
over_same zero m = omega arith
over_same (suc n) m = omega (arith, over_same n m)

outflow_none : (rule : FlowRule) → IsFlowRule rule → (n : ℕ) (rs : List Resistor) → All (IsResistorOf n) rs → (i : ℕ) → outflow rule rs (λ j. pos 0) i ≡ pos 0
outflow_none rule of_rule n [] all i = refl
outflow_none rule of_rule n (r ∷ rs) all i =
    let of_r = All-head (IsResistorOf n) r rs all in
    let rest = outflow_none rule of_rule n rs (All-tail (IsResistorOf n) r rs all) i in
    let none = of_rule.none r.ohms of_r.resists in
    let here = takes_none (eqb r.a i) (eqb r.b i) (rule (pos 0) r.ohms) none in
    omega (arith, ints, rest, here)
  where
    takes_none : (s t : Bool) (u : ℤ) → u ≡ pos 0 → cond s u (pos 0) +ℤ cond t u (pos 0) ≡ pos 0
    takes_none true true u e = omega (arith, ints)
    takes_none true false u e = omega (arith, ints)
    takes_none false true u e = omega (arith, ints)
    takes_none false false u e = omega (arith, ints)

module _ (rule : FlowRule) (of_rule : IsFlowRule rule) (net : Network) (wf : IsNetwork net) where
  -- The node is no pad, and less leaves it than the load's greater magnitude and 1.
  abbrev IsShort : (ℕ → ℤ) → ℕ → Type 0
  IsShort y i = (pad_at net i ≡ None) × (outflow rule net.resistors y i <ℤ pos (load_size net i + 1))

  abbrev IsEnough : (ℕ → ℤ) → ℕ → Type 0
  IsEnough y i = pad_at net i ≡ None → pos (load_size net i + 1) ≤ℤ outflow rule net.resistors y i

  short_or_enough : (y : ℕ → ℤ) (i : ℕ) (o : Option ℤ) → pad_at net i ≡ o → IsShort y i ⊎ IsEnough y i
  short_or_enough y i None e = by_lt_z (outflow rule net.resistors y i) (pos (load_size net i + 1)) (λ lt. inl (e, lt)) (λ le. inr (λ none. le))
  short_or_enough y i (Some v) e = inr (λ none. absurd (let f : ◌≡◌ {A = Option ℤ} (Some v) None = sym e ∙ none in cc))

  start_part : IsPartLift rule net (λ j. pos 0)
  start_part = record {
    pads = λ i v l e. refl;
    not_below = λ i l. omega (arith, ints);
    limited = λ i l e. let z = outflow_none rule of_rule net.nodes net.resistors wf.each_resistor i in omega (arith, ints, z);
    below_all = λ z lift i l. lift.not_below i l;
  }

  step_part : (y : ℕ → ℤ) (i : ℕ) → i < net.nodes → IsShort y i → IsPartLift rule net y → IsPartLift rule net (raise_at y i)
  step_part y i l (none, short) part =
      let step = raise_at_step net.nodes y i in
      record {
        pads = λ j v m e. let s = step.others j m (pad_is_other rule of_rule net wf i j v none e) in omega (arith, ints, s, part.pads j v m e);
        not_below = λ j m. elim (cases_eq j i) [ inl e ↦ omega (arith, ints, ap (raise_at y i) e, step.raised, part.not_below i l) | inr ne ↦ omega (arith, ints, step.others j m ne, part.not_below j m) ];
        limited = λ j m e. elim (cases_eq j i) [
          | inl same ↦
              let h : outflow rule net.resistors (raise_at y i) i ≤ℤ pos (allowed net i) = omega (arith, ints, step_at_most rule of_rule net wf y (raise_at y i) i step, short) in
              subst (λ (k : ℕ). outflow rule net.resistors (raise_at y i) k ≤ℤ pos (allowed net k)) (sym same) h
          | inr ne ↦ omega (arith, ints, others_no_more rule of_rule net wf y (raise_at y i) i step j m ne, part.limited j m e)
        ];
        below_all = λ z lift j m. elim (cases_eq j i) [
          | inl same ↦
              let h : (y i +ℤ pos 1) ≤ℤ z i = is_below rule of_rule net.nodes y z i (λ k n o. part.below_all z lift k n) net.resistors wf.each_resistor (omega (arith, ints, short, lift.sums i l none)) in
              omega (arith, ints, h, step.raised, ap (raise_at y i) same, ap z same)
          | inr ne ↦ omega (arith, ints, step.others j m ne, part.below_all z lift j m)
        ];
      }

  module _ (R reach K : ℕ) (each_at_most : All (λ r. r.ohms ≤ℤ pos R) net.resistors) (tells : TellsBelow rule reach) (room : over_nodes net.nodes (allowed net) + length net.resistors < reach) (supplied : (i : ℕ) → i < net.nodes → IsWithin net K i) where
    part_bound : (y : ℕ → ℤ) → IsPartLift rule net y → (i : ℕ) → i < net.nodes → y i ≤ℤ pos (K * (R * reach))
    part_bound y part i l = within_bound rule of_rule net wf R reach each_at_most tells room y part K i l (supplied i l)

    sum_bound : (y : ℕ → ℤ) → IsPartLift rule net y → sum_to net.nodes y ≤ℤ pos (net.nodes * (K * (R * reach)))
    sum_bound y part =
        let le = sum_to_le net.nodes y (λ i. pos (K * (R * reach))) (part_bound y part) in
        omega (arith, ints, le, sum_to_pos net.nodes (λ i. K * (R * reach)), over_same net.nodes (K * (R * reach)))

    raise_all : (fuel : ℕ) (y : ℕ → ℤ) → IsPartLift rule net y → pos (net.nodes * (K * (R * reach))) <ℤ (sum_to net.nodes y +ℤ pos fuel) → (z : ℕ → ℤ) × IsPartLift rule net z × ((i : ℕ) → i < net.nodes → IsEnough z i)
    raise_all zero y part h = absurd (omega (arith, ints, sum_bound y part, h))
    raise_all (suc fuel) y part h = elim (find_first (IsShort y) (IsEnough y) (λ i. short_or_enough y i (pad_at net i) refl) net.nodes) [
      | inl (i, l, short) ↦ raise_all fuel (raise_at y i) (step_part y i l short part) (omega (arith, ints, h, sum_raised net.nodes y i l))
      | inr enough ↦ (y, part, enough)
    ]

    -- There is a least lift, and it is nowhere above K times the greatest resistance times the reach.
    pub least_lift : (y : ℕ → ℤ) × IsLift rule net y × ((i : ℕ) → i < net.nodes → y i ≤ℤ pos (K * (R * reach))) × ((z : ℕ → ℤ) → IsLift rule net z → (i : ℕ) → i < net.nodes → y i ≤ℤ z i)
    least_lift =
        let made = raise_all (suc (net.nodes * (K * (R * reach)))) (λ j. pos 0) start_part (omega (arith, ints, sum_to_pos net.nodes (λ i. 0), over_same net.nodes 0)) in
        let y = made.0 in
        let part : IsPartLift rule net y = made.1 in
        (y, record { pads = part.pads; not_below = part.not_below; sums = made.2 }, part_bound y part, part.below_all)
