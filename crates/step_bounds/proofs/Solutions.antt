-- A stepped solution lies between the lists of a step certificate: at each step it is a solution of the step's network, whose memory
-- nodes have the potentials of the step before.
use Rattle.std.proofs.Common.{◌≡◌, ◌≢◌, ℕ, zero, suc, ◌+◌, ◌-◌, ◌<◌, ◌≤◌, inl, inr, ℤ, pos, neg_ℤ, ◌+ℤ◌, ◌-ℤ◌, ◌*ℤ◌, ◌≤ℤ◌, arith, refl, sym, ap, subst, ◌∙◌, List, [], ◌∷◌, ◌++◌, length, length-append, get_or, map, All, Option, Some, None, Bool, true, false, cond, eqb, eqb-true, ltb}
use Rattle.std.proofs.lemmas.Int.{ints}
use Rattle.std.proofs.lemmas.Bool.{cases_lt}
use Rattle.std.proofs.lemmas.Bool.Decides.{nat_tests}
use Rattle.std.proofs.lemmas.List.{get_or_append_left, get_or-append_right}
use Rattle.std.proofs.lemmas.List.Elements.{All-head, All-tail, All-filter}
use Rattle.grid_net.specs.declared.part.Resistor.{Resistor}
use Rattle.grid_net.specs.declared.part.LoadRange.{LoadRange}
use Rattle.grid_net.specs.Network.{Network, IsNetwork, IsResistorOf, entry_of, load_range, pad_at, net_current, taken_by, low_load, high_load}
use Rattle.grid_net.specs.Limits.{IsBuilt}
use Rattle.grid_net.specs.Solution.{IsSolution}
use Rattle.grid_net.specs.Certificate.{HighHolds, LowHolds}
use Rattle.grid_net.specs.Laws.Loads.{load_in_order}
use Rattle.bound_check.specs.OneSided.{MeetsLaws, PadsAtMost, PadsAtLeast}
use Rattle.step_bounds.specs.declared.companion.Companion.{Companion}
use Rattle.wave_file.specs.declared.record.Change.{Change}
use Rattle.step_bounds.specs.Changes.{range_after, changes_until, load_at, step_loads, AreChanges}
use Rattle.step_bounds.specs.StepNetwork.{has_memory, nodes_with_memory, memory_of, memory_resistor, step_resistors, network_over}
use Rattle.step_bounds.specs.StepCertificate.{list_at, with_memory, IsHighBound, IsLowBound, IsStepCertificate}
use Rattle.step_bounds.specs.SteppedSolution.{charging, IsStepSolution, IsSteppedSolution}
use Rattle.step_bounds.specs.inside.Extension.{AreCompanions}
use Rattle.step_bounds.specs.inside.Loads.{AreLoads}
use Rattle.step_bounds.proofs.Memory.{stands}
use Rattle.step_bounds.proofs.Pads.{memory_for}
use Rattle.step_bounds.proofs.Resistors.{KeptPads, LoadsAdd, counts_there, is_network, own_pads, memory_pads, low_is, high_is, low_none, high_none}

-- ---- the currents at a node
currents_same : (rs : List Resistor) (c d : ℕ → ℤ) (i : ℕ) → ((j : ℕ) → j < length rs → c j ≡ d j) → net_current rs c i ≡ net_current rs d i
currents_same [] c d i same = refl
currents_same (r ∷ rs) c d i same =
    let first = ap (λ (z : ℤ). taken_by r i z (neg_ℤ z)) (same 0 (omega arith)) in
    let rest = currents_same rs (λ k. c (suc k)) (λ k. d (suc k)) i (λ j l. same (suc j) (omega arith)) in
    omega (arith, ints, first, rest)

currents_of_two : (rs ms : List Resistor) (c : ℕ → ℤ) (i : ℕ)
    → net_current (rs ++ ms) c i ≡ net_current rs c i +ℤ net_current ms (λ j. c (length rs + j)) i
currents_of_two [] ms c i =
    let same = currents_same ms c (λ j. c (0 + j)) i (λ j l. ap c (omega arith)) in omega (arith, ints, same)
currents_of_two (r ∷ rs) ms c i =
    let rest = currents_of_two rs ms (λ k. c (suc k)) i in
    let same = currents_same ms (λ j. c (suc (length rs + j))) (λ j. c (suc (length rs) + j)) i (λ j l. ap c (omega arith)) in
    omega (arith, ints, rest, same)

apart : (a b : ℕ) (x : ℤ) → a ≢ b → cond (eqb a b) x (pos 0) ≡ pos 0
apart a b x ne = by_test (eqb a b) refl
  where
    by_test : (t : Bool) → eqb a b ≡ t → cond t x (pos 0) ≡ pos 0
    by_test true e = absurd (ne (eqb-true a b e))
    by_test false e = refl

-- At a node that is no far end, the currents over the resistors of capacitors are those into the capacitors.
charging_is : (number : ℕ → ℕ) (xs : List Companion) (k : ℕ → ℤ) (i : ℕ) → ((j : ℕ) → number j ≢ i)
    → net_current (map (λ x. record { a = x.node; b = number x.node; ohms = x.ohms }) xs) k i ≡ charging xs k i
charging_is number [] k i far = refl
charging_is number (x ∷ xs) k i far =
    let far_end = apart (number x.node) i (neg_ℤ (k 0)) (far x.node) in
    let rest = charging_is number xs (λ j. k (suc j)) i far in
    omega (arith, ints, far_end, rest)

pub at_map : {X Y : Type 0} (f : X → Y) (xs : List X) (k : ℕ) (d : X) (e : Y) → k < length xs → get_or (map f xs) k e ≡ f (get_or xs k d)
at_map f [] k d e l = absurd (omega arith)
at_map f (x ∷ xs) zero d e l = refl
at_map f (x ∷ xs) (suc k) d e l = at_map f xs k d e (omega arith)

length_of_map : {X Y : Type 0} (f : X → Y) (xs : List X) → length (map f xs) ≡ length xs
length_of_map f [] = refl
length_of_map f (x ∷ xs) = ap suc (length_of_map f xs)

-- One function up to a number, and another from there on.
pub joined : ℕ → (ℕ → ℤ) → (ℕ → ℤ) → ℕ → ℤ
joined n f g i = cond (ltb i n) (f i) (g (i - n))

before_end : (n : ℕ) (f g : ℕ → ℤ) (i : ℕ) → i < n → joined n f g i ≡ f i
unfolding joined
before_end n f g i l = ap (λ (b : Bool). cond b (f i) (g (i - n))) (yes i n l)
  where
    yes : (i n : ℕ) → i < n → ltb i n ≡ true
    yes i n l = grind (arith, nat_tests)

behind_end : (n : ℕ) (f g : ℕ → ℤ) (i : ℕ) → n ≤ i → joined n f g i ≡ g (i - n)
unfolding joined
behind_end n f g i l = ap (λ (b : Bool). cond b (f i) (g (i - n))) (no i n l)
  where
    no : (i n : ℕ) → n ≤ i → ltb i n ≡ false
    no i n l = grind (arith, nat_tests)

-- ---- the laws of a certificate
-- What they tell of potentials.
abbrev pub AtMostHigh : Type 0
AtMostHigh = (net : Network) (high : ℕ → ℤ) (q : ℕ) (p c drawn : ℕ → ℤ) → IsNetwork net → HighHolds net high
    → MeetsLaws net q p c drawn → PadsAtMost net q p → (i : ℕ) → i < net.nodes → p i ≤ℤ (pos q *ℤ high i)

abbrev pub AtLeastLow : Type 0
AtLeastLow = (net : Network) (low : ℕ → ℤ) (q : ℕ) (p c drawn : ℕ → ℤ) → IsNetwork net → LowHolds net low
    → MeetsLaws net q p c drawn → PadsAtLeast net q p → (i : ℕ) → i < net.nodes → (pos q *ℤ low i) ≤ℤ p i

abbrev pub SolutionsBelow : Type 0
SolutionsBelow = (net : Network) (high : ℕ → ℤ) (q : ℕ) (p c drawn : ℕ → ℤ) → IsNetwork net → HighHolds net high
    → IsSolution net q p c drawn → (i : ℕ) → i < net.nodes → p i ≤ℤ (pos q *ℤ high i)

abbrev pub SolutionsAbove : Type 0
SolutionsAbove = (net : Network) (low : ℕ → ℤ) (q : ℕ) (p c drawn : ℕ → ℤ) → IsNetwork net → LowHolds net low
    → IsSolution net q p c drawn → (i : ℕ) → i < net.nodes → (pos q *ℤ low i) ≤ℤ p i

-- ---- one step
module _ (kept : KeptPads) (add : LoadsAdd) (net : Network) (built : IsBuilt net) (xs : List Companion) (fit : AreCompanions net xs)
    (changes : List Change) (t : ℕ) (are : AreLoads net.nodes (step_loads net changes t))
    (is_range : (i : ℕ) → are.range i ≡ load_at net changes t i) (v : List ℤ) (q : ℕ) (positive : 1 ≤ q)
    (before p c k l : ℕ → ℤ) (sol : IsStepSolution net xs changes t q before p c k l) where
  abbrev over : Network
  over = network_over net xs (step_loads net changes t) v

  abbrev memories : List ℕ
  memories = nodes_with_memory xs net.nodes

  abbrev branches : ℕ
  branches = length net.resistors

  pub potential : ℕ → ℤ
  potential = joined net.nodes p (λ r. before (get_or memories r 0))

  pub current : ℕ → ℤ
  current = joined branches c k

  pub drawn : ℕ → ℤ
  drawn = joined net.nodes l (λ r. pos 0)

  pub own_potential : (i : ℕ) → i < net.nodes → potential i ≡ p i
  unfolding potential
  own_potential i h = before_end net.nodes p (λ r. before (get_or memories r 0)) i h

  memory_potential : (i : ℕ) → i < net.nodes → has_memory xs i ≡ true → potential (memory_of xs net.nodes i) ≡ before i
  unfolding potential
  memory_potential i h e =
      let s = stands (has_memory xs) net.nodes i h e in
      let place : memory_of xs net.nodes i - net.nodes ≡ length (nodes_with_memory xs i) = omega arith in
      behind_end net.nodes p (λ r. before (get_or memories r 0)) (memory_of xs net.nodes i) (omega arith)
      ∙ ap (λ (r : ℕ). before (get_or memories r 0)) place
      ∙ ap before s.1

  own_ohm : (j : ℕ) (d : Resistor) → j < branches
      → let r = get_or (step_resistors net xs) j d in potential r.a -ℤ potential r.b ≡ r.ohms *ℤ current j
  unfolding current
  own_ohm j d h =
      let r = get_or net.resistors j d in
      let same : get_or (step_resistors net xs) j d ≡ r =
      get_or_append_left net.resistors (map (memory_resistor xs net.nodes) xs) d j h in
      let of_r : IsResistorOf net.nodes r = built.is_network.each_resistor j d h in
      let law : potential r.a -ℤ potential r.b ≡ r.ohms *ℤ current j =
      ap (λ (z : ℤ). z -ℤ potential r.b) (own_potential r.a of_r.a_is_node)
      ∙ ap (λ (z : ℤ). p r.a -ℤ z) (own_potential r.b of_r.b_is_node)
      ∙ sol.ohm j d h
      ∙ ap (λ (z : ℤ). r.ohms *ℤ z) (sym (before_end branches c k j h)) in
      let P : Resistor → Type 0 = λ s. potential s.a -ℤ potential s.b ≡ s.ohms *ℤ current j in
      subst P (sym same) law

  memory_ohm : (j : ℕ) (d : Resistor) → branches ≤ j → j < length (step_resistors net xs)
      → let r = get_or (step_resistors net xs) j d in potential r.a -ℤ potential r.b ≡ r.ohms *ℤ current j
  unfolding current
  memory_ohm j d g h =
      let ms = map (memory_resistor xs net.nodes) xs in
      let m : ℕ = j - branches in
      let in_list : m < length xs = omega (arith, g, h, length-append net.resistors ms, length_of_map (memory_resistor xs net.nodes) xs) in
      let e : Companion = record { node = 0; ohms = pos 0 } in
      let x = get_or xs m e in
      let same : get_or (step_resistors net xs) j d ≡ memory_resistor xs net.nodes x =
      get_or-append_right net.resistors ms branches j d refl g ∙ at_map (memory_resistor xs net.nodes) xs m e d in_list in
      let at_node : x.node < net.nodes = (fit m e in_list).0 in
      let law : potential x.node -ℤ potential (memory_of xs net.nodes x.node) ≡ x.ohms *ℤ current j =
      ap (λ (z : ℤ). z -ℤ potential (memory_of xs net.nodes x.node)) (own_potential x.node at_node)
      ∙ ap (λ (z : ℤ). p x.node -ℤ z) (memory_potential x.node at_node (counts_there xs m e in_list))
      ∙ sol.euler m e in_list
      ∙ ap (λ (z : ℤ). x.ohms *ℤ z) (sym (behind_end branches c k j g)) in
      let P : Resistor → Type 0 = λ s. potential s.a -ℤ potential s.b ≡ s.ohms *ℤ current j in
      subst P (sym same) law

  in_range : (i : ℕ) → i < over.nodes → ((pos q *ℤ low_load over i) ≤ℤ drawn i) × (drawn i ≤ℤ (pos q *ℤ high_load over i))
  unfolding drawn
  in_range i h = elim (cases_lt i net.nodes) [
    | inl lt ↦ (
        let low = ap (λ (z : ℤ). pos q *ℤ z) (low_is net built xs fit (step_loads net changes t) are v add i lt ∙ ap (λ (r : LoadRange). r.low) (is_range i)) in
        let high = ap (λ (z : ℤ). pos q *ℤ z) (high_is net built xs fit (step_loads net changes t) are v add i lt ∙ ap (λ (r : LoadRange). r.high) (is_range i)) in
        let here = before_end net.nodes l (λ r. pos 0) i lt in
        let d = sol.drawn i lt in
        (omega (arith, ints, low, here, d.0), omega (arith, ints, high, here, d.1)))
    | inr ge ↦ (
        let low = ap (λ (z : ℤ). pos q *ℤ z) (low_none net built xs fit (step_loads net changes t) are v add i ge h) in
        let high = ap (λ (z : ℤ). pos q *ℤ z) (high_none net built xs fit (step_loads net changes t) are v add i ge h) in
        let here = behind_end net.nodes l (λ r. pos 0) i ge in
        let none : pos q *ℤ pos 0 ≡ pos 0 = omega (arith, ints) in
        (omega (arith, ints, low, here, none), omega (arith, ints, high, here, none)))
  ]

  no_some : (z : ℤ) (o : Option ℤ) → o ≡ None → o ≡ Some z → ⊥
  no_some z o e f = cc

  same_some : (y z : ℤ) (o : Option ℤ) → o ≡ Some y → o ≡ Some z → y ≡ z
  same_some y z o e f = cc

  at_free_nodes : (i : ℕ) → i < over.nodes → pad_at over i ≡ None → net_current over.resistors current i ≡ neg_ℤ (drawn i)
  unfolding current drawn
  at_free_nodes i h none = elim (cases_lt i net.nodes) [
    | inl lt ↦ (
        let ms = map (memory_resistor xs net.nodes) xs in
        let free : pad_at net i ≡ None = sym (own_pads net built xs fit (step_loads net changes t) are v kept i lt) ∙ none in
        let split = currents_of_two net.resistors ms current i in
        let own = currents_same net.resistors current c i (λ j m. before_end branches c k j m) in
        let into = currents_same ms (λ j. current (branches + j)) k i
        (λ j m. behind_end branches c k (branches + j) (omega arith) ∙ ap k (omega arith)) in
        let charge = charging_is (memory_of xs net.nodes) xs k i (λ j e. omega (arith, e, lt)) in
        let law = sol.kirchhoff i lt free in
        let here = before_end net.nodes l (λ r. pos 0) i lt in
        omega (arith, ints, split, own, into, charge, law, here))
    | inr ge ↦ (
        let m = memory_for net built xs v i ge h in
        absurd (no_some (entry_of v m.0) (pad_at over i) none
        (ap (pad_at over) (sym m.3) ∙ memory_pads net built xs fit (step_loads net changes t) are v kept m.0 m.1 m.2)))
  ]

  -- It meets the laws in the step's network.
  pub meets : MeetsLaws over q potential current drawn
  meets = record {
    denominator = positive;
    ohm = λ j d h. (elim (cases_lt j branches) [ inl lt ↦ own_ohm j d lt | inr ge ↦ memory_ohm j d ge h ]);
    drawn = in_range;
    kirchhoff = at_free_nodes;
  }

  -- Its pads are bounded as the potentials before are.
  pub at_most : ((i : ℕ) → i < net.nodes → before i ≤ℤ (pos q *ℤ entry_of v i)) → PadsAtMost over q potential
  at_most below i z h pad = elim (cases_lt i net.nodes) [
    | inl lt ↦ (
        let own : pad_at net i ≡ Some z = sym (own_pads net built xs fit (step_loads net changes t) are v kept i lt) ∙ pad in
        let law = sol.pads i z lt own in
        let here = own_potential i lt in
        omega (arith, ints, law, here))
    | inr ge ↦ (
        let m = memory_for net built xs v i ge h in
        let volts : entry_of v m.0 ≡ z = same_some (entry_of v m.0) z (pad_at over i)
        (ap (pad_at over) (sym m.3) ∙ memory_pads net built xs fit (step_loads net changes t) are v kept m.0 m.1 m.2) pad in
        let here : potential i ≡ before m.0 = ap potential (sym m.3) ∙ memory_potential m.0 m.1 m.2 in
        let times = ap (λ (y : ℤ). pos q *ℤ y) volts in
        omega (arith, ints, here, below m.0 m.1, times))
  ]

  pub at_least : ((i : ℕ) → i < net.nodes → (pos q *ℤ entry_of v i) ≤ℤ before i) → PadsAtLeast over q potential
  at_least above i z h pad = elim (cases_lt i net.nodes) [
    | inl lt ↦ (
        let own : pad_at net i ≡ Some z = sym (own_pads net built xs fit (step_loads net changes t) are v kept i lt) ∙ pad in
        let law = sol.pads i z lt own in
        let here = own_potential i lt in
        omega (arith, ints, law, here))
    | inr ge ↦ (
        let m = memory_for net built xs v i ge h in
        let volts : entry_of v m.0 ≡ z = same_some (entry_of v m.0) z (pad_at over i)
        (ap (pad_at over) (sym m.3) ∙ memory_pads net built xs fit (step_loads net changes t) are v kept m.0 m.1 m.2) pad in
        let here : potential i ≡ before m.0 = ap potential (sym m.3) ∙ memory_potential m.0 m.1 m.2 in
        let times = ap (λ (y : ℤ). pos q *ℤ y) volts in
        omega (arith, ints, here, above m.0 m.1, times))
  ]

  own_entry : (x : List ℤ) (i : ℕ) → length x ≡ net.nodes → i < net.nodes → entry_of (with_memory net xs v x) i ≡ entry_of x i
  own_entry x i size h = get_or_append_left x (map (entry_of v) (nodes_with_memory xs net.nodes)) (pos 0) i (omega (arith, size, h))

  -- So a list that bounds the step's network bounds the potentials, where those before are bounded.
  pub step_below : AtMostHigh → (now : List ℤ) → length now ≡ net.nodes → HighHolds over (entry_of (with_memory net xs v now))
      → ((i : ℕ) → i < net.nodes → before i ≤ℤ (pos q *ℤ entry_of v i)) → (i : ℕ) → i < net.nodes → p i ≤ℤ (pos q *ℤ entry_of now i)
  step_below most now size holds below i m =
      let network = is_network net built xs fit (step_loads net changes t) are v in
      let up = most over (entry_of (with_memory net xs v now)) q potential current drawn network holds meets (at_most below) i (omega arith) in
      let mine = own_potential i m in
      let entry = ap (λ (z : ℤ). pos q *ℤ z) (own_entry now i size m) in
      omega (arith, ints, up, mine, entry)

  pub step_above : AtLeastLow → (now : List ℤ) → length now ≡ net.nodes → LowHolds over (entry_of (with_memory net xs v now))
      → ((i : ℕ) → i < net.nodes → (pos q *ℤ entry_of v i) ≤ℤ before i) → (i : ℕ) → i < net.nodes → (pos q *ℤ entry_of now i) ≤ℤ p i
  step_above least now size holds above i m =
      let network = is_network net built xs fit (step_loads net changes t) are v in
      let down = least over (entry_of (with_memory net xs v now)) q potential current drawn network holds meets (at_least above) i (omega arith) in
      let mine = own_potential i m in
      let entry = ap (λ (z : ℤ). pos q *ℤ z) (own_entry now i size m) in
      omega (arith, ints, down, mine, entry)

-- ---- all steps
range_in_order : (cs : List Change) → All (λ c. c.low ≤ℤ c.high) cs → (i : ℕ) (r : LoadRange) → r.low ≤ℤ r.high
    → (range_after cs i r).low ≤ℤ (range_after cs i r).high
range_in_order [] all i r h = h
range_in_order (c ∷ cs) all i r h =
    range_in_order cs (All-tail (λ x. x.low ≤ℤ x.high) c cs all) i (cond (eqb c.node i) (record { low = c.low; high = c.high }) r)
    (by_test (eqb c.node i) (All-head (λ x. x.low ≤ℤ x.high) c cs all))
  where
    by_test : (b : Bool) → c.low ≤ℤ c.high
        → (cond b (record { low = c.low; high = c.high }) r).low ≤ℤ (cond b (record { low = c.low; high = c.high }) r).high
    by_test true k = k
    by_test false k = h

-- The loads of a step are ranges in order.
pub are_loads : (net : Network) → IsBuilt net → (changes : List Change) → AreChanges net changes → (t : ℕ) → AreLoads net.nodes (step_loads net changes t)
are_loads net built changes ok t = record {
  range = load_at net changes t;
  is = refl;
  in_order = λ i l. range_in_order (changes_until changes t)
      (All-filter _ (λ c. c.low ≤ℤ c.high) changes ok.ranges) i (load_range net i) (load_in_order net built.is_network i);
}

range_is : (net : Network) (built : IsBuilt net) (changes : List Change) (ok : AreChanges net changes) (t i : ℕ)
    → (are_loads net built changes ok t).range i ≡ load_at net changes t i
unfolding are_loads
range_is net built changes ok t i = refl

module _ (kept : KeptPads) (add : LoadsAdd) (most : AtMostHigh) (least : AtLeastLow) (below : SolutionsBelow) (above : SolutionsAbove)
    (net : Network) (built : IsBuilt net) (xs : List Companion) (fit : AreCompanions net xs) (changes : List Change)
    (ok : AreChanges net changes) (last : ℕ) (high low : List (List ℤ))
    (cert : IsStepCertificate net xs changes (last + 1) high low) (q : ℕ) (p c k l : ℕ → ℕ → ℤ)
    (sol : IsSteppedSolution net xs changes last q p c k l) where
  under : (t : ℕ) → t ≤ last → (i : ℕ) → i < net.nodes → p t i ≤ℤ (pos q *ℤ entry_of (list_at high t) i)
  under zero h i m = below net (entry_of (list_at high 0)) q (p 0) (c 0) (l 0) built.is_network (cert.certificate (omega arith)).high_half.holds sol.start i m
  under (suc t) h i m =
      let before = list_at high t in
      let now = list_at high (suc t) in
      let bound : IsHighBound net xs (step_loads net changes (suc t)) before now = cert.high_bounds t (omega arith) in
      let size : length now ≡ net.nodes = cert.high_sizes (suc t) [] (omega (arith, cert.high_count)) in
      step_below kept add net built xs fit changes (suc t) (are_loads net built changes ok (suc t)) (range_is net built changes ok (suc t))
      before q sol.start.denominator (p t) (p (suc t)) (c (suc t)) (k (suc t)) (l (suc t)) (sol.later t (omega arith))
      most now size bound.half.holds (under t (omega arith)) i m

  on_top : (t : ℕ) → t ≤ last → (i : ℕ) → i < net.nodes → (pos q *ℤ entry_of (list_at low t) i) ≤ℤ p t i
  on_top zero h i m = above net (entry_of (list_at low 0)) q (p 0) (c 0) (l 0) built.is_network (cert.certificate (omega arith)).low_half.holds sol.start i m
  on_top (suc t) h i m =
      let before = list_at low t in
      let now = list_at low (suc t) in
      let bound : IsLowBound net xs (step_loads net changes (suc t)) before now = cert.low_bounds t (omega arith) in
      let size : length now ≡ net.nodes = cert.low_sizes (suc t) [] (omega (arith, cert.low_count)) in
      step_above kept add net built xs fit changes (suc t) (are_loads net built changes ok (suc t)) (range_is net built changes ok (suc t))
      before q sol.start.denominator (p t) (p (suc t)) (c (suc t)) (k (suc t)) (l (suc t)) (sol.later t (omega arith))
      least now size bound.half.holds (on_top t (omega arith)) i m

  pub between : (t i : ℕ) → t ≤ last → i < net.nodes
      → ((pos q *ℤ entry_of (list_at low t) i) ≤ℤ p t i) × (p t i ≤ℤ (pos q *ℤ entry_of (list_at high t) i))
  between t i h m = (on_top t h i m, under t h i m)
