-- Where nothing is drawn, and all that is held is at 0, all is at 0: the maximum principle. A node whose voltage is the greatest
-- gives current to no neighbour, so each of its neighbours has the same voltage, and so has the pad to which a chain joins it.
use Rattle.std.proofs.Common.{◌≡◌, ℕ, zero, suc, ◌<◌, inl, inr, ℤ, pos, negsuc, neg_ℤ, ◌+ℤ◌, ◌-ℤ◌, ◌*ℤ◌, ◌≤ℤ◌, ◌<ℤ◌, arith, refl, sym, ap, ◌∙◌, List, [], ◌∷◌, length, get_or, All, Option, Some, None, Bool, true, false, cond, eqb, eqb-true, eq-eqb, suc-le-suc}
use Rattle.std.proofs.lemmas.Int.{ints, by_lt_z}
use Rattle.std.proofs.lemmas.List.Elements.{All-head, All-tail}
use Rattle.rounding.specs.Laws.{greatest_of}
use Rattle.grid_net.specs.declared.part.Resistor.{Resistor}
use Rattle.grid_net.specs.Network.{Network, IsNetwork, IsResistorOf, net_current, pad_at}
use Rattle.grid_net.specs.Level.{IsWithin, AreJoined}
use Rattle.solution_exists.specs.Existence.{EachIsSupplied}
use Rattle.solution_exists.specs.Branches.{Branch, AreBranches, over_branches, Balances}
use Rattle.solution_exists.specs.Laws.{at_least_nothing, at_most_nothing, is_nothing}
use Rattle.solution_exists.proofs.Combined.{scaled}

-- ---- what leaves a node of the greatest voltage
-- One resistor, by which of its ends stand at the node, whose voltage is X.
one_leaves : (R A B X C : ℤ) (s t : Bool) → pos 1 ≤ℤ R → A -ℤ B ≡ R *ℤ C → A ≤ℤ X → B ≤ℤ X → (s ≡ true → A ≡ X) → (t ≡ true → B ≡ X)
    → pos 0 ≤ℤ (cond s C (pos 0) +ℤ cond t (neg_ℤ C) (pos 0))
one_leaves R A B X C true true h e a b f g = omega (arith, ints)
one_leaves R A B X C true false h e a b f g =
    let n = at_least_nothing R C h (omega (arith, ints, e, b, f refl)) in omega (arith, ints, n)
one_leaves R A B X C false true h e a b f g =
    let n = at_most_nothing R C h (omega (arith, ints, e, a, g refl)) in omega (arith, ints, n)
one_leaves R A B X C false false h e a b f g = omega (arith, ints)

-- Where nothing leaves over it, its other end has the same voltage.
none_leaves : (R A B X C : ℤ) (s t : Bool) → pos 1 ≤ℤ R → A -ℤ B ≡ R *ℤ C → A ≤ℤ X → B ≤ℤ X → (s ≡ true → A ≡ X) → (t ≡ true → B ≡ X)
    → (cond s C (pos 0) +ℤ cond t (neg_ℤ C) (pos 0)) ≤ℤ pos 0 → (s ≡ true → B ≡ X) × (t ≡ true → A ≡ X)
none_leaves R A B X C true true h e a b f g le = (λ u. g refl, λ u. f refl)
none_leaves R A B X C true false h e a b f g le =
    let n = at_least_nothing R C h (omega (arith, ints, e, b, f refl)) in
    let z : C ≡ pos 0 = omega (arith, ints, n, le) in
    let w = ap (λ y. R *ℤ y) z in (λ u. omega (arith, ints, w, e, f refl), λ u. f refl)
none_leaves R A B X C false true h e a b f g le =
    let n = at_most_nothing R C h (omega (arith, ints, e, a, g refl)) in
    let z : C ≡ pos 0 = omega (arith, ints, n, le) in
    let w = ap (λ y. R *ℤ y) z in (λ u. g refl, λ u. omega (arith, ints, w, e, g refl))
none_leaves R A B X C false false h e a b f g le = (λ u. absurd (let v : ◌≡◌ {A = Bool} false true = u in cc), λ u. absurd (let v : ◌≡◌ {A = Bool} false true = u in cc))

-- Ohm's law at each of a list of resistors.
Ohm : List Resistor → (ℕ → ℤ) → (ℕ → ℤ) → Type 0
Ohm rs p c = (k : ℕ) (d : Resistor) → k < length rs → p (get_or rs k d).a -ℤ p (get_or rs k d).b ≡ (get_or rs k d).ohms *ℤ c k

module _ (n : ℕ) (p : ℕ → ℤ) (i : ℕ) (top : (j : ℕ) → j < n → p j ≤ℤ p i) where
  currents_leave : (rs : List Resistor) (c : ℕ → ℤ) → All (IsResistorOf n) rs → Ohm rs p c → pos 0 ≤ℤ net_current rs c i
  unfolding Ohm
  currents_leave [] c all ohm = omega (arith, ints)
  currents_leave (r ∷ rs) c all ohm =
      let of_r = All-head (IsResistorOf n) r rs all in
      let e : p r.a -ℤ p r.b ≡ r.ohms *ℤ c 0 = ohm 0 r (omega arith) in
      let here = one_leaves r.ohms (p r.a) (p r.b) (p i) (c 0) (eqb r.a i) (eqb r.b i) of_r.resists e (top r.a of_r.a_is_node)
      (top r.b of_r.b_is_node) (λ u. ap p (eqb-true r.a i u)) (λ u. ap p (eqb-true r.b i u)) in
      let rest = currents_leave rs (λ k. c (suc k)) (All-tail (IsResistorOf n) r rs all) (λ k d l. ohm (suc k) d (suc-le-suc l)) in
      omega (arith, ints, here, rest)

  -- Where no more leaves than arrives, each neighbour has the same voltage.
  neighbours : (rs : List Resistor) (c : ℕ → ℤ) → All (IsResistorOf n) rs → Ohm rs p c → net_current rs c i ≤ℤ pos 0
      → (k : ℕ) (d : Resistor) → k < length rs
      → ((get_or rs k d).a ≡ i → p (get_or rs k d).b ≡ p i) × ((get_or rs k d).b ≡ i → p (get_or rs k d).a ≡ p i)
  unfolding Ohm
  neighbours [] c all ohm le k d l = absurd (omega arith)
  neighbours (r ∷ rs) c all ohm le k d l =
      let of_r = All-head (IsResistorOf n) r rs all in
      let e : p r.a -ℤ p r.b ≡ r.ohms *ℤ c 0 = ohm 0 r (omega arith) in
      let at_a = top r.a of_r.a_is_node in
      let at_b = top r.b of_r.b_is_node in
      let more = All-tail (IsResistorOf n) r rs all in
      let laws : Ohm rs p (λ k. c (suc k)) = λ k d l. ohm (suc k) d (suc-le-suc l) in
      let here = one_leaves r.ohms (p r.a) (p r.b) (p i) (c 0) (eqb r.a i) (eqb r.b i) of_r.resists e at_a at_b
      (λ u. ap p (eqb-true r.a i u)) (λ u. ap p (eqb-true r.b i u)) in
      let rest = currents_leave rs (λ k. c (suc k)) more laws in
      by_place k l (none_leaves r.ohms (p r.a) (p r.b) (p i) (c 0) (eqb r.a i) (eqb r.b i) of_r.resists e at_a at_b
      (λ u. ap p (eqb-true r.a i u)) (λ u. ap p (eqb-true r.b i u)) (omega (arith, ints, here, rest, le)))
      (neighbours rs (λ k. c (suc k)) more laws (omega (arith, ints, here, rest, le)))
    where
      by_place : (k : ℕ) → k < length (r ∷ rs) → (eqb r.a i ≡ true → p r.b ≡ p i) × (eqb r.b i ≡ true → p r.a ≡ p i)
          → ((k : ℕ) (d : Resistor) → k < length rs
          → ((get_or rs k d).a ≡ i → p (get_or rs k d).b ≡ p i) × ((get_or rs k d).b ≡ i → p (get_or rs k d).a ≡ p i))
          → ((get_or (r ∷ rs) k d).a ≡ i → p (get_or (r ∷ rs) k d).b ≡ p i)
          × ((get_or (r ∷ rs) k d).b ≡ i → p (get_or (r ∷ rs) k d).a ≡ p i)
      by_place zero l first rest = (λ u. first.0 (eq-eqb r.a i u), λ u. first.1 (eq-eqb r.b i u))
      by_place (suc k) l first rest = rest k d (omega (arith, l))

  -- Nothing comes to it over branches whose voltage is held at 0.
  branches_leave : pos 0 ≤ℤ p i → (xs : List Branch) (h k : ℕ → ℤ) → All (λ (x : Branch). (x.node < n) × (pos 1 ≤ℤ x.ohms)) xs
      → ((j : ℕ) (d : Branch) → j < length xs → p (get_or xs j d).node -ℤ h (get_or xs j d).node ≡ (get_or xs j d).ohms *ℤ k j)
      → All (λ (x : Branch). h x.node ≡ pos 0) xs → pos 0 ≤ℤ over_branches xs k i
  branches_leave above [] h k fit law held = omega (arith, ints)
  branches_leave above (x ∷ xs) h k fit law held =
      let here = All-head (λ (x : Branch). (x.node < n) × (pos 1 ≤ℤ x.ohms)) x xs fit in
      let none = All-head (λ (x : Branch). h x.node ≡ pos 0) x xs held in
      let e : p x.node -ℤ h x.node ≡ x.ohms *ℤ k 0 = law 0 x (omega arith) in
      let rest = branches_leave above xs h (λ j. k (suc j)) (All-tail (λ (x : Branch). (x.node < n) × (pos 1 ≤ℤ x.ohms)) x xs fit)
      (λ j d l. law (suc j) d (suc-le-suc l)) (All-tail (λ (x : Branch). h x.node ≡ pos 0) x xs held) in
      by_test (eqb x.node i) refl none e here.1 rest
    where
      by_test : (s : Bool) → eqb x.node i ≡ s → h x.node ≡ pos 0 → p x.node -ℤ h x.node ≡ x.ohms *ℤ k 0 → pos 1 ≤ℤ x.ohms
          → pos 0 ≤ℤ over_branches xs (λ j. k (suc j)) i
          → pos 0 ≤ℤ (cond s (k 0) (pos 0) +ℤ over_branches xs (λ j. k (suc j)) i)
      by_test true u none e r rest =
          let at = ap p (eqb-true x.node i u) in
          let m = at_least_nothing x.ohms (k 0) r (omega (arith, ints, e, none, at, above)) in omega (arith, ints, m, rest)
      by_test false u none e r rest = omega (arith, ints, rest)

-- ---- the principle
module _ (net : Network) (branches : List Branch) (wf : IsNetwork net) (fit : AreBranches net.nodes branches)
    (supplied : EachIsSupplied net) where
  module _ (q : ℤ) (h l p c k : ℕ → ℤ) (b : Balances net branches q h l p c k) (nothing : q ≡ pos 0)
      (held : All (λ (x : Branch). h x.node ≡ pos 0) branches)
      (drawn : (i : ℕ) → i < net.nodes → pad_at net i ≡ None → l i ≡ pos 0) where
    at_pad : (i : ℕ) (v : ℤ) → i < net.nodes → pad_at net i ≡ Some v → p i ≡ pos 0
    at_pad i v m pad =
        let e = b.pads i v m pad in let f = ap (λ z. z *ℤ v) nothing in omega (arith, ints, e, f)

    -- The neighbours of a node of the greatest voltage, above 0, have that voltage too.
    same_beyond : (i j : ℕ) → i < net.nodes → ((m : ℕ) → m < net.nodes → p m ≤ℤ p i) → pos 0 <ℤ p i → pad_at net i ≡ None
        → AreJoined net i j → p j ≡ p i
    unfolding Ohm
    same_beyond i j m top above free joined =
        let law = b.kirchhoff i m free in
        let none = drawn i m free in
        let out = branches_leave net.nodes p i top (omega (arith, ints, above)) branches h k fit b.branch held in
        let d : Resistor = record { a = 0; b = 0; ohms = pos 1 } in
        let near = neighbours net.nodes p i top net.resistors c wf.each_resistor b.ohm (omega (arith, ints, law, none, out))
        joined.place d joined.in_list in
        elim (joined.ends d) [
          | inl e ↦ ap p (sym e.1) ∙ near.0 e.0
          | inr e ↦ ap p (sym e.0) ∙ near.1 e.1
        ]

    -- Along a chain to a pad the voltage stays the greatest.
    no_chain : (g : ℕ) (i : ℕ) → i < net.nodes → ((j : ℕ) → j < net.nodes → p j ≤ℤ p i) → pos 0 <ℤ p i → IsWithin net g i → ⊥
    no_chain zero i m top above way = let e = at_pad i way.0 m way.1 in omega (arith, ints, e, above)
    no_chain (suc g) i m top above (inl way) = no_chain g i m top above way
    no_chain (suc g) i m top above (inr way) =
        by_pad (pad_at net i) refl (λ same. no_chain g way.0 way.1 (λ j n. (let t = top j n in omega (arith, ints, t, same)))
        (omega (arith, ints, above, same)) way.3)
      where
        by_pad : (o : Option ℤ) → pad_at net i ≡ o → (p way.0 ≡ p i → ⊥) → ⊥
        by_pad (Some v) e rest = let f = at_pad i v m e in omega (arith, ints, f, above)
        by_pad None e rest = rest (same_beyond i way.0 m top above e way.2)

    pub none_above : (i : ℕ) → i < net.nodes → p i ≤ℤ pos 0
    none_above i m =
        let g = greatest_of p net.nodes (omega arith) in
        by_lt_z (pos 0) (p g.0)
        (λ above. absurd (let way = supplied g.0 g.1 in no_chain way.0 g.0 g.1 g.2 above way.1))
        (λ le. omega (arith, ints, le, g.2 i m))

  -- All is at 0.
  module _ (q : ℤ) (h l p c k : ℕ → ℤ) (b : Balances net branches q h l p c k) (nothing : q ≡ pos 0)
      (held : All (λ (x : Branch). h x.node ≡ pos 0) branches)
      (drawn : (i : ℕ) → i < net.nodes → pad_at net i ≡ None → l i ≡ pos 0) where
    pub potential_nothing : (i : ℕ) → i < net.nodes → p i ≡ pos 0
    potential_nothing i m =
        let above = none_above q h l p c k b nothing held drawn i m in
        let turned = scaled net branches (negsuc 0) q h l p c k b in
        let below = none_above (negsuc 0 *ℤ q) (λ j. negsuc 0 *ℤ h j) (λ j. negsuc 0 *ℤ l j) (λ j. negsuc 0 *ℤ p j)
        (λ j. negsuc 0 *ℤ c j) (λ j. negsuc 0 *ℤ k j) turned (omega (arith, ints, nothing))
        (λ j d n. (let e = held j d n in omega (arith, ints, e)))
        (λ j n free. (let e = drawn j n free in omega (arith, ints, e))) i m in
        omega (arith, ints, above, below)

    pub current_nothing : (j : ℕ) → j < length net.resistors → c j ≡ pos 0
    current_nothing j m =
        let d : Resistor = record { a = 0; b = 0; ohms = pos 1 } in
        let r = get_or net.resistors j d in
        let of_r : IsResistorOf net.nodes r = wf.each_resistor j d m in
        let e = potential_nothing r.a of_r.a_is_node in
        let f = potential_nothing r.b of_r.b_is_node in
        let law = b.ohm j d m in
        is_nothing r.ohms (c j) of_r.resists (omega (arith, ints, e, f, law))

    pub branch_nothing : (j : ℕ) → j < length branches → k j ≡ pos 0
    branch_nothing j m =
        let d : Branch = record { node = 0; ohms = pos 1 } in
        let x = get_or branches j d in
        let of_x : (x.node < net.nodes) × (pos 1 ≤ℤ x.ohms) = fit j d m in
        let e = potential_nothing x.node of_x.0 in
        let f : h x.node ≡ pos 0 = held j d m in
        let law = b.branch j d m in
        is_nothing x.ohms (k j) of_x.1 (omega (arith, ints, e, f, law))
