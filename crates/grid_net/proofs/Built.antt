-- What holds of the network of lists that keep the limits.
use Rattle.std.proofs.Common.{◌≡◌, ℕ, zero, suc, ◌+◌, ◌<◌, ◌≤◌, inl, inr, ℤ, pos, ◌+ℤ◌, ◌≤ℤ◌, arith, refl, sym, ap, ◌∙◌, subst, List, [], ◌∷◌, length, get_or, map, All, Option, Some, None, Bool, true, false, cond, eqb, eqb-true, eq-eqb, max, unsigned_abs, add-one}
use Rattle.std.proofs.lemmas.Int.{ints}
use Rattle.std.proofs.lemmas.Bool.{cases_eq}
use Rattle.std.proofs.lemmas.List.Elements.{All-head, All-tail, All-nil, All-cons}
use Rattle.std.specs.Option.{option_map}
use Rattle.std.specs.List.{range_with_len, filter_map, cons_option}
use Rattle.std.specs.List.Sorted.{IsStrictlyIncreasing}
use Rattle.std.proofs.lemmas.List.FromFn.{get_or-map-range_with_len, length-map-range_with_len}
use Rattle.grid_net.specs.declared.part.Resistor.{Resistor}
use Rattle.grid_net.specs.declared.part.Pad.{Pad}
use Rattle.grid_net.specs.declared.part.Load.{Load}
use Rattle.grid_net.specs.declared.part.LoadRange.{LoadRange}
use Rattle.grid_net.specs.Network.{Network, first_pad, pad_at, load_size, over_nodes, total_load}
use Rattle.grid_net.specs.Limits.{IsInLimit, IsBuilt, greatest_voltage}
use Rattle.grid_net.specs.Adding.{end_sum, LoadsAddUp, given_load}
use Rattle.grid_net.specs.Building.{KeepsLimits, load_of, pad_of, network_of}
use Rattle.grid_net.proofs.Sums.{over_le, over_le_below, over_add, over_same, once}
use Rattle.grid_net.proofs.Tables.{table_is_map, map_tells}
use Rattle.grid_net.specs.Laws.Pads.{first_is_of_list}

-- ---- the pads in the order of nodes
-- Each number is at least the one before it and 1, and the first at least a.
Rises : ℕ → List ℕ → Type 0
Rises a [] = Unit {0}
Rises a (x ∷ xs) = (a ≤ x) × Rises (suc x) xs

rises_from : (a b : ℕ) (xs : List ℕ) → a ≤ b → Rises b xs → Rises a xs
unfolding Rises
rises_from a b [] h r = tt
rises_from a b (x ∷ xs) h r = (omega (arith, r.0), r.1)

rising_next : (a : ℕ) (xs : List ℕ) → Rises a xs → (k : ℕ) → suc k < length xs → get_or xs k 0 < get_or xs (suc k) 0
unfolding Rises
rising_next a [] r k l = absurd (omega arith)
rising_next a (x ∷ []) r k l = absurd (omega arith)
rising_next a (x ∷ y ∷ ys) r zero l = r.1.0
rising_next a (x ∷ y ∷ ys) r (suc k) l = rising_next (suc x) (y ∷ ys) r.1 k (omega arith)

rising_list : (a : ℕ) (xs : List ℕ) → Rises a xs → IsStrictlyIncreasing xs
rising_list a xs r = λ k l. subst (λ (m : ℕ). get_or xs k 0 < get_or xs m 0) (sym (add-one k)) (rising_next a xs r k (omega arith))

module _ (ps : List Pad) where
  abbrev from : ℕ → ℕ → List Pad
  from a m = filter_map (pad_of ps) (range_with_len a m)

  abbrev node_of : Pad → ℕ
  node_of p = p.node

  abbrev front : ℕ → Option ℤ → List Pad → List Pad
  front a o rest = cons_option (option_map (λ v. record { node = a; volts = v }) o) rest

  nodes_rise : (a m : ℕ) → Rises a (map node_of (from a m))
  unfolding Rises
  nodes_rise a zero = tt
  nodes_rise a (suc m) = by_pad (first_pad ps a) (from (a + 1) m) (nodes_rise (a + 1) m)
    where
      by_pad : (o : Option ℤ) (rest : List Pad) → Rises (a + 1) (map node_of rest) → Rises a (map node_of (front a o rest))
      by_pad None rest r = rises_from a (a + 1) (map node_of rest) (omega arith) r
      by_pad (Some v) rest r = (omega arith, rises_from (suc a) (a + 1) (map node_of rest) (omega arith) r)

  pub nodes_in_order : (n : ℕ) → IsStrictlyIncreasing (map node_of (from 0 n))
  nodes_in_order n = rising_list 0 (map node_of (from 0 n)) (nodes_rise 0 n)

  -- What holds of each first pad holds of each pad in order.
  pub each_first : (P : Pad → Type 0) (n a m : ℕ) → a + m ≤ n → ((i : ℕ) (v : ℤ) → i < n → first_pad ps i ≡ Some v → P (record { node = i; volts = v })) → All P (from a m)
  each_first P n a zero h each = All-nil P
  each_first P n a (suc m) h each = by_pad (first_pad ps a) (from (a + 1) m) refl (each_first P n (a + 1) m (omega arith) each)
    where
      by_pad : (o : Option ℤ) (rest : List Pad) → first_pad ps a ≡ o → All P rest → All P (front a o rest)
      by_pad None rest e all = all
      by_pad (Some v) rest e all = All-cons P (record { node = a; volts = v }) rest (each a v (omega arith) e) all

  none_before : (a m i : ℕ) → i < a → first_pad (from a m) i ≡ None
  none_before a zero i l = refl
  none_before a (suc m) i l = by_pad (first_pad ps a) (from (a + 1) m) (none_before (a + 1) m i (omega arith))
    where
      skip : (b : Bool) (v : ℤ) (o : Option ℤ) → (b ≡ true → ⊥) → o ≡ None → cond b (Some v) o ≡ None
      skip true v o h e = absurd (h refl)
      skip false v o h e = e

      by_pad : (o : Option ℤ) (rest : List Pad) → first_pad rest i ≡ None → first_pad (front a o rest) i ≡ None
      by_pad None rest e = e
      by_pad (Some v) rest e = skip (eqb a i) v (first_pad rest i) (λ t. let s = eqb-true a i t in omega arith) e

  first_from : (a m i : ℕ) → a ≤ i → i < a + m → first_pad (from a m) i ≡ first_pad ps i
  first_from a zero i h l = absurd (omega arith)
  first_from a (suc m) i h l = elim (cases_eq a i) [
    | inl e ↦ at_it (first_pad ps a) (from (a + 1) m) e refl (none_before (a + 1) m i (omega arith))
    | inr ne ↦ after_it (first_pad ps a) (from (a + 1) m) (eqb a i) (λ t. ne (eqb-true a i t)) (first_from (a + 1) m i (omega arith) (omega arith))
  ]
    where
      at_it : (o : Option ℤ) (rest : List Pad) → a ≡ i → first_pad ps a ≡ o → first_pad rest i ≡ None → first_pad (front a o rest) i ≡ first_pad ps i
      at_it None rest e s none = none ∙ sym s ∙ ap (first_pad ps) e
      at_it (Some v) rest e s none = ap (λ b. cond b (Some v) (first_pad rest i)) (eq-eqb a i e) ∙ sym s ∙ ap (first_pad ps) e

      after_it : (o : Option ℤ) (rest : List Pad) (b : Bool) → (eqb a i ≡ true → ⊥) → first_pad rest i ≡ first_pad ps i → first_pad (front a o rest) i ≡ first_pad ps i
      after_it None rest b ne e = e
      after_it (Some v) rest b ne e = skip (eqb a i) ne
        where
          skip : (t : Bool) → (t ≡ true → ⊥) → cond t (Some v) (first_pad rest i) ≡ first_pad ps i
          skip true h = absurd (h refl)
          skip false h = e

  -- The pad of a node is the first that was handed in for it.
  pub kept_pad : (n i : ℕ) → i < n → first_pad (from 0 n) i ≡ first_pad ps i
  kept_pad n i l = first_from 0 n i (omega arith) (omega arith)

-- ---- the sums of the loads
abbrev IsRange : Load → Type 0
IsRange l = l.low ≤ℤ l.high

part_in_order : (b : Bool) (u v : ℤ) → u ≤ℤ v → cond b u (pos 0) ≤ℤ cond b v (pos 0)
part_in_order true u v h = h
part_in_order false u v h = omega (arith, ints)

-- The sum of low ends is at most that of high ends.
pub sums_in_order : (given : List Load) → All IsRange given → (i : ℕ) → end_sum (λ l. l.low) given i ≤ℤ end_sum (λ l. l.high) given i
sums_in_order [] all i = omega (arith, ints)
sums_in_order (l ∷ ls) all i =
    let here = part_in_order (eqb l.node i) l.low l.high (All-head IsRange l ls all) in
    let rest = sums_in_order ls (All-tail IsRange l ls all) i in
    omega (arith, ints, here, rest)

-- ---- magnitudes
abbrev size : ℤ → ℤ → ℕ
size u v = max (unsigned_abs u) (unsigned_abs v)

size_of_sum : (a b c d : ℤ) → size (a +ℤ c) (b +ℤ d) ≤ size a b + size c d
size_of_sum a b c d = omega (arith, ints)

size_of_part : (b : Bool) (u v : ℤ) → size (cond b u (pos 0)) (cond b v (pos 0)) ≤ cond b (size u v) 0
size_of_part true u v = omega arith
size_of_part false u v = omega (arith, ints)

sizes_at_most : (n : ℕ) (given : List Load) → over_nodes n (λ i. size (end_sum (λ l. l.low) given i) (end_sum (λ l. l.high) given i)) ≤ given_load given
sizes_at_most n [] = let e = over_same n 0 in omega arith
sizes_at_most n (l ∷ ls) =
    let here : ℕ → ℕ = λ i. cond (eqb l.node i) (size l.low l.high) 0 in
    let there : ℕ → ℕ = λ i. size (end_sum (λ x. x.low) ls i) (end_sum (λ x. x.high) ls i) in
    let each = over_le n (λ i. size (end_sum (λ x. x.low) (l ∷ ls) i) (end_sum (λ x. x.high) (l ∷ ls) i)) (λ i. here i + there i)
    (λ i. let a = size_of_sum (cond (eqb l.node i) l.low (pos 0)) (cond (eqb l.node i) l.high (pos 0)) (end_sum (λ x. x.low) ls i) (end_sum (λ x. x.high) ls i) in let b = size_of_part (eqb l.node i) l.low l.high in omega arith) in
    let split = over_add n here there in
    let one = once n l.node (size l.low l.high) in
    let rest = sizes_at_most n ls in
    omega arith

-- The sum over the nodes is at most the sum over the loads that are handed in.
pub total_at_most_given : (net : Network) (given : List Load) → LoadsAddUp net given → total_load net ≤ given_load given
total_at_most_given net given add =
    let same = over_le_below net.nodes (λ i. load_size net i) (λ i. size (end_sum (λ l. l.low) given i) (end_sum (λ l. l.high) given i)) (λ i l. let e = add i l in omega (arith, ints, e)) in
    let rest = sizes_at_most net.nodes given in
    omega arith

-- ---- the network of the lists
pub loads_of_network : (n : ℕ) (rs : List Resistor) (ps : List Pad) (ls : List Load) → LoadsAddUp (network_of n rs ps ls) ls
loads_of_network n rs ps ls = λ i l.
    let e = get_or-map-range_with_len (load_of ls) 0 n i i (record { low = pos 0; high = pos 0 }) l (omega arith) in
    (ap (λ (r : LoadRange). r.low) e, ap (λ (r : LoadRange). r.high) e)

All_map_range : {X : Type 0} (P : X → Type 0) (f : ℕ → X) (a n : ℕ) → ((i : ℕ) → P (f i)) → All P (map f (range_with_len a n))
All_map_range P f a zero h = All-nil P
All_map_range P f a (suc n) h = All-cons P (f a) (map f (range_with_len (a + 1) n)) (h a) (All_map_range P f (a + 1) n h)

module _ (n : ℕ) (rs : List Resistor) (ps : List Pad) (ls : List Load) (keeps : KeepsLimits n rs ps ls) (ranges : All IsRange ls) where
  abbrev net : Network
  net = network_of n rs ps ls

  abbrev HasVoltage : Pad → Type 0
  HasVoltage p = IsInLimit greatest_voltage p.volts

  voltage_of : (i : ℕ) (v : ℤ) → first_pad ps i ≡ Some v → IsInLimit greatest_voltage v
  voltage_of i v e = let q = first_is_of_list HasVoltage ps i v keeps.voltages e in subst (IsInLimit greatest_voltage) q.2 q.3

  pub network_is_built : IsBuilt net
  network_is_built = record {
    is_network = record {
      each_resistor = λ k d l. record { a_is_node = (keeps.ends_are_nodes k d l).0; b_is_node = (keeps.ends_are_nodes k d l).1; resists = (keeps.resistances k d l).0 };
      each_load = All_map_range (λ (r : LoadRange). r.low ≤ℤ r.high) (load_of ls) 0 n (sums_in_order ls ranges);
    };
    pads_are_nodes = each_first ps (λ p. p.node < n) n 0 n (omega arith) (λ i v l e. l);
    pads_in_order = nodes_in_order ps n;
    one_load_a_node = length-map-range_with_len (load_of ls) 0 n;
    few_nodes = keeps.few_nodes;
    few_resistors = keeps.few_resistors;
    resistances = λ k d l. (keeps.resistances k d l).1;
    voltages = each_first ps HasVoltage n 0 n (omega arith) (λ i v l e. voltage_of i v e);
    loads_in_limit = let t = total_at_most_given net ls (loads_of_network n rs ps ls) in omega (arith, t, keeps.sum_of_loads);
  }

-- ---- the network that a build keeps
pub same_network : (n : ℕ) (rs : List Resistor) (ps kept : List Pad) (ls : List Load) (sums : List LoadRange) → kept ≡ filter_map (pad_of ps) (range_with_len 0 n) → sums ≡ map (load_of ls) (range_with_len 0 n) → ◌≡◌ {A = Network} (record { nodes = n; resistors = rs; pads = kept; loads = sums }) (network_of n rs ps ls)
same_network n rs ps kept ls sums e f =
    let with_pads : List Pad → Network = λ xs. record { nodes = n; resistors = rs; pads = xs; loads = sums } in
    let with_loads : List LoadRange → Network = λ xs. record { nodes = n; resistors = rs; pads = filter_map (pad_of ps) (range_with_len 0 n); loads = xs } in
    ap with_pads e ∙ ap with_loads f

pub voltages_of_network : (n : ℕ) (ps : List Pad) (net : Network) (table : List (Option ℤ)) → net.pads ≡ filter_map (pad_of ps) (range_with_len 0 n) → table ≡ map (first_pad ps) (range_with_len 0 n) → table ≡ map (pad_at net) (range_with_len 0 n)
voltages_of_network n ps net table e f =
    table_is_map (pad_at net) n table None (ap length f ∙ length-map-range_with_len (first_pad ps) 0 n)
    (λ i l. map_tells (first_pad ps) n i table None f l ∙ sym (ap (λ qs. first_pad qs i) e ∙ kept_pad ps n i l))
