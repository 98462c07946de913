-- The resistors of a step's network, and the loads: what makes it a network.
use Rattle.std.proofs.Common.{◌≡◌, ℕ, zero, suc, ◌<◌, ◌≤◌, inl, inr, ℤ, pos, ◌≤ℤ◌, arith, refl, sym, ap, subst, ◌∙◌, List, [], ◌∷◌, length, get_or, map, All, Bool, true, false, ◌||◌, eqb, eq-eqb, Some, length-append}
use Rattle.std.specs.List.{range_with_len, list_any}
use Rattle.std.proofs.lemmas.Bool.{cases_lt}
use Rattle.std.proofs.lemmas.List.{get_or_append_left}
use Rattle.std.proofs.lemmas.List.Elements.{All-append, All-map, All-weaker}
use Rattle.grid_net.specs.declared.part.Resistor.{Resistor}
use Rattle.grid_net.specs.declared.part.Pad.{Pad}
use Rattle.grid_net.specs.declared.part.Load.{Load}
use Rattle.grid_net.specs.Network.{Network, IsNetwork, IsResistorOf, entry_of, pad_at, first_pad, low_load, high_load}
use Rattle.grid_net.specs.Level.{IsSupplied}
use Rattle.grid_net.specs.Limits.{IsBuilt}
use Rattle.grid_net.specs.Building.{network_of, load_of}
use Rattle.grid_net.specs.Adding.{LoadsAddUp, end_sum}
use Rattle.step_bounds.specs.declared.companion.Companion.{Companion}
use Rattle.step_bounds.specs.StepNetwork.{has_memory, memory_of, memory_resistor, step_nodes, step_resistors, step_pads, network_over}
use Rattle.step_bounds.specs.inside.Extension.{AreCompanions}
use Rattle.step_bounds.specs.inside.Loads.{AreLoads}
use Rattle.step_bounds.proofs.Memory.{stands}
use Rattle.step_bounds.proofs.Pads.{own_pad, memory_has_pad, memory_for}
use Rattle.step_bounds.proofs.Drawn.{drawn_is, drawn_none, sums_in_order, entries_in_order, entries_at_nodes}
use Rattle.step_bounds.proofs.Supply.{Extends, supplied}

-- A capacitor counts at the node of each of those that count.
pub counts_there : (xs : List Companion) (k : ℕ) (d : Companion) → k < length xs → has_memory xs (get_or xs k d).node ≡ true
counts_there xs k d l = among xs k d l (get_or xs k d).node refl
  where
    or_later : (b c : Bool) → c ≡ true → (b || c) ≡ true
    or_later true c e = refl
    or_later false c e = e

    among : (ys : List Companion) (m : ℕ) (d : Companion) → m < length ys → (i : ℕ) → (get_or ys m d).node ≡ i → list_any (λ x. eqb x.node i) ys ≡ true
    among [] m d l i e = absurd (omega arith)
    among (y ∷ ys) zero d l i e = ap (λ b. b || list_any (λ x. eqb x.node i) ys) (eq-eqb y.node i e)
    among (y ∷ ys) (suc m) d l i e = or_later (eqb y.node i) (list_any (λ x. eqb x.node i) ys) (among ys m d (omega arith) i e)

-- What the laws of a built network tell of the pads and the loads of one.
abbrev pub KeptPads : Type 0
KeptPads = (nodes : ℕ) (resistors : List Resistor) (pads : List Pad) (loads : List Load) (i : ℕ) → i < nodes
    → pad_at (network_of nodes resistors pads loads) i ≡ first_pad pads i

abbrev pub LoadsAdd : Type 0
LoadsAdd = (nodes : ℕ) (resistors : List Resistor) (pads : List Pad) (loads : List Load)
    → LoadsAddUp (network_of nodes resistors pads loads) loads

module _ (net : Network) (built : IsBuilt net) (xs : List Companion) (fit : AreCompanions net xs) where
  -- The memory node of a capacitor that counts is a node.
  pub memory_is_node : (i : ℕ) → i < net.nodes → has_memory xs i ≡ true → memory_of xs net.nodes i < step_nodes net xs
  memory_is_node i l e = let s = stands (has_memory xs) net.nodes i l e in omega (arith, s.0)

  pub each_resistor : All (IsResistorOf (step_nodes net xs)) (step_resistors net xs)
  each_resistor = All-append (IsResistorOf (step_nodes net xs)) net.resistors (map (memory_resistor xs net.nodes) xs)
      (All-weaker (IsResistorOf net.nodes) (IsResistorOf (step_nodes net xs)) (λ r h. record {
        a_is_node = omega (arith, h.a_is_node);
        b_is_node = omega (arith, h.b_is_node);
        resists = h.resists;
      }) net.resistors built.is_network.each_resistor)
      (All-map (IsResistorOf (step_nodes net xs)) (memory_resistor xs net.nodes) xs (λ k d l. record {
        a_is_node = (let h = fit k d l in omega (arith, h.0));
        b_is_node = memory_is_node (get_or xs k d).node (fit k d l).0 (counts_there xs k d l);
        resists = (fit k d l).1;
      }))

  module _ (loads : List Load) (are : AreLoads net.nodes loads) (v : List ℤ) where
    pub loads_in_order : All (λ l. l.low ≤ℤ l.high) loads
    loads_in_order =
        let P : List Load → Type 0 = λ ys. All (λ l. l.low ≤ℤ l.high) ys in
        subst P (sym are.is) (entries_in_order are.range net.nodes are.in_order)

    pub loads_at_nodes : All (λ l. l.node < step_nodes net xs) loads
    loads_at_nodes =
        let P : List Load → Type 0 = λ ys. All (λ l. l.node < step_nodes net xs) ys in
        subst P (sym are.is) (entries_at_nodes are.range net.nodes (step_nodes net xs) (omega arith))

    -- The network of a step is a network.
    pub is_network : IsNetwork (network_over net xs loads v)
    is_network = record {
      each_resistor = each_resistor;
      each_load = All-map (λ l. l.low ≤ℤ l.high) (load_of loads) (range_with_len 0 (step_nodes net xs))
          (λ k d l. sums_in_order loads loads_in_order (get_or (range_with_len 0 (step_nodes net xs)) k d));
    }

    module _ (kept : KeptPads) where
      pub own_pads : (i : ℕ) → i < net.nodes → pad_at (network_over net xs loads v) i ≡ pad_at net i
      own_pads i l =
          kept (step_nodes net xs) (step_resistors net xs) (step_pads net xs v) loads i (omega arith)
          ∙ own_pad net built xs v i l

      pub memory_pads : (i : ℕ) → i < net.nodes → has_memory xs i ≡ true
          → pad_at (network_over net xs loads v) (memory_of xs net.nodes i) ≡ Some (entry_of v i)
      memory_pads i l e =
          kept (step_nodes net xs) (step_resistors net xs) (step_pads net xs v) loads (memory_of xs net.nodes i) (memory_is_node i l e)
          ∙ memory_has_pad net built xs v i l e

      pub extends : Extends net (network_over net xs loads v)
      extends = record {
        nodes = omega arith;
        resistors = omega (arith, length-append net.resistors (map (memory_resistor xs net.nodes) xs));
        places = λ k d l. get_or_append_left net.resistors (map (memory_resistor xs net.nodes) xs) d k l;
        pads = own_pads;
      }

      -- Where each node of the network is supplied, so is each of the step's.
      pub all_supplied : ((i : ℕ) → i < net.nodes → IsSupplied net i) → (i : ℕ) → i < step_nodes net xs
          → IsSupplied (network_over net xs loads v) i
      all_supplied each i l = elim (cases_lt i net.nodes) [
        | inl lt ↦ supplied net (network_over net xs loads v) extends i lt (each i lt)
        | inr ge ↦ (let m = memory_for net built xs v i ge l in
            (0, (entry_of v m.0, ap (pad_at (network_over net xs loads v)) (sym m.3) ∙ memory_pads m.0 m.1 m.2)))
      ]

    module _ (add : LoadsAdd) where
      pub low_is : (i : ℕ) → i < net.nodes → low_load (network_over net xs loads v) i ≡ (are.range i).low
      low_is i l =
          (add (step_nodes net xs) (step_resistors net xs) (step_pads net xs v) loads i (omega arith)).0
          ∙ ap (λ (ls : List Load). end_sum (λ x. x.low) ls i) are.is
          ∙ drawn_is (λ x. x.low) are.range net.nodes i l

      pub high_is : (i : ℕ) → i < net.nodes → high_load (network_over net xs loads v) i ≡ (are.range i).high
      high_is i l =
          (add (step_nodes net xs) (step_resistors net xs) (step_pads net xs v) loads i (omega arith)).1
          ∙ ap (λ (ls : List Load). end_sum (λ x. x.high) ls i) are.is
          ∙ drawn_is (λ x. x.high) are.range net.nodes i l

      pub low_none : (i : ℕ) → net.nodes ≤ i → i < step_nodes net xs → low_load (network_over net xs loads v) i ≡ pos 0
      low_none i g l =
          (add (step_nodes net xs) (step_resistors net xs) (step_pads net xs v) loads i l).0
          ∙ ap (λ (ls : List Load). end_sum (λ x. x.low) ls i) are.is
          ∙ drawn_none (λ x. x.low) are.range net.nodes i g

      pub high_none : (i : ℕ) → net.nodes ≤ i → i < step_nodes net xs → high_load (network_over net xs loads v) i ≡ pos 0
      high_none i g l =
          (add (step_nodes net xs) (step_resistors net xs) (step_pads net xs v) loads i l).1
          ∙ ap (λ (ls : List Load). end_sum (λ x. x.high) ls i) are.is
          ∙ drawn_none (λ x. x.high) are.range net.nodes i g
