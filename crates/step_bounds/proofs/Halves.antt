-- The lists of a certificate of a step's network are bounds of the step.
use Rattle.std.proofs.Common.{◌≡◌, ℕ, ◌-◌, ◌<◌, ◌≤◌, inl, inr, ℤ, pos, arith, sym, ap, subst, ◌∙◌, List, length, length-append, get_or, take, map, Some}
use Rattle.std.proofs.lemmas.Bool.{cases_lt}
use Rattle.std.proofs.lemmas.List.{get_or_append_left, get_or-append_right, get_or-take, ext_get_or, length-map, length-take-le}
use Rattle.grid_net.specs.declared.part.Load.{Load}
use Rattle.grid_net.specs.Network.{Network, entry_of, pad_at}
use Rattle.grid_net.specs.Limits.{IsBuilt}
use Rattle.bound_make.specs.Halves.{IsTightHigh, IsTightLow}
use Rattle.step_bounds.specs.declared.companion.Companion.{Companion}
use Rattle.step_bounds.specs.StepNetwork.{has_memory, nodes_with_memory, step_nodes, network_over}
use Rattle.step_bounds.specs.StepCertificate.{with_memory, IsHighBound, IsLowBound}
use Rattle.step_bounds.specs.inside.Extension.{AreCompanions}
use Rattle.step_bounds.specs.inside.Loads.{AreLoads}
use Rattle.step_bounds.proofs.Memory.{stands}
use Rattle.step_bounds.proofs.Pads.{memory_for}
use Rattle.step_bounds.proofs.Resistors.{KeptPads, memory_pads}
use Rattle.step_bounds.proofs.Solutions.{at_map}

module _ (kept : KeptPads) (net : Network) (built : IsBuilt net) (xs : List Companion) (fit : AreCompanions net xs) (loads : List Load)
    (are : AreLoads net.nodes loads) (v : List ℤ) where
  abbrev net_over : Network
  net_over = network_over net xs loads v

  abbrev memories : List ℕ
  memories = nodes_with_memory xs net.nodes

  -- A list that has the pads' voltages at pads is its own beginning, with what the list before has at the memory nodes.
  whole : (x : List ℤ) → length x ≡ step_nodes net xs → ((i : ℕ) (z : ℤ) → i < step_nodes net xs → pad_at net_over i ≡ Some z → entry_of x i ≡ z)
      → x ≡ with_memory net xs v (take net.nodes x)
  whole x size pads = ext_get_or (pos 0) x (with_memory net xs v (take net.nodes x)) as_long each
    where
      front : length (take net.nodes x) ≡ net.nodes
      front = length-take-le net.nodes x (omega (arith, size))

      as_long : length x ≡ length (with_memory net xs v (take net.nodes x))
      as_long = omega (arith, size, front, length-append (take net.nodes x) (map (entry_of v) memories), length-map memories (entry_of v))

      each : (i : ℕ) → i < length x → get_or x i (pos 0) ≡ get_or (with_memory net xs v (take net.nodes x)) i (pos 0)
      each i l = elim (cases_lt i net.nodes) [
        | inl lt ↦ sym (get_or_append_left (take net.nodes x) (map (entry_of v) memories) (pos 0) i (omega (arith, lt, front))
            ∙ get_or-take net.nodes x i (pos 0) lt)
        | inr ge ↦ (
            let m = memory_for net built xs v i ge (omega (arith, l, size)) in
            let s = stands (has_memory xs) net.nodes m.0 m.1 m.2 in
            let place : length (nodes_with_memory xs m.0) ≡ i - net.nodes = omega (arith, m.3) in
            let here : entry_of x i ≡ entry_of v m.0 =
            pads i (entry_of v m.0) (omega (arith, l, size))
            (ap (pad_at net_over) (sym m.3) ∙ memory_pads net built xs fit loads are v kept m.0 m.1 m.2) in
            here
            ∙ ap (entry_of v) (sym s.1 ∙ ap (λ (k : ℕ). get_or memories k 0) place)
            ∙ sym (get_or-append_right (take net.nodes x) (map (entry_of v) memories) net.nodes i (pos 0) front ge
            ∙ at_map (entry_of v) memories (i - net.nodes) 0 (pos 0) (omega (arith, s.0, place))))
      ]

  -- The lists of two halves of a step's network, without the memory nodes.
  pub high_kept : (over : Network) → over ≡ net_over → (high x : List ℤ) → length high ≡ over.nodes → IsTightHigh over (entry_of high)
      → x ≡ take net.nodes high → IsHighBound net xs loads v x
  high_kept over is high x size made e =
      let P : Network → Type 0 = λ n. (length high ≡ n.nodes) × IsTightHigh n (entry_of high) in
      let here = subst P is (size, made) in
      let Q : List ℤ → Type 0 = λ y. IsTightHigh net_over (entry_of y) in
      let R : List ℤ → Type 0 = λ y. IsHighBound net xs loads v y in
      subst R (sym e) (subst Q (whole high here.0 here.1.tight.pads) here.1)

  pub low_kept : (over : Network) → over ≡ net_over → (low x : List ℤ) → length low ≡ over.nodes → IsTightLow over (entry_of low)
      → x ≡ take net.nodes low → IsLowBound net xs loads v x
  low_kept over is low x size made e =
      let P : Network → Type 0 = λ n. (length low ≡ n.nodes) × IsTightLow n (entry_of low) in
      let here = subst P is (size, made) in
      let Q : List ℤ → Type 0 = λ y. IsTightLow net_over (entry_of y) in
      let R : List ℤ → Type 0 = λ y. IsLowBound net xs loads v y in
      subst R (sym e) (subst Q (whole low here.0 here.1.tight.pads) here.1)

  -- It has at least as many nodes as the network.
  pub as_many : (certified : Network) → certified ≡ net_over → net.nodes ≤ certified.nodes
  as_many certified is = let e = ap (λ (n : Network). n.nodes) is in omega (arith, e)
