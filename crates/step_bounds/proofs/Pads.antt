-- The pads of a step's network.
use Rattle.std.proofs.Common.{◌≡◌, ◌≢◌, ◌-◌, ◌⊎◌, ℕ, zero, suc, ◌+◌, ◌<◌, ◌≤◌, inl, inr, ℤ, arith, refl, sym, ap, ◌∙◌, List, [], ◌∷◌, ◌++◌, length, get_or, map, All, Option, Some, None, Bool, true, false, cond, eqb, eqb-true, eq-eqb}
use Rattle.std.proofs.lemmas.Bool.{cases_eq, cases_lt}
use Rattle.std.proofs.lemmas.Bool.Decides.{Decides-int_eq}
use Rattle.std.proofs.lemmas.List.{get_or_default}
use Rattle.std.proofs.lemmas.List.Elements.{All-head, All-tail, All-append, All-map, All-weaker}
use Rattle.std.specs.List.Sorted.{IsStrictlyIncreasing}
use Rattle.grid_net.specs.declared.part.Pad.{Pad}
use Rattle.grid_net.specs.declared.error.NetError.TheVariants.{PadConflict}
use Rattle.grid_net.specs.Network.{Network, first_pad, entry_of}
use Rattle.grid_net.specs.Limits.{IsBuilt}
use Rattle.grid_net.specs.Building.{PadsAgree, conflict_with, first_conflict}
use Rattle.grid_net.specs.Search.{or_else}
use Rattle.grid_net.specs.Laws.Pads.{first_is_of_list, pad_is_first}
use Rattle.grid_net.specs.Laws.Search.{of_none}
use Rattle.step_bounds.specs.declared.companion.Companion.{Companion}
use Rattle.step_bounds.specs.StepNetwork.{has_memory, nodes_with_memory, memory_of, memory_pad, step_pads, step_nodes}
use Rattle.step_bounds.proofs.Memory.{stands, each_below, each_passes, place_of}

-- ---- first pads of two lists
pub first_of_two : (ps qs : List Pad) (i : ℕ) → first_pad (ps ++ qs) i ≡ or_else (first_pad ps i) (first_pad qs i)
first_of_two [] qs i = refl
first_of_two (p ∷ ps) qs i = by_test (eqb p.node i) (first_of_two ps qs i)
  where
    by_test : (b : Bool) → first_pad (ps ++ qs) i ≡ or_else (first_pad ps i) (first_pad qs i)
        → cond b (Some p.volts) (first_pad (ps ++ qs) i) ≡ or_else (cond b (Some p.volts) (first_pad ps i)) (first_pad qs i)
    by_test true e = refl
    by_test false e = e

apart : (a b : ℕ) (x y : Option ℤ) → a ≢ b → cond (eqb a b) x y ≡ y
apart a b x y ne = by_test (eqb a b) refl
  where
    by_test : (t : Bool) → eqb a b ≡ t → cond t x y ≡ y
    by_test true e = absurd (ne (eqb-true a b e))
    by_test false e = refl

-- Where no pad stands at a node there is no first one.
pub none_stands : (ps : List Pad) (i : ℕ) → All (λ p. p.node ≢ i) ps → first_pad ps i ≡ None
none_stands [] i all = refl
none_stands (p ∷ ps) i all =
    apart p.node i (Some p.volts) (first_pad ps i) (All-head (λ q. q.node ≢ i) p ps all)
    ∙ none_stands ps i (All-tail (λ q. q.node ≢ i) p ps all)

-- The first of the pads that a list of nodes gives, at one of them, where no two give one place.
pub first_given : (node : ℕ → ℕ) (volts : ℕ → ℤ) (ns : List ℕ) (i : ℕ) → (k : ℕ) × (k < length ns) × (get_or ns k 0 ≡ i)
    → All (λ j. node j ≡ node i → j ≡ i) ns
    → first_pad (map (λ j. record { node = node j; volts = volts j }) ns) (node i) ≡ Some (volts i)
first_given node volts [] i h all = absurd (let l = h.1 in omega arith)
first_given node volts (n ∷ ns) i h all = elim (cases_eq (node n) (node i)) [
  | inl e ↦ (let same : n ≡ i = All-head (λ j. node j ≡ node i → j ≡ i) n ns all e in
      ap (λ (b : Bool). cond b (Some (volts n)) (first_pad (map (λ j. record { node = node j; volts = volts j }) ns) (node i)))
      (eq-eqb (node n) (node i) e)
      ∙ ap (λ (j : ℕ). Some (volts j)) same)
  | inr ne ↦ (apart (node n) (node i) (Some (volts n))
      (first_pad (map (λ j. record { node = node j; volts = volts j }) ns) (node i)) ne
      ∙ first_given node volts ns i (later h.0 h.1 h.2 ne) (All-tail (λ j. node j ≡ node i → j ≡ i) n ns all))
]
  where
    later : (k : ℕ) → k < length (n ∷ ns) → get_or (n ∷ ns) k 0 ≡ i → node n ≢ node i
        → (m : ℕ) × (m < length ns) × (get_or ns m 0 ≡ i)
    later zero l at ne = absurd (ne (ap node at))
    later (suc k) l at ne = (k, omega arith, at)

-- ---- no two pads of a built network differ
module _ (net : Network) (built : IsBuilt net) where
  rising : (ns : List ℕ) → IsStrictlyIncreasing ns → (a b : ℕ) → a < b → b < length ns → get_or ns a 0 < get_or ns b 0
  rising ns up a zero l m = absurd (omega arith)
  rising ns up a (suc b) l m =
      let step = up b (omega arith) in
      let next : b + 1 ≡ suc b = omega arith in
      let at = ap (λ (k : ℕ). get_or ns k 0) next in
      elim (cases_lt a b) [
        | inl lt ↦ (let h = rising ns up a b lt (omega arith) in omega (arith, h, step, at))
        | inr ge ↦ (let same : a ≡ b = omega arith in let e = ap (λ (k : ℕ). get_or ns k 0) same in omega (arith, step, at, e))
      ]

  node_at : (ps : List Pad) (k : ℕ) (d : Pad) → k < length ps → get_or (map (λ p. p.node) ps) k 0 ≡ (get_or ps k d).node
  node_at [] k d l = absurd (omega arith)
  node_at (p ∷ ps) zero d l = refl
  node_at (p ∷ ps) (suc k) d l = node_at ps k d (omega arith)

  length_nodes : (ps : List Pad) → length (map (λ p. p.node) ps) ≡ length ps
  length_nodes [] = refl
  length_nodes (p ∷ ps) = ap suc (length_nodes ps)

  pub own_agree : PadsAgree net.pads
  own_agree k d l m e n same = by_order (cases_eq k m)
    where
      at_k : get_or (map (λ p. p.node) net.pads) k 0 ≡ (get_or net.pads k d).node
      at_k = node_at net.pads k d l

      at_m : get_or (map (λ p. p.node) net.pads) m 0 ≡ (get_or net.pads m e).node
      at_m = node_at net.pads m e n

      by_order : ((k ≡ m) ⊎ (k ≢ m)) → (get_or net.pads k d).volts ≡ (get_or net.pads m e).volts
      by_order (inl f) = ap (λ (p : Pad). p.volts) (get_or_default net.pads k d e l) ∙ ap (λ (i : ℕ). (get_or net.pads i e).volts) f
      by_order (inr ne) = elim (cases_lt k m) [
        | inl lt ↦ absurd (let r = rising (map (λ p. p.node) net.pads) built.pads_in_order k m lt (omega (arith, n, length_nodes net.pads)) in omega (arith, r, at_k, at_m, same))
        | inr ge ↦ absurd (let r = rising (map (λ p. p.node) net.pads) built.pads_in_order m k (omega (arith, ge, ne)) (omega (arith, l, length_nodes net.pads)) in omega (arith, r, at_k, at_m, same))
      ]

-- ---- the pads of a step
module _ (net : Network) (built : IsBuilt net) (xs : List Companion) (v : List ℤ) where
  abbrev has : ℕ → Bool
  has = has_memory xs

  abbrev memories : List ℕ
  memories = nodes_with_memory xs net.nodes

  abbrev given : List Pad
  given = map (memory_pad xs net.nodes v) memories

  given_behind : All (λ p. net.nodes ≤ p.node) given
  given_behind = All-map (λ p. net.nodes ≤ p.node) (memory_pad xs net.nodes v) memories (λ k d l. omega arith)

  -- At the network's nodes stand its own pads.
  pub own_pad : (i : ℕ) → i < net.nodes → first_pad (step_pads net xs v) i ≡ first_pad net.pads i
  own_pad i l =
      first_of_two net.pads given i
      ∙ ap (or_else (first_pad net.pads i))
      (none_stands given i (All-weaker (λ p. net.nodes ≤ p.node) (λ p. p.node ≢ i) (λ p h e. omega (arith, h, e, l)) given given_behind))
      ∙ no_more (first_pad net.pads i)
    where
      no_more : (o : Option ℤ) → or_else o None ≡ o
      no_more None = refl
      no_more (Some z) = refl

  -- At a memory node stands one pad, of the voltage of its node.
  pub one_memory : (i j : ℕ) → i < net.nodes → j < net.nodes → has i ≡ true → has j ≡ true
      → memory_of xs net.nodes j ≡ memory_of xs net.nodes i → j ≡ i
  one_memory i j l m e f same =
      let a = stands has net.nodes i l e in
      let b = stands has net.nodes j m f in
      let places : length (nodes_with_memory xs j) ≡ length (nodes_with_memory xs i) = omega (arith, same) in
      sym b.1 ∙ ap (λ (k : ℕ). get_or memories k 0) places ∙ a.1

  pub memory_has_pad : (i : ℕ) → i < net.nodes → has i ≡ true
      → first_pad (step_pads net xs v) (memory_of xs net.nodes i) ≡ Some (entry_of v i)
  memory_has_pad i l e =
      first_of_two net.pads given (memory_of xs net.nodes i)
      ∙ ap (λ (o : Option ℤ). or_else o (first_pad given (memory_of xs net.nodes i)))
      (none_stands net.pads (memory_of xs net.nodes i) (All-weaker (λ p. p.node < net.nodes)
      (λ p. p.node ≢ memory_of xs net.nodes i) (λ p h same. omega (arith, h, same)) net.pads built.pads_are_nodes))
      ∙ first_given (memory_of xs net.nodes) (entry_of v) memories i
      (let s = stands has net.nodes i l e in (length (nodes_with_memory xs i), s.0, s.1))
      (λ k d m same. one_memory i (get_or memories k d) l (each_below has net.nodes k d m) e (each_passes has net.nodes k d m) same)

  -- Each node behind those of the network is the memory node of a node.
  pub memory_for : (i : ℕ) → net.nodes ≤ i → i < step_nodes net xs
      → (j : ℕ) × (j < net.nodes) × (has j ≡ true) × (memory_of xs net.nodes j ≡ i)
  memory_for i ge l =
      let place : ℕ = i - net.nodes in
      let in_list : place < length memories = omega (arith, ge, l) in
      let j : ℕ = get_or memories place 0 in
      let at : length (nodes_with_memory xs j) ≡ place = place_of has net.nodes place in_list in
      (j, each_below has net.nodes place 0 in_list, each_passes has net.nodes place 0 in_list, omega (arith, at, ge))

  pub pads_agree : PadsAgree (step_pads net xs v)
  pads_agree = All-append (λ (p : Pad). All (λ (q : Pad). p.node ≡ q.node → p.volts ≡ q.volts) (step_pads net xs v)) net.pads given
      (λ k d l. All-append (λ (q : Pad). (get_or net.pads k d).node ≡ q.node → (get_or net.pads k d).volts ≡ q.volts) net.pads given
      (own_agree net built k d l)
      (λ m e n same. absurd (omega (arith, built.pads_are_nodes k d l, given_behind m e n, same))))
      (λ k d l. All-append (λ (q : Pad). (get_or given k d).node ≡ q.node → (get_or given k d).volts ≡ q.volts) net.pads given
      (λ m e n same. absurd (omega (arith, built.pads_are_nodes m e n, given_behind k d l, same)))
      (given_agree k d l))
    where
      given_agree : All (λ (p : Pad). All (λ (q : Pad). p.node ≡ q.node → p.volts ≡ q.volts) given) given
      given_agree = All-map (λ (p : Pad). All (λ (q : Pad). p.node ≡ q.node → p.volts ≡ q.volts) given)
          (memory_pad xs net.nodes v) memories (λ k d l.
          All-map (λ (q : Pad). (memory_pad xs net.nodes v (get_or memories k d)).node ≡ q.node → entry_of v (get_or memories k d) ≡ q.volts)
          (memory_pad xs net.nodes v) memories (λ m e n same.
          ap (entry_of v) (one_memory (get_or memories m e) (get_or memories k d)
          (each_below has net.nodes m e n) (each_below has net.nodes k d l)
          (each_passes has net.nodes m e n) (each_passes has net.nodes k d l) same)))

  -- Each of them stands at a node.
  pub pads_at_nodes : All (λ p. p.node < step_nodes net xs) (step_pads net xs v)
  pads_at_nodes = All-append (λ p. p.node < step_nodes net xs) net.pads given
      (All-weaker (λ p. p.node < net.nodes) (λ p. p.node < step_nodes net xs) (λ p h. omega arith) net.pads built.pads_are_nodes)
      (All-map (λ p. p.node < step_nodes net xs) (memory_pad xs net.nodes v) memories
      (λ k d l. let s = stands has net.nodes (get_or memories k d) (each_below has net.nodes k d l) (each_passes has net.nodes k d l) in
      omega (arith, s.0)))

-- Pads that agree have no conflict.
passes : (p : Pad) (first : Option ℤ) → first ≡ Some p.volts → conflict_with p first ≡ None
passes p first is = ap (conflict_with p) is ∙ alone
  where
    alone : conflict_with p (Some p.volts) ≡ None
    alone = ap (λ b. cond b None (Some (PadConflict p.node p.volts p.volts))) ((Decides-int_eq p.volts p.volts).1 refl)

pub no_conflict : (ps : List Pad) → PadsAgree ps → first_conflict ps ≡ None
no_conflict ps agree = of_none (λ p. conflict_with p (first_pad ps p.node)) ps (λ k d l.
    let p = get_or ps k d in
    let h = pad_is_first ps k d l in
    let q = first_is_of_list (λ (x : Pad). p.node ≡ x.node → p.volts ≡ x.volts) ps p.node h.0 (agree k d l) h.1 in
    passes p (first_pad ps p.node) (h.1 ∙ ap Some (sym q.2 ∙ sym (q.3 (sym q.1)))))
