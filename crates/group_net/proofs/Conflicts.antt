-- What a conflict tells of the pads.
use Rattle.std.proofs.Common.{◌≡◌, ℕ, suc, ◌<◌, ℤ, arith, refl, sym, ap, ◌∙◌, List, [], ◌∷◌, get_or, map, Option, Some, None, Bool, true, false, cond, eqb, eqb-true}
use Rattle.std.specs.Prelude.{Contains}
use Rattle.std.specs.Ordering.{int_eq}
use Rattle.std.proofs.lemmas.Bool.Decides.{Decides-int_eq}
use Rattle.std.proofs.lemmas.List.Elements.{All-contains}
use Rattle.grid_net.specs.declared.part.Pad.{Pad}
use Rattle.grid_net.specs.declared.error.NetError.{NetError}
use Rattle.grid_net.specs.declared.error.NetError.TheVariants.{PadConflict}
use Rattle.grid_net.specs.Search.{or_else, first_of}
use Rattle.grid_net.specs.Network.{Network, first_pad}
use Rattle.grid_net.specs.Building.{conflict_with}
use Rattle.grid_net.specs.Limits.{IsBuilt}
use Rattle.group_net.specs.Merging.{grouped_pad, IsConflict, PadsDiffer}

no_some : {X : Type 0} (x : X) → None ≡ Some x → ⊥
no_some {X} x e = let f : ◌≡◌ {A = Option X} None (Some x) = e in cc

later : (p q : Pad) (ps : List Pad) → Contains ps q → Contains (p ∷ ps) q
later p q ps h = (suc h.0, (let l = h.1 in omega arith), h.2)

-- The first pad of a group is a pad of one of its nodes.
first_stands : (group : List ℕ) (g : ℕ) (ps : List Pad) (v : ℤ) → first_pad (map (grouped_pad group) ps) g ≡ Some v
    → (p : Pad) × Contains ps p × (get_or group p.node 0 ≡ g) × (p.volts ≡ v)
first_stands group g [] v e = absurd (no_some v e)
first_stands group g (p ∷ ps) v e = by_test (eqb (get_or group p.node 0) g) refl e (first_stands group g ps v)
  where
    by_test : (b : Bool) → eqb (get_or group p.node 0) g ≡ b
        → cond b (Some p.volts) (first_pad (map (grouped_pad group) ps) g) ≡ Some v
        → (first_pad (map (grouped_pad group) ps) g ≡ Some v
        → (q : Pad) × Contains ps q × (get_or group q.node 0 ≡ g) × (q.volts ≡ v))
        → (q : Pad) × Contains (p ∷ ps) q × (get_or group q.node 0 ≡ g) × (q.volts ≡ v)
    by_test true f told rest = (p, (0, omega arith, refl), eqb-true (get_or group p.node 0) g f, cc)
    by_test false f told rest = let h = rest told in (h.0, later p h.0 ps h.1, h.2, h.3)

abbrev Found : List ℕ → List Pad → Option ℤ → ℕ → ℤ → ℤ → Pad → Type 0
Found group ps o number first second p =
    (get_or group p.node 0 ≡ number) × (p.volts ≡ second) × (o ≡ Some first) × (int_eq first second ≡ false)

conflict_is : (group : List ℕ) (ps : List Pad) (p : Pad) (o : Option ℤ) (number : ℕ) (first second : ℤ)
    → conflict_with (grouped_pad group p) o ≡ Some (PadConflict number first second)
    → Found group ps o number first second p
conflict_is group ps p None number first second e = absurd (no_some (PadConflict number first second) e)
conflict_is group ps p (Some v) number first second e = by_test (int_eq v p.volts) refl e
  where
    by_test : (b : Bool) → int_eq v p.volts ≡ b
        → cond b None (Some (PadConflict (get_or group p.node 0) v p.volts)) ≡ Some (PadConflict number first second)
        → Found group ps (Some v) number first second p
    by_test true t told = absurd (no_some (PadConflict number first second) told)
    by_test false t told =
        let at : get_or group p.node 0 ≡ number = cc in
        let one : v ≡ first = cc in
        let other : p.volts ≡ second = cc in (
          at,
          other,
          ap (λ (x : ℤ). Some x) one,
          ap (λ (x : ℤ). int_eq x second) (sym one) ∙ ap (λ (x : ℤ). int_eq v x) (sym other) ∙ t,
        )

-- The pad that differs stands in the list.
conflict_stands : (group : List ℕ) (whole ps : List Pad) (number : ℕ) (first second : ℤ)
    → first_of (λ p. conflict_with p (first_pad whole p.node)) (map (grouped_pad group) ps)
    ≡ Some (PadConflict number first second)
    → (p : Pad) × Contains ps p × Found group ps (first_pad whole (get_or group p.node 0)) number first second p
conflict_stands group whole [] number first second e = absurd (no_some (PadConflict number first second) e)
conflict_stands group whole (p ∷ ps) number first second e =
    by_answer (conflict_with (grouped_pad group p) (first_pad whole (get_or group p.node 0))) refl e
    (conflict_stands group whole ps number first second)
  where
    by_answer : (o : Option NetError)
        → conflict_with (grouped_pad group p) (first_pad whole (get_or group p.node 0)) ≡ o
        → or_else o (first_of (λ p. conflict_with p (first_pad whole p.node)) (map (grouped_pad group) ps))
        ≡ Some (PadConflict number first second)
        → (first_of (λ p. conflict_with p (first_pad whole p.node)) (map (grouped_pad group) ps)
        ≡ Some (PadConflict number first second)
        → (q : Pad) × Contains ps q × Found group ps (first_pad whole (get_or group q.node 0)) number first second q)
        → (q : Pad) × Contains (p ∷ ps) q
        × Found group (p ∷ ps) (first_pad whole (get_or group q.node 0)) number first second q
    by_answer None is told rest = let h = rest told in (h.0, later p h.0 ps h.1, h.2)
    by_answer (Some x) is told rest = (
      p,
      (0, omega arith, refl),
      conflict_is group (p ∷ ps) p (first_pad whole (get_or group p.node 0)) number first second (is ∙ told),
    )

pub pads_differ : (net : Network) (shorts : List (ℕ × ℕ)) (node : ℕ) (first second : ℤ) → IsBuilt net
    → IsConflict net shorts node first second → PadsDiffer net shorts node first second
pads_differ net shorts node first second built c =
    let h = c.groups in
    let second_pad = conflict_stands c.group (map (grouped_pad c.group) net.pads) net.pads c.number first second c.conflict in
    let q : Pad = second_pad.0 in
    let found = second_pad.2 in
    let first_told = first_stands c.group (get_or c.group q.node 0) net.pads first found.2 in
    let p : Pad = first_told.0 in
    let p_is_node = All-contains (λ (x : Pad). x.node < net.nodes) net.pads p built.pads_are_nodes first_told.1 in
    let q_is_node = All-contains (λ (x : Pad). x.node < net.nodes) net.pads q built.pads_are_nodes second_pad.1 in
    let first_is_node = h.each_first c.number 0 c.is_group in
    let node_is_node : node < net.nodes = omega (arith, c.first_node, first_is_node) in
    let of_p : get_or c.group p.node 0 ≡ c.number = first_told.2 ∙ found.0 in
    let of_node : get_or c.group node 0 ≡ c.number =
    ap (λ (x : ℕ). get_or c.group x 0) c.first_node ∙ h.of_its_group c.number c.is_group in
    record {
      one = p;
      other = q;
      one_stands = first_told.1;
      other_stands = second_pad.1;
      joined = (h.joined p.node q.node p_is_node q_is_node).0 first_told.2;
      of_the_group = (h.joined node p.node node_is_node p_is_node).0 (of_node ∙ sym of_p);
      no_earlier = λ i l way. (
          let same = (h.joined i p.node l p_is_node).1 way in
          let before = h.first i l in
          let at = ap (λ (g : ℕ). get_or c.firsts g 0) (same ∙ of_p) in
          omega (arith, before, at, c.first_node));
      first_voltage = sym first_told.3;
      second_voltage = sym found.1;
      differ = λ e. (let t = (Decides-int_eq first second).1 e in
          absurd (let u : ◌≡◌ {A = Bool} true false = sym t ∙ found.3 in cc));
    }
