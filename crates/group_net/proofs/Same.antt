-- A network whose nodes are groups by themselves is the network of the groups.
use Rattle.std.proofs.Common.{◌≡◌, ◌≢◌, ℕ, zero, suc, ◌+◌, ◌<◌, ◌≤◌, inl, inr, ℤ, pos, arith, refl, sym, ap, ◌∙◌, List, [], ◌∷◌, length, get_or, map, All, Option, Some, None, Bool, true, false, cond, eqb, eqb-true, eq-eqb}
use Rattle.std.specs.List.{range_with_len, filter_map, cons_option}
use Rattle.std.specs.List.Sorted.{IsStrictlyIncreasing}
use Rattle.std.specs.Option.{option_map}
use Rattle.std.proofs.lemmas.Bool.{cases_eq}
use Rattle.std.proofs.lemmas.List.{ext_get_or}
use Rattle.std.proofs.lemmas.List.FromFn.{length-range_with_len, get_or-range_with_len, length-map-range_with_len, get_or-map-range_with_len}
use Rattle.std.proofs.lemmas.List.Elements.{All-head, All-tail, All-from_get_or}
use Rattle.grid_net.specs.declared.part.Pad.{Pad}
use Rattle.grid_net.specs.declared.part.Load.{Load}
use Rattle.grid_net.specs.declared.part.LoadRange.{LoadRange}
use Rattle.grid_net.specs.Network.{Network, first_pad, low_load, high_load}
use Rattle.grid_net.specs.Adding.{end_sum}
use Rattle.grid_net.specs.Building.{pad_of, load_of}
use Rattle.grid_net.specs.Limits.{IsBuilt}
use Rattle.node_groups.specs.Groups.{AreGroups}
use Rattle.group_net.specs.Merging.{grouped_resistor, grouped_pad, grouped_load, grouped_loads, merged_network}
use Rattle.group_net.proofs.Sums.{total-map, over_same, pick}
use Rattle.group_net.proofs.Alone.{alone, as_many}

map_same : {X : Type 0} (P : X → Type 0) (f : X → X) → ((x : X) → P x → f x ≡ x) → (xs : List X) → All P xs
    → map f xs ≡ xs
map_same P f same [] all = refl
map_same P f same (x ∷ xs) all = λ i. same x (All-head P x xs all) i ∷ map_same P f same xs (All-tail P x xs all) i

-- ---- pads in the order of nodes
-- No pad stands before a node, and each stands after the one before it.
abbrev StandFrom : ℕ → List Pad → Type 0
StandFrom a [] = Unit {0}
StandFrom a (p ∷ ps) = (a ≤ p.node) × StandFrom (suc p.node) ps

in_order : (ps : List Pad) → IsStrictlyIncreasing (map (λ p. p.node) ps) → (a : ℕ)
    → ((p : Pad) (qs : List Pad) → ps ≡ p ∷ qs → a ≤ p.node) → StandFrom a ps
in_order [] up a first = tt
in_order (p ∷ []) up a first = (first p [] refl, tt)
in_order (p ∷ q ∷ ps) up a first = (
  first p (q ∷ ps) refl,
  in_order (q ∷ ps)
      (λ k l. let step = up (suc k) (omega arith) in
      let next : suc k + 1 ≡ suc (k + 1) = omega arith in
      let at = ap (λ (n : ℕ). get_or (map (λ x. x.node) (p ∷ q ∷ ps)) n 0) next in omega (arith, step, at))
      (suc p.node)
      (λ r rs e. let step = up 0 (omega arith) in
      let same : q ≡ r = cc in
      let at = ap (λ (x : Pad). x.node) same in omega (arith, step, at)),
)

starts_later : (a b : ℕ) (ps : List Pad) → StandFrom b ps → a ≤ b → StandFrom a ps
starts_later a b [] h l = tt
starts_later a b (p ∷ ps) h l = (omega (arith, h.0, l), h.1)

apart : (a b : ℕ) (x y : Option ℤ) → a ≢ b → cond (eqb a b) x y ≡ y
apart a b x y ne = by_test (eqb a b) refl
  where
    by_test : (t : Bool) → eqb a b ≡ t → cond t x y ≡ y
    by_test true e = absurd (ne (eqb-true a b e))
    by_test false e = refl

none_before : (b i : ℕ) (ps : List Pad) → StandFrom b ps → i < b → first_pad ps i ≡ None
none_before b i [] h l = refl
none_before b i (p ∷ ps) h l =
    apart p.node i (Some p.volts) (first_pad ps i) (λ e. let a = h.0 in omega arith)
    ∙ none_before (suc p.node) i ps h.1 (let a = h.0 in omega arith)

filter_map_same : {X Y : Type 0} (P : X → Type 0) (f g : X → Option Y) → ((x : X) → P x → f x ≡ g x) → (xs : List X)
    → All P xs → filter_map f xs ≡ filter_map g xs
filter_map_same P f g same [] all = refl
filter_map_same P f g same (x ∷ xs) all =
    ap (λ o. cons_option o (filter_map f xs)) (same x (All-head P x xs all))
    ∙ ap (cons_option (g x)) (filter_map_same P f g same xs (All-tail P x xs all))

from_next : (a m : ℕ) → All (λ i. a + 1 ≤ i) (range_with_len (a + 1) m)
from_next a m = All-from_get_or (λ i. a + 1 ≤ i) (range_with_len (a + 1) m) 0
    (λ k l. let l' : k < m = omega (arith, l, length-range_with_len (a + 1) m) in
    omega (arith, get_or-range_with_len (a + 1) m k 0 l'))

at_own : (a : ℕ) (p : Pad) (ps : List Pad) → p.node ≡ a → pad_of (p ∷ ps) a ≡ Some p
at_own a p ps e =
    ap (λ (o : Option ℤ). option_map (λ v. record { node = a; volts = v }) o)
    (ap (λ (b : Bool). cond b (Some p.volts) (first_pad ps a)) (eq-eqb p.node a e))
    ∙ ap (λ (n : ℕ). Some (record { node = n; volts = p.volts })) (sym e)

none_at : (ps : List Pad) (a : ℕ) → first_pad ps a ≡ None → pad_of ps a ≡ None
none_at ps a e = ap (λ (o : Option ℤ). option_map (λ v. record { node = a; volts = v }) o) e

pads_from : (m a : ℕ) (ps : List Pad) → StandFrom a ps → All (λ p. p.node < a + m) ps
    → filter_map (pad_of ps) (range_with_len a m) ≡ ps
pads_from zero a [] h all = refl
pads_from zero a (p ∷ ps) h all =
    absurd (let b = h.0 in let e : p.node < a + 0 = All-head (λ p. p.node < a + 0) p ps all in omega arith)
pads_from (suc m) a [] h all = pads_from m (a + 1) [] tt (λ k d l. absurd (omega arith))
pads_from (suc m) a (p ∷ ps) h all = elim (cases_eq p.node a) [
  | inl e ↦ (
      let below : All (λ q. q.node < (a + 1) + m) ps =
      (λ k d l. let b = All-tail (λ q. q.node < a + suc m) p ps all k d l in omega arith) in
      let later = starts_later (a + 1) (suc p.node) ps h.1 (omega (arith, e)) in
      ap (λ o. cons_option o (filter_map (pad_of (p ∷ ps)) (range_with_len (a + 1) m))) (at_own a p ps e)
      ∙ ap (λ (qs : List Pad). p ∷ qs)
      (filter_map_same (λ i. a + 1 ≤ i) (pad_of (p ∷ ps)) (pad_of ps)
      (λ i b. ap (λ (o : Option ℤ). option_map (λ v. record { node = i; volts = v }) o)
      (apart p.node i (Some p.volts) (first_pad ps i) (λ same. omega (arith, e, same, b))))
      (range_with_len (a + 1) m) (from_next a m)
      ∙ pads_from m (a + 1) ps later below))
  | inr ne ↦ (
      let below : All (λ q. q.node < (a + 1) + m) (p ∷ ps) = (λ k d l. let b = all k d l in omega arith) in
      let later : StandFrom (a + 1) (p ∷ ps) = (let b = h.0 in omega (arith, b, ne), h.1) in
      ap (λ o. cons_option o (filter_map (pad_of (p ∷ ps)) (range_with_len (a + 1) m)))
      (none_at (p ∷ ps) a (none_before (a + 1) a (p ∷ ps) later (omega arith)))
      ∙ pads_from m (a + 1) (p ∷ ps) later below)
]

pads_stay : (net : Network) → IsBuilt net → filter_map (pad_of net.pads) (range_with_len 0 net.nodes) ≡ net.pads
pads_stay net built = pads_from net.nodes 0 net.pads (in_order net.pads built.pads_in_order 0 (λ p qs e. omega arith))
    (λ k d l. let b = built.pads_are_nodes k d l in omega arith)

-- ---- the whole
abbrev no_load : LoadRange
no_load = record { low = pos 0; high = pos 0 }

module _ (net : Network) (group firsts : List ℕ) (built : IsBuilt net) (h : AreGroups net.nodes [] group firsts) where
  own : (i : ℕ) → i < net.nodes → get_or group i 0 ≡ i
  own = alone net.nodes group firsts h

  resistors_stay : map (grouped_resistor group) net.resistors ≡ net.resistors
  resistors_stay = map_same (λ r. (r.a < net.nodes) × (r.b < net.nodes)) (grouped_resistor group)
      (λ r b. λ i. record { a = own r.a b.0 i; b = own r.b b.1 i; ohms = r.ohms }) net.resistors
      (λ k d l. let r = built.is_network.each_resistor k d l in (r.a_is_node, r.b_is_node))

  all_pads_stay : map (grouped_pad group) net.pads ≡ net.pads
  all_pads_stay = map_same (λ p. p.node < net.nodes) (grouped_pad group)
      (λ p b. λ i. record { node = own p.node b i; volts = p.volts }) net.pads built.pads_are_nodes

  turned_test : (a b : ℕ) (x : ℤ) → cond (eqb a b) x (pos 0) ≡ cond (eqb b a) x (pos 0)
  turned_test a b x = ap (λ (t : Bool). cond t x (pos 0)) (by_tests (eqb a b) (eqb b a) refl refl)
    where
      by_tests : (s t : Bool) → eqb a b ≡ s → eqb b a ≡ t → s ≡ t
      by_tests true true e f = refl
      by_tests false false e f = refl
      by_tests true false e f =
          absurd (let u : ◌≡◌ {A = Bool} false true = sym f ∙ eq-eqb b a (sym (eqb-true a b e)) in cc)
      by_tests false true e f =
          absurd (let u : ◌≡◌ {A = Bool} false true = sym e ∙ eq-eqb a b (sym (eqb-true b a f)) in cc)

  one_sum : (end : Load → ℤ) (f : ℕ → ℤ) → ((i : ℕ) → end (grouped_load net group i) ≡ f i) → (i : ℕ) → i < net.nodes
      → end_sum end (grouped_loads net group) i ≡ f i
  one_sum end f e i l =
      total-map (λ (x : Load). cond (eqb x.node i) (end x) (pos 0)) (grouped_load net group) (range_with_len 0 net.nodes)
      ∙ over_same net.nodes (λ j. cond (eqb (get_or group j 0) i) (end (grouped_load net group j)) (pos 0))
      (λ j. cond (eqb i j) (f j) (pos 0))
      (λ j m. ap (λ (x : ℕ). cond (eqb x i) (end (grouped_load net group j)) (pos 0)) (own j m)
      ∙ ap (λ (x : ℤ). cond (eqb j i) x (pos 0)) (e j) ∙ turned_test j i (f j))
      ∙ pick net.nodes i f l

  loads_stay : map (load_of (grouped_loads net group)) (range_with_len 0 net.nodes) ≡ net.loads
  loads_stay = ext_get_or no_load (map (load_of (grouped_loads net group)) (range_with_len 0 net.nodes)) net.loads
      (length-map-range_with_len (load_of (grouped_loads net group)) 0 net.nodes ∙ sym built.one_load_a_node)
      (λ i l. let l' : i < net.nodes = omega (arith, l, length-map-range_with_len (load_of (grouped_loads net group)) 0 net.nodes) in
      get_or-map-range_with_len (load_of (grouped_loads net group)) 0 net.nodes i i no_load l' (omega arith)
      ∙ (λ t. record {
        low = one_sum (λ x. x.low) (low_load net) (λ j. refl) i l' t;
        high = one_sum (λ x. x.high) (high_load net) (λ j. refl) i l' t;
      }))

  pub stays : merged_network net group (length firsts) ≡ net
  stays =
      let count = as_many net.nodes group firsts h in
      ap (λ (n : ℕ). merged_network net group n) count
      ∙ (λ i. record {
        nodes = net.nodes;
        resistors = resistors_stay i;
        pads = (ap (λ (ps : List Pad). filter_map (pad_of ps) (range_with_len 0 net.nodes)) all_pads_stay ∙ pads_stay net built) i;
        loads = loads_stay i;
      })
