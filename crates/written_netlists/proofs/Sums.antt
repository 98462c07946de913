-- The loads that draw anything, as they are read, add up to the loads of the network, and pads stay.
use Rattle.std.proofs.Common.{◌≡◌, ◌≢◌, ℕ, zero, suc, ◌+◌, ◌<◌, ◌≤◌, ◌==◌, eqb-true, eq-eqb, Bool, true, false, ℤ, pos, ◌+ℤ◌, List, [], ◌∷◌, length, map, get_or, All, refl, sym, ◌∙◌, ap, add-one, arith}
use Rattle.std.specs.Prelude.{Option, None, Some, if◌then◌else◌, unsigned_abs, ◌&&◌, not, max, filter, position}
use Rattle.std.specs.List.{enumerate_from, range_with_len, filter_map}
use Rattle.std.specs.Option.{option_map, option_to_list}
use Rattle.std.specs.Ordering.{int_eq}
use Rattle.std.specs.Str.{bytes_eq}
use Rattle.std.proofs.lemmas.Bool.Decides.{Decides-int_eq}
use Rattle.std.proofs.lemmas.Int.{ints}
use Rattle.std.proofs.lemmas.List.{ext_get_or}
use Rattle.std.proofs.lemmas.List.FromFn.{length-range_with_len, length-map-range_with_len, get_or-map-range_with_len}
use Rattle.std.proofs.lemmas.List.Elements.{All-head, All-tail, All-get_or}
use Rattle.std.proofs.lemmas.List.Quantifiers.{position-Some}
use Rattle.std.proofs.lemmas.Slice.Eq.{bytes_eq-Decides}
use Rattle.node_groups.specs.Groups.{AreGroups}
use Rattle.group_net.specs.Merging.{grouped_pad, merged_network}
use Rattle.grid_net.specs.declared.part.Pad.{Pad}
use Rattle.grid_net.specs.declared.part.Load.{Load}
use Rattle.grid_net.specs.declared.part.LoadRange.{LoadRange}
use Rattle.grid_net.specs.Adding.{end_sum, given_load}
use Rattle.grid_net.specs.Building.{pad_of, load_of}
use Rattle.grid_net.specs.Limits.{IsBuilt, greatest_load}
use Rattle.grid_net.specs.Network.{Network, load_size, over_nodes}
use Rattle.spice_grid.specs.Named.{ground, ground_pads}
use Rattle.spice_grid.specs.Written.{draws}
use Rattle.written_netlists.specs.Fits.{IsNodeName}
use Rattle.written_netlists.proofs.Alone.{in_range, alone}
use Rattle.written_netlists.proofs.Parts.{entry}

abbrev no_load : LoadRange
no_load = record { low = pos 0; high = pos 0 }

-- The entries of these loads, from this node on.
abbrev drawn_from : ℕ → List LoadRange → List Load
drawn_from a loads = map (λ k. entry k.0 k.1) (filter (λ k. draws k.1) (enumerate_from a loads))

-- ## a load that draws nothing

both_by : (a b : Bool) → not (a && b) ≡ false → (a ≡ true) × (b ≡ true)
both_by true true h = (refl, refl)
both_by true false h = absurd (let t : true ≡ false = h in cc)
both_by false b h = absurd (let t : true ≡ false = h in cc)

draws_nothing : (l : LoadRange) → draws l ≡ false → (l.low ≡ pos 0) × (l.high ≡ pos 0)
draws_nothing l h =
    let t = both_by (int_eq l.low (pos 0)) (int_eq l.high (pos 0)) h in
    ((Decides-int_eq l.low (pos 0)).0 t.0, (Decides-int_eq l.high (pos 0)).0 t.1)

-- ## sums of one end

zero_plus : (x : ℤ) → (pos 0 +ℤ x) ≡ x
zero_plus x = omega (arith, ints)

plus_zero : (x : ℤ) → (x +ℤ pos 0) ≡ x
plus_zero x = omega (arith, ints)

here_or_not : (t : Bool) (x : ℤ) → (if t then pos 0 else pos 0) +ℤ x ≡ x
here_or_not true x = zero_plus x
here_or_not false x = zero_plus x

module _ (end : Load → ℤ) (e : LoadRange → ℤ) (same : (n : ℕ) (l : LoadRange) → end (entry n l) ≡ e l) (none : (l : LoadRange) → draws l ≡ false → e l ≡ pos 0) where
  step_by : (t : Bool) (a i : ℕ) (l : LoadRange) (others : List (ℕ × LoadRange)) → draws l ≡ t →
      end_sum end (map (λ k. entry k.0 k.1) (if t then ((a, l) ∷ others) else others)) i
      ≡ (if a == i then e l else pos 0) +ℤ end_sum end (map (λ k. entry k.0 k.1) others) i
  step_by true a i l others d = ap (λ z. (if a == i then z else pos 0) +ℤ end_sum end (map (λ k. entry k.0 k.1) others) i) (same a l)
  step_by false a i l others d =
      sym (ap (λ z. (if a == i then z else pos 0) +ℤ end_sum end (map (λ k. entry k.0 k.1) others) i) (none l d)
      ∙ here_or_not (a == i) (end_sum end (map (λ k. entry k.0 k.1) others) i))

  step : (a i : ℕ) (l : LoadRange) (loads : List LoadRange) →
      end_sum end (drawn_from a (l ∷ loads)) i ≡ (if a == i then e l else pos 0) +ℤ end_sum end (drawn_from (a + 1) loads) i
  step a i l loads = step_by (draws l) a i l (filter (λ k. draws k.1) (enumerate_from (a + 1) loads)) refl

  apart_by : (t : Bool) (a i : ℕ) (x y : ℤ) → (a == i) ≡ t → a ≢ i → (if t then x else pos 0) +ℤ y ≡ y
  apart_by true a i x y d ne = absurd (ne (eqb-true a i d))
  apart_by false a i x y d ne = zero_plus y

  before : (loads : List LoadRange) (a i : ℕ) → i < a → end_sum end (drawn_from a loads) i ≡ pos 0
  before [] a i h = refl
  before (l ∷ loads) a i h =
      step a i l loads ∙ apart_by (a == i) a i (e l) (end_sum end (drawn_from (a + 1) loads) i) refl (λ q. omega arith) ∙ before loads (a + 1) i (omega arith)

  pub sum_at : (loads : List LoadRange) (a j : ℕ) → j < length loads → end_sum end (drawn_from a loads) (a + j) ≡ e (get_or loads j no_load)
  sum_at [] a j h = absurd (omega arith)
  sum_at (l ∷ loads) a zero h =
      let here : a ≡ a + 0 = omega arith in
      step a (a + 0) l loads
      ∙ ap (λ z. (if z then e l else pos 0) +ℤ end_sum end (drawn_from (a + 1) loads) (a + 0)) (eq-eqb a (a + 0) here)
      ∙ ap (λ z. e l +ℤ z) (before loads (a + 1) (a + 0) (omega arith)) ∙ plus_zero (e l)
  sum_at (l ∷ loads) a (suc j) h =
      let next : a + suc j ≡ (a + 1) + j = omega arith in
      step a (a + suc j) l loads
      ∙ apart_by (a == (a + suc j)) a (a + suc j) (e l) (end_sum end (drawn_from (a + 1) loads) (a + suc j)) refl (λ q. omega arith)
      ∙ ap (λ z. end_sum end (drawn_from (a + 1) loads) z) next
      ∙ sum_at loads (a + 1) j (omega arith)

-- ## the loads of the network

pub loads_again : (net : Network) → IsBuilt net → map (load_of (drawn_from 0 net.loads)) (range_with_len 0 net.nodes) ≡ net.loads
loads_again net built =
    ext_get_or no_load (map (load_of (drawn_from 0 net.loads)) (range_with_len 0 net.nodes)) net.loads
    (length-map-range_with_len (load_of (drawn_from 0 net.loads)) 0 net.nodes ∙ sym built.one_load_a_node)
    (λ i l. let node : i < net.nodes = omega (arith, l, length-map-range_with_len (load_of (drawn_from 0 net.loads)) 0 net.nodes) in
    let within : i < length net.loads = omega (arith, node, built.one_load_a_node) in
    let at : 0 + i ≡ i = omega arith in
    get_or-map-range_with_len (load_of (drawn_from 0 net.loads)) 0 net.nodes i i no_load node (omega arith)
    ∙ ap (load_of (drawn_from 0 net.loads)) (sym at)
    ∙ (λ t. record {
      low = sum_at (λ x. x.low) (λ x. x.low) (λ n x. refl) (λ x d. (draws_nothing x d).0) net.loads 0 i within t;
      high = sum_at (λ x. x.high) (λ x. x.high) (λ n x. refl) (λ x d. (draws_nothing x d).1) net.loads 0 i within t;
    }))

-- ## their sum

abbrev size : LoadRange → ℕ
size l = max (unsigned_abs l.low) (unsigned_abs l.high)

zero_size : (l : LoadRange) → draws l ≡ false → size l ≡ 0
zero_size l d =
    let z = draws_nothing l d in λ i. max (unsigned_abs (z.0 i)) (unsigned_abs (z.1 i))

given_by : (t : Bool) (a : ℕ) (l : LoadRange) (others : List (ℕ × LoadRange)) → draws l ≡ t →
    given_load (map (λ k. entry k.0 k.1) (if t then ((a, l) ∷ others) else others)) ≡ size l + given_load (map (λ k. entry k.0 k.1) others)
given_by true a l others d = refl
given_by false a l others d = let z = zero_size l d in omega (arith, z)

given_sum : (f : ℕ → ℕ) (loads : List LoadRange) (a : ℕ) → ((j : ℕ) → j < length loads → size (get_or loads j no_load) ≡ f (a + j)) →
    given_load (drawn_from a loads) + over_nodes a f ≡ over_nodes (a + length loads) f
given_sum f [] a h = let same = ap (λ z. over_nodes z f) (let e : a ≡ a + 0 = omega arith in e) in omega (arith, same)
given_sum f (l ∷ loads) a h =
    let first = given_by (draws l) a l (filter (λ k. draws k.1) (enumerate_from (a + 1) loads)) refl in
    let more = given_sum f loads (a + 1) (λ j b. h (suc j) (omega arith) ∙ ap f (let e : a + suc j ≡ (a + 1) + j = omega arith in e)) in
    let node = h 0 (omega arith) ∙ ap f (let e : a + 0 ≡ a = omega arith in e) in
    let one = ap (λ z. over_nodes z f) (add-one a) in
    let all = ap (λ z. over_nodes z f) (let e : (a + 1) + length loads ≡ a + suc (length loads) = omega arith in e) in
    omega (arith, first, more, node, one, all)

pub given_small : (net : Network) → IsBuilt net → given_load (drawn_from 0 net.loads) ≤ greatest_load
given_small net built =
    let sum = given_sum (λ i. load_size net i) net.loads 0 (λ j l. ap (λ i. load_size net i) (let e : j ≡ 0 + j = omega arith in e)) in
    let count = ap (λ n. over_nodes n (λ i. load_size net i)) (let e : 0 + length net.loads ≡ net.nodes = omega (arith, built.one_load_a_node) in e) in
    let most = built.loads_in_limit in
    omega (arith, sum, count, most)

-- ## pads

pads_kept : (n : ℕ) (pads : List Pad) → All (λ p. p.node < n) pads → map (grouped_pad (range_with_len 0 n)) pads ≡ pads
pads_kept n [] h = refl
pads_kept n (p ∷ pads) h =
    λ i. record { node = in_range n p.node (All-head (λ (q : Pad). q.node < n) p pads h) i; volts = p.volts } ∷ pads_kept n pads (All-tail (λ (q : Pad). q.node < n) p pads h) i

-- The law of networks without shorts, as it is handed in.
abbrev pub NothingShorted : Type 0
NothingShorted = (net : Network) (group firsts : List ℕ) → IsBuilt net → AreGroups net.nodes [] group firsts → merged_network net group (length firsts) ≡ net

pub pads_again : NothingShorted → (net : Network) → IsBuilt net → filter_map (pad_of net.pads) (range_with_len 0 net.nodes) ≡ net.pads
pads_again law net built =
    let all : List ℕ = range_with_len 0 net.nodes in
    ap (λ n. filter_map (pad_of net.pads) (range_with_len 0 n)) (sym (length-range_with_len 0 net.nodes))
    ∙ ap (λ (ps : List Pad). filter_map (pad_of ps) (range_with_len 0 (length all))) (sym (pads_kept net.nodes net.pads built.pads_are_nodes))
    ∙ ap (λ (m : Network). m.pads) (law net all all built (alone net.nodes))

-- ## ground is no node

ground_by : (names : List (List ℕ)) → All IsNodeName names → (o : Option ℕ) → position (bytes_eq ground) names ≡ o → ground_pads names ≡ []
ground_by names good None e = ap (λ z. option_to_list (option_map (λ number. record { node = number; volts = pos 0 }) z)) e
ground_by names good (Some i) e =
    let at = position-Some (bytes_eq ground) names i [] e in
    let name = All-get_or IsNodeName names i [] at.0 good in
    absurd (name.not_ground (sym ((bytes_eq-Decides ground (get_or names i [])).0 at.1)))

pub no_ground_pad : (names : List (List ℕ)) → All IsNodeName names → ground_pads names ≡ []
no_ground_pad names good = ground_by names good (position (bytes_eq ground) names) refl
