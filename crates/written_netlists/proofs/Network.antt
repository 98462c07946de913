-- The cards of a network say its lists, name its nodes, and make it again.
use Rattle.std.proofs.Common.{◌≡◌, ℕ, zero, suc, ◌+◌, ◌<◌, ◌≤◌, Bool, true, false, pos, List, [], ◌∷◌, ◌++◌, length, map, Contains, refl, sym, ◌∙◌, ap, subst, arith, inl, inr}
use Rattle.std.specs.Prelude.{Any, if◌then◌else◌, unsigned_abs, ◌≤ℤ◌, filter, flat_map}
use Rattle.std.specs.List.{enumerate_from, AllByRecursion}
use Rattle.std.proofs.lemmas.Bool.{cases_eq}
use Rattle.std.proofs.lemmas.List.{append-nil}
use Rattle.std.proofs.lemmas.List.Concat.{flat_map-append}
use Rattle.std.proofs.lemmas.List.FromFn.{length-enumerate_from, get_or-enumerate_from}
use Rattle.std.proofs.lemmas.List.Elements.{All-from_get_or, recursion_from_All, Contains-append_left, Contains-append_right, Contains-append_cases}
use Rattle.entry_list.specs.InTurn.{InTurn}
use Rattle.grid_net.specs.declared.part.Resistor.{Resistor}
use Rattle.grid_net.specs.declared.part.Pad.{Pad}
use Rattle.grid_net.specs.declared.part.Load.{Load}
use Rattle.grid_net.specs.declared.part.LoadRange.{LoadRange}
use Rattle.grid_net.specs.Limits.{IsBuilt, greatest_load}
use Rattle.grid_net.specs.Network.{Network, load_size, over_nodes}
use Rattle.spice_cards.specs.Card.{Card}
use Rattle.spice_cards.specs.Record.{Part, resistor_part, pad_part, load_part, nodes_of}
use Rattle.spice_grid.specs.Netlist.{resistors_of, shorts_of, loads_of}
use Rattle.spice_grid.specs.Written.{name_of, draws, drawing_loads}
use Rattle.written_netlists.proofs.Cards.{CardText}
use Rattle.written_netlists.proofs.Parts.{resistor_card, pad_card, load_card, IsResistorHere, IsPadHere, IsLoadHere, entry}

-- ## lists

pub each_both : {X : Type 0} (P : X → Type 0) (xs ys : List X) → AllByRecursion P xs → AllByRecursion P ys → AllByRecursion P (xs ++ ys)
each_both P [] ys h k = k
each_both P (x ∷ xs) ys h k = (h.0, each_both P xs ys h.1 k)

pub each_map : {X Y : Type 0} (P : X → Type 0) (Q : Y → Type 0) (f : X → Y) → ((x : X) → P x → Q (f x)) → (xs : List X) → AllByRecursion P xs → AllByRecursion Q (map f xs)
each_map P Q f h [] k = tt
each_map P Q f h (x ∷ xs) k = (h x k.0, each_map P Q f h xs k.1)

pub each_numbered : {X : Type 0} (P : X → Type 0) (n : ℕ) (xs : List X) → AllByRecursion P xs → AllByRecursion (λ (k : ℕ × X). P k.1) (enumerate_from n xs)
each_numbered P n [] h = tt
each_numbered P n (x ∷ xs) h = (h.0, each_numbered P (n + 1) xs h.1)

pub turn_both : {L E : Type 0} (says : L → E → Type 0) (ls ms : List L) (es fs : List E) → InTurn says ls es → InTurn says ms fs → InTurn says (ls ++ ms) (es ++ fs)
turn_both says [] ms [] fs h k = k
turn_both says (l ∷ ls) ms (e ∷ es) fs h k = (h.0, turn_both says ls ms es fs h.1 k)
turn_both says [] ms (e ∷ es) fs h k = absurd h
turn_both says (l ∷ ls) ms [] fs h k = absurd h

pub turn_map : {X L E : Type 0} (P : X → Type 0) (says : L → E → Type 0) (f : X → L) (g : X → E) → ((x : X) → P x → says (f x) (g x)) → (xs : List X) →
    AllByRecursion P xs → InTurn says (map f xs) (map g xs)
turn_map P says f g h [] k = tt
turn_map P says f g h (x ∷ xs) k = (h x k.0, turn_map P says f g h xs k.1)

pub map_twice : {X Y Z : Type 0} (f : Y → Z) (g : X → Y) (xs : List X) → map f (map g xs) ≡ map (λ x. f (g x)) xs
map_twice f g [] = refl
map_twice f g (x ∷ xs) = ap (λ z. f (g x) ∷ z) (map_twice f g xs)

-- What a list of parts gives, where each gives one entry, or none.
flat_numbered : {X A : Type 0} (f : ℕ × X → List A) (g : X → A) → ((k : ℕ × X) → f k ≡ g k.1 ∷ []) → (n : ℕ) (xs : List X) → flat_map f (enumerate_from n xs) ≡ map g xs
flat_numbered f g h n [] = refl
flat_numbered f g h n (x ∷ xs) = λ i. h (n, x) i ++ flat_numbered f g h (n + 1) xs i

pub flat_mapped : {X Y A : Type 0} (f : Y → List A) (g : X → Y) (xs : List X) → flat_map f (map g xs) ≡ flat_map (λ x. f (g x)) xs
flat_mapped f g [] = refl
flat_mapped f g (x ∷ xs) = ap (λ z. f (g x) ++ z) (flat_mapped f g xs)

flat_none : {X A : Type 0} (f : X → List A) → ((x : X) → f x ≡ []) → (xs : List X) → flat_map f xs ≡ []
flat_none f h [] = refl
flat_none f h (x ∷ xs) = λ i. h x i ++ flat_none f h xs i

map_same : {X : Type 0} (xs : List X) → map (λ (x : X). x) xs ≡ xs
map_same [] = refl
map_same (x ∷ xs) = ap (λ z. x ∷ z) (map_same xs)

-- ## sums over nodes

part_of_sum : (n : ℕ) (f : ℕ → ℕ) (i : ℕ) → i < n → f i ≤ over_nodes n f
part_of_sum zero f i l = absurd (omega arith)
part_of_sum (suc n) f i l = elim (cases_eq i n) [
  | inl e ↦ (let same = ap f e in omega (arith, same))
  | inr ne ↦ (let less = part_of_sum n f i (omega arith) in omega (arith, less))
]

-- ## what holds of the entries

-- A load within the limits.
abbrev IsLoad : LoadRange → Type 0
IsLoad l = (l.low ≤ℤ l.high) × (unsigned_abs l.low ≤ greatest_load) × (unsigned_abs l.high ≤ greatest_load)

drawn_by : (t : Bool) (n node : ℕ) (l : LoadRange) (others : List (ℕ × LoadRange)) → IsLoadHere n (node, l) → AllByRecursion (IsLoadHere n) others →
    AllByRecursion (IsLoadHere n) (if t then ((node, l) ∷ others) else others)
drawn_by true n node l others h k = (h, k)
drawn_by false n node l others h k = k

drawn_here : (n a : ℕ) (loads : List LoadRange) → a + length loads ≤ n → AllByRecursion IsLoad loads →
    AllByRecursion (IsLoadHere n) (filter (λ k. draws k.1) (enumerate_from a loads))
drawn_here n a [] few h = tt
drawn_here n a (l ∷ loads) few h =
    drawn_by (draws l) n a l (filter (λ k. draws k.1) (enumerate_from (a + 1) loads)) (omega arith, h.0.0, h.0.1, h.0.2) (drawn_here n (a + 1) loads (omega arith) h.1)

module _ (net : Network) (built : IsBuilt net) where
  pub resistors_good : AllByRecursion (IsResistorHere net.nodes) net.resistors
  resistors_good = recursion_from_All (IsResistorHere net.nodes) net.resistors
      (λ k d l. let r = built.is_network.each_resistor k d l in (r.a_is_node, r.b_is_node, r.resists, built.resistances k d l))

  pub pads_good : AllByRecursion (IsPadHere net.nodes) net.pads
  pads_good = recursion_from_All (IsPadHere net.nodes) net.pads (λ k d l. (built.pads_are_nodes k d l, built.voltages k d l))

  load_small : (i : ℕ) → i < net.nodes → load_size net i ≤ greatest_load
  load_small i l = let part = part_of_sum net.nodes (λ j. load_size net j) i l in let all = built.loads_in_limit in omega (arith, part, all)

  loads_good : AllByRecursion IsLoad net.loads
  loads_good = recursion_from_All IsLoad net.loads (All-from_get_or IsLoad net.loads (record { low = pos 0; high = pos 0 })
      (λ i l. let node : i < net.nodes = omega (arith, built.one_load_a_node) in
      let size = load_small i node in
      (built.is_network.each_load i (record { low = pos 0; high = pos 0 }) l, omega (arith, size), omega (arith, size))))

  pub drawn_good : AllByRecursion (IsLoadHere net.nodes) (drawing_loads net)
  drawn_good = drawn_here net.nodes 0 net.loads (omega (arith, built.one_load_a_node)) loads_good

-- ## the cards

abbrev pub cards : Network → List (List ℕ) → List CardText
cards net names =
    map (resistor_card names) (enumerate_from 1 net.resistors)
    ++ (map (pad_card names) (enumerate_from 1 net.pads) ++ map (load_card names) (enumerate_from 1 (drawing_loads net)))

abbrev pub resistor_said : ℕ × Resistor → Part
resistor_said k = resistor_part k.1.a k.1.b k.1.ohms

abbrev pub pad_said : ℕ × Pad → Part
pad_said k = pad_part k.1.node k.1.volts

abbrev pub load_said : ℕ × (ℕ × LoadRange) → Part
load_said k = load_part (entry k.1.0 k.1.1 ∷ [])

abbrev pub parts : Network → List Part
parts net =
    map resistor_said (enumerate_from 1 net.resistors)
    ++ (map pad_said (enumerate_from 1 net.pads) ++ map load_said (enumerate_from 1 (drawing_loads net)))

-- The loads as entries.
abbrev pub drawn : Network → List Load
drawn net = map (λ k. entry k.0 k.1) (drawing_loads net)

-- ## the lists of the parts

three_flat : {A : Type 0} (f : Part → List A) (net : Network) (rs ps ls : List A) →
    flat_map f (map resistor_said (enumerate_from 1 net.resistors)) ≡ rs → flat_map f (map pad_said (enumerate_from 1 net.pads)) ≡ ps →
    flat_map f (map load_said (enumerate_from 1 (drawing_loads net))) ≡ ls → flat_map f (parts net) ≡ rs ++ (ps ++ ls)
three_flat f net rs ps ls r p l =
    let xs = map resistor_said (enumerate_from 1 net.resistors) in
    let ys = map pad_said (enumerate_from 1 net.pads) in
    let zs = map load_said (enumerate_from 1 (drawing_loads net)) in
    flat_map-append f xs (ys ++ zs) ∙ ap (λ z. flat_map f xs ++ z) (flat_map-append f ys zs) ∙ (λ i. r i ++ (p i ++ l i))

none_of : {X A : Type 0} (f : Part → List A) (g : X → Part) → ((x : X) → f (g x) ≡ []) → (xs : List X) → flat_map f (map g xs) ≡ []
none_of f g h xs = flat_mapped f g xs ∙ flat_none (λ x. f (g x)) h xs

all_of : {X A : Type 0} (f : Part → List A) (g : ℕ × X → Part) (one : X → A) → ((k : ℕ × X) → f (g k) ≡ one k.1 ∷ []) → (xs : List X) →
    flat_map f (map g (enumerate_from 1 xs)) ≡ map one xs
all_of f g one h xs = flat_mapped f g (enumerate_from 1 xs) ∙ flat_numbered (λ k. f (g k)) one h 1 xs

pub resistors_are : (net : Network) → resistors_of (parts net) ≡ net.resistors
resistors_are net =
    three_flat (λ part. part.resistors) net (map (λ (r : Resistor). r) net.resistors) [] []
    (all_of (λ part. part.resistors) resistor_said (λ (r : Resistor). r) (λ k. refl) net.resistors)
    (none_of (λ part. part.resistors) pad_said (λ k. refl) (enumerate_from 1 net.pads))
    (none_of (λ part. part.resistors) load_said (λ k. refl) (enumerate_from 1 (drawing_loads net)))
    ∙ append-nil (map (λ (r : Resistor). r) net.resistors) ∙ map_same net.resistors

pub shorts_are : (net : Network) → shorts_of (parts net) ≡ []
shorts_are net =
    three_flat (λ part. part.shorts) net [] [] []
    (none_of (λ part. part.shorts) resistor_said (λ k. refl) (enumerate_from 1 net.resistors))
    (none_of (λ part. part.shorts) pad_said (λ k. refl) (enumerate_from 1 net.pads))
    (none_of (λ part. part.shorts) load_said (λ k. refl) (enumerate_from 1 (drawing_loads net)))

pub pads_are : (net : Network) → flat_map (λ part. part.pads) (parts net) ≡ net.pads
pads_are net =
    three_flat (λ part. part.pads) net [] (map (λ (p : Pad). p) net.pads) []
    (none_of (λ part. part.pads) resistor_said (λ k. refl) (enumerate_from 1 net.resistors))
    (all_of (λ part. part.pads) pad_said (λ (p : Pad). p) (λ k. refl) net.pads)
    (none_of (λ part. part.pads) load_said (λ k. refl) (enumerate_from 1 (drawing_loads net)))
    ∙ append-nil (map (λ (p : Pad). p) net.pads) ∙ map_same net.pads

pub loads_are : (net : Network) → loads_of (parts net) ≡ drawn net
loads_are net =
    three_flat (λ part. part.loads) net [] [] (drawn net)
    (none_of (λ part. part.loads) resistor_said (λ k. refl) (enumerate_from 1 net.resistors))
    (none_of (λ part. part.loads) pad_said (λ k. refl) (enumerate_from 1 net.pads))
    (all_of (λ part. part.loads) load_said (λ k. entry k.0 k.1) (λ k. refl) (drawing_loads net))

-- ## names of cards

abbrev pub IsNamed : List (List ℕ) → List ℕ → Type 0
IsNamed names name = (i : ℕ) × (i < length names) × (name ≡ name_of names i)

none_in : (name : List ℕ) → Contains {X = List ℕ} [] name → ⊥
none_in name h = let l = h.1 in omega arith

pub in_one : (names : List (List ℕ)) (i : ℕ) (name : List ℕ) → i < length names → Contains (name_of names i ∷ []) name → IsNamed names name
in_one names i name l (zero, k, e) = (i, l, sym e)
in_one names i name l (suc n, k, e) = absurd (omega arith)

pub in_two : (names : List (List ℕ)) (i j : ℕ) (name : List ℕ) → i < length names → j < length names → Contains (name_of names i ∷ name_of names j ∷ []) name → IsNamed names name
in_two names i j name l m (zero, k, e) = (i, l, sym e)
in_two names i j name l m (suc zero, k, e) = (j, m, sym e)
in_two names i j name l m (suc (suc n), k, e) = absurd (omega arith)

-- All nodes of these cards are names.
pub flat_named : (names : List (List ℕ)) (found : List Card) → AllByRecursion (λ card. (name : List ℕ) → Contains (nodes_of card) name → IsNamed names name) found →
    (name : List ℕ) → Contains (flat_map nodes_of found) name → IsNamed names name
flat_named names [] h name c = absurd (none_in name c)
flat_named names (card ∷ found) h name c = elim (Contains-append_cases (nodes_of card) (flat_map nodes_of found) name c) [
  | inl a ↦ h.0 name a
  | inr b ↦ flat_named names found h.1 name b
]

-- A node of one of these cards.
pub flat_has : {X : Type 0} (f : X → List (List ℕ)) (xs : List X) (name : List ℕ) → Any (λ x. Contains (f x) name) xs → Contains (flat_map f xs) name
flat_has f [] name (k, x, l, e, h) = absurd (omega arith)
flat_has f (y ∷ xs) name (zero, x, l, e, h) = Contains-append_left (f y) (flat_map f xs) name (subst (λ z. Contains (f z) name) (sym e) h)
flat_has f (y ∷ xs) name (suc k, x, l, e, h) = Contains-append_right (f y) (flat_map f xs) name (flat_has f xs name (k, x, omega arith, e, h))

pub any_numbered : {X : Type 0} (P : X → Type 0) (n : ℕ) (xs : List X) → Any P xs → Any (λ (k : ℕ × X). P k.1) (enumerate_from n xs)
any_numbered P n xs (k, x, l, e, h) =
    (k, (n + k, x), omega (arith, l, length-enumerate_from n xs), get_or-enumerate_from n xs k (n + k, x) l ∙ ap (λ z. (n + k, z)) e, h)
