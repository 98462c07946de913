-- A written netlist reads back as its network and its names.
use Rattle.std.proofs.Common.{◌≡◌, ℕ, zero, suc, ◌+◌, ◌<◌, ◌==◌, ◌||◌, Bool, true, false, pos, List, [], ◌∷◌, ◌++◌, length, map, codes, Contains, Ok, eqb-true, refl, sym, ◌∙◌, ap, subst, append_assoc, arith, inl, inr, ◌⊎◌}
use Rattle.std.specs.Prelude.{decimal, Any, None, if◌then◌else◌, filter, filter_map, flat_map, slice_index_or}
use Rattle.std.specs.List.{enumerate_from, AllByRecursion}
use Rattle.std.specs.Ordering.{int_eq}
use Rattle.std.proofs.lemmas.List.{append-nil, map-append, get_or_default}
use Rattle.std.proofs.lemmas.List.Concat.{flat_map-append}
use Rattle.std.proofs.lemmas.List.Elements.{recursion_from_All, All-from_recursion, Contains-append_left, Contains-append_right}
use Rattle.entry_list.specs.InTurn.{InTurn}
use Rattle.fixed_decimal.specs.Printed.{printed}
use Rattle.grid_net.specs.declared.note.Note.{Note}
use Rattle.grid_net.specs.declared.part.Resistor.{Resistor}
use Rattle.grid_net.specs.declared.part.Pad.{Pad}
use Rattle.grid_net.specs.declared.part.Load.{Load}
use Rattle.grid_net.specs.declared.part.LoadRange.{LoadRange}
use Rattle.grid_net.specs.Building.{KeepsLimits, PadsAgree, network_of, first_net_refusal}
use Rattle.grid_net.specs.Network.{Network, load_range, stands_at}
use Rattle.reading.specs.Pattern.{joined}
use Rattle.reading.specs.Word.{Token, end_after}
use Rattle.spice_cards.specs.Format.{IsNetlist}
use Rattle.spice_cards.specs.Card.{Card, cards_of, capacitor_in, capacitors_of}
use Rattle.spice_cards.specs.Record.{SaysCard, nodes_of}
use Rattle.spice_grid.specs.Caps.{IsCapacitor}
use Rattle.spice_grid.specs.Named.{ground}
use Rattle.spice_grid.specs.Netlist.{SaysInOrder, ReadsNetlist, pads_of, network_by, refusal_by}
use Rattle.spice_grid.specs.Written.{name_of, draws, drawing_loads, card_end, line_of, numbered_card, note_line, resistor_line, pad_line, load_lines, written_netlist}
use Rattle.written_netlists.specs.Fits.{IsOnOneLine, HasCard, CanBeWritten, read_back}
use Rattle.written_netlists.proofs.Lines.{ended}
use Rattle.written_netlists.proofs.Values.{NumberLaws}
use Rattle.written_netlists.proofs.Cards.{CardText, Amps, AmpsIn, card_lines, units, last_units, past_all}
use Rattle.written_netlists.proofs.Taken.{IsCard, said_card, cards_are, no_capacitors}
use Rattle.written_netlists.proofs.Text.{WholeCards, title, note_bytes, card_text, first_card, text_units, all_units, text_read}
use Rattle.written_netlists.proofs.Parts.{resistor_card, pad_card, load_card, IsResistorHere, IsPadHere, IsLoadHere, entry, resistor_is, pad_is, load_is, resistor_says, pad_says, load_says, resistor_nodes, pad_nodes, load_nodes}
use Rattle.written_netlists.proofs.Network.{each_both, each_map, each_numbered, turn_both, turn_map, map_twice, flat_mapped, resistors_good, pads_good, drawn_good, cards, parts, drawn, resistor_said, pad_said, load_said, resistors_are, shorts_are, pads_are, loads_are, IsNamed, in_one, in_two, flat_named, flat_has, any_numbered}
use Rattle.written_netlists.proofs.Alone.{pads_agree}
use Rattle.written_netlists.proofs.Sums.{NothingShorted, loads_again, pads_again, given_small, no_ground_pad}

-- ## the text

flat_ended : {X : Type 0} (line : X → List ℕ) (f : X → CardText) → ((x : X) → line x ≡ flat_map ended (card_lines (f x))) → (xs : List X) →
    flat_map line xs ≡ flat_map ended (flat_map card_lines (map f xs))
flat_ended line f h [] = refl
flat_ended line f h (x ∷ xs) =
    (λ i. h x i ++ flat_ended line f h xs i) ∙ sym (flat_map-append ended (card_lines (f x)) (flat_map card_lines (map f xs)))

notes_ended : (notes : List Note) → flat_map note_line notes ≡ flat_map ended (map note_bytes notes)
notes_ended [] = refl
notes_ended (note ∷ notes) = ap (λ z. note_line note ++ z) (notes_ended notes)

resistor_ended : (names : List (List ℕ)) (k : ℕ × Resistor) → resistor_line names k ≡ flat_map ended (card_lines (resistor_card names k))
resistor_ended names k = sym (append-nil (resistor_line names k))

pad_ended : (names : List (List ℕ)) (k : ℕ × Pad) → pad_line names k ≡ flat_map ended (card_lines (pad_card names k))
pad_ended names k = sym (append-nil (pad_line names k))

load_ended_by : (t : Bool) (one two : CardText) (first second : List ℕ) → first ++ [] ≡ flat_map ended (card_lines one) → first ++ second ≡ flat_map ended (card_lines two) →
    first ++ (if t then [] else second) ≡ flat_map ended (card_lines (if t then one else two))
load_ended_by true one two first second e f = e
load_ended_by false one two first second e f = f

load_ended : (names : List (List ℕ)) (k : ℕ × (ℕ × LoadRange)) → load_lines names k ≡ flat_map ended (card_lines (load_card names k))
load_ended names k =
    let range = line_of (codes "*range" ∷ printed k.1.1.low 15 ∷ printed k.1.1.high 15 ∷ []) in
    load_ended_by (int_eq k.1.1.low k.1.1.high) (Amps (decimal k.0) (name_of names k.1.0) (printed (card_end k.1.1) 15))
    (AmpsIn (decimal k.0) (name_of names k.1.0) (printed (card_end k.1.1) 15) (printed k.1.1.low 15) (printed k.1.1.high 15))
    (numbered_card 73 k.0 (name_of names k.1.0) ground (printed (card_end k.1.1) 15)) range refl
    (ap (λ z. numbered_card 73 k.0 (name_of names k.1.0) ground (printed (card_end k.1.1) 15) ++ z) (sym (append-nil range)))

regroup : (t n r p i o e : List ℕ) → t ++ n ++ r ++ p ++ i ++ o ++ e ≡ t ++ ((n ++ (r ++ (p ++ i))) ++ (o ++ (e ++ [])))
regroup t n r p i o e = simp (append_assoc, append-nil)

text_same : (net : Network) (names : List (List ℕ)) (notes : List Note) → written_netlist net names notes ≡ card_text notes (cards net names)
text_same net names notes =
    let rs : List CardText = map (resistor_card names) (enumerate_from 1 net.resistors) in
    let ps : List CardText = map (pad_card names) (enumerate_from 1 net.pads) in
    let ls : List CardText = map (load_card names) (enumerate_from 1 (drawing_loads net)) in
    let ns : List (List ℕ) = map note_bytes notes in
    let lines : List (List ℕ) = flat_map card_lines (rs ++ (ps ++ ls)) in
    let last : List (List ℕ) = codes ".op" ∷ codes ".end" ∷ [] in
    let three : flat_map ended lines ≡ flat_map ended (flat_map card_lines rs) ++ (flat_map ended (flat_map card_lines ps) ++ flat_map ended (flat_map card_lines ls)) =
    ap (flat_map ended) (flat_map-append card_lines rs (ps ++ ls) ∙ ap (λ z. flat_map card_lines rs ++ z) (flat_map-append card_lines ps ls))
    ∙ flat_map-append ended (flat_map card_lines rs) (flat_map card_lines ps ++ flat_map card_lines ls)
    ∙ ap (λ z. flat_map ended (flat_map card_lines rs) ++ z) (flat_map-append ended (flat_map card_lines ps) (flat_map card_lines ls)) in
    let whole : flat_map ended ((ns ++ lines) ++ last) ≡ (flat_map note_line notes ++ (flat_map (resistor_line names) (enumerate_from 1 net.resistors) ++ (flat_map (pad_line names) (enumerate_from 1 net.pads) ++ flat_map (load_lines names) (enumerate_from 1 (drawing_loads net))))) ++ flat_map ended last =
    flat_map-append ended (ns ++ lines) last
    ∙ ap (λ z. z ++ flat_map ended last) (flat_map-append ended ns lines
    ∙ (λ i. sym (notes_ended notes) i ++ (three
    ∙ (λ j. sym (flat_ended (resistor_line names) (resistor_card names) (resistor_ended names) (enumerate_from 1 net.resistors)) j
    ++ (sym (flat_ended (pad_line names) (pad_card names) (pad_ended names) (enumerate_from 1 net.pads)) j
    ++ sym (flat_ended (load_lines names) (load_card names) (load_ended names) (enumerate_from 1 (drawing_loads net))) j))) i)) in
    regroup (ended title) (flat_map note_line notes) (flat_map (resistor_line names) (enumerate_from 1 net.resistors)) (flat_map (pad_line names) (enumerate_from 1 net.pads))
    (flat_map (load_lines names) (enumerate_from 1 (drawing_loads net))) (line_of (codes ".op" ∷ [])) (line_of (codes ".end" ∷ []))
    ∙ ap (λ z. ended title ++ z) (sym whole)

-- ## the loads that are drawn

any_later : {X : Type 0} (P : X → Type 0) (t : Bool) (x : X) (xs : List X) → Any P xs → Any P (if t then (x ∷ xs) else xs)
any_later P true x xs (k, y, l, e, h) = (suc k, y, omega arith, e, h)
any_later P false x xs a = a

any_here : (t : Bool) (a : ℕ) (l : LoadRange) (others : List (ℕ × LoadRange)) → t ≡ true → Any (λ (k : ℕ × LoadRange). k.0 ≡ a) (if t then ((a, l) ∷ others) else others)
any_here true a l others e = (0, (a, l), omega arith, refl, refl)
any_here false a l others e = absurd (let f : false ≡ true = e in cc)

any_drawn : (loads : List LoadRange) (a i : ℕ) → draws (slice_index_or loads i (record { low = pos 0; high = pos 0 })) ≡ true →
    Any (λ (k : ℕ × LoadRange). k.0 ≡ a + i) (filter (λ k. draws k.1) (enumerate_from a loads))
any_drawn [] a i d = absurd (let f : false ≡ true = d in cc)
any_drawn (l ∷ loads) a zero d =
    subst (λ z. Any (λ (k : ℕ × LoadRange). k.0 ≡ z) (filter (λ k. draws k.1) (enumerate_from a (l ∷ loads)))) (let e : a ≡ a + 0 = omega arith in e)
    (any_here (draws l) a l (filter (λ k. draws k.1) (enumerate_from (a + 1) loads)) d)
any_drawn (l ∷ loads) a (suc i) d =
    subst (λ z. Any (λ (k : ℕ × LoadRange). k.0 ≡ z) (filter (λ k. draws k.1) (enumerate_from a (l ∷ loads)))) (let e : (a + 1) + i ≡ a + suc i = omega arith in e)
    (any_later (λ (k : ℕ × LoadRange). k.0 ≡ (a + 1) + i) (draws l) (a, l) (filter (λ k. draws k.1) (enumerate_from (a + 1) loads)) (any_drawn loads (a + 1) i d))

-- ## the nodes of the cards

any_of : {X : Type 0} (P Q R : X → Type 0) → ((x : X) → R x → P x → Q x) → (xs : List X) → AllByRecursion R xs → Any P xs → Any Q xs
any_of P Q R h [] r (k, x, l, e, p) = absurd (omega arith)
any_of P Q R h (y ∷ xs) r (zero, x, l, e, p) = (zero, y, omega arith, refl, h y r.0 (subst P (sym e) p))
any_of P Q R h (y ∷ xs) r (suc k, x, l, e, p) =
    let later = any_of P Q R h xs r.1 (k, x, omega arith, e, p) in
    let within : later.0 < length xs = later.2 in
    (suc later.0, later.1, omega arith, later.3, later.4)

ends_by : (a b node : ℕ) (s t : Bool) → (a == node) ≡ s → (b == node) ≡ t → (s || t) ≡ true → (node ≡ a) ⊎ (node ≡ b)
ends_by a b node true t e f h = inl (sym (eqb-true a node e))
ends_by a b node false true e f h = inr (sym (eqb-true b node f))
ends_by a b node false false e f h = absurd (let g : false ≡ true = h in cc)

-- Nothing refuses lists that keep the limits and agree, as the law is handed in.
abbrev pub NoneRefuses : Type 0
NoneRefuses = (nodes : ℕ) (resistors : List Resistor) (pads : List Pad) (loads : List Load) → KeepsLimits nodes resistors pads loads → PadsAgree pads →
    first_net_refusal nodes resistors pads loads ≡ None

module _ (laws : NumberLaws) (whole : WholeCards) (law : NothingShorted) (none : NoneRefuses) (net : Network) (names : List (List ℕ)) (notes : List Note) (can : CanBeWritten net names notes) where
  abbrev n : ℕ
  n = length names

  abbrev rs : List (ℕ × Resistor)
  rs = enumerate_from 1 net.resistors

  abbrev ps : List (ℕ × Pad)
  ps = enumerate_from 1 net.pads

  abbrev ls : List (ℕ × (ℕ × LoadRange))
  ls = enumerate_from 1 (drawing_loads net)

  rs_good : AllByRecursion (λ (k : ℕ × Resistor). IsResistorHere n k.1) rs
  rs_good = each_numbered (IsResistorHere n) 1 net.resistors (subst (λ m. AllByRecursion (IsResistorHere m) net.resistors) (sym can.one_name_a_node) (resistors_good net can.built))

  ps_good : AllByRecursion (λ (k : ℕ × Pad). IsPadHere n k.1) ps
  ps_good = each_numbered (IsPadHere n) 1 net.pads (subst (λ m. AllByRecursion (IsPadHere m) net.pads) (sym can.one_name_a_node) (pads_good net can.built))

  ls_good : AllByRecursion (λ (k : ℕ × (ℕ × LoadRange)). IsLoadHere n k.1) ls
  ls_good = each_numbered (IsLoadHere n) 1 (drawing_loads net) (subst (λ m. AllByRecursion (IsLoadHere m) (drawing_loads net)) (sym can.one_name_a_node) (drawn_good net can.built))

  cards_good : AllByRecursion IsCard (cards net names)
  cards_good =
      each_both IsCard (map (resistor_card names) rs) (map (pad_card names) ps ++ map (load_card names) ls)
      (each_map (λ (k : ℕ × Resistor). IsResistorHere n k.1) IsCard (resistor_card names) (resistor_is names can.node_names laws) rs rs_good)
      (each_both IsCard (map (pad_card names) ps) (map (load_card names) ls)
      (each_map (λ (k : ℕ × Pad). IsPadHere n k.1) IsCard (pad_card names) (pad_is names can.node_names laws) ps ps_good)
      (each_map (λ (k : ℕ × (ℕ × LoadRange)). IsLoadHere n k.1) IsCard (load_card names) (load_is names can.node_names laws) ls ls_good))

  -- ## what the cards say

  abbrev said_rs : List Card
  said_rs = map (λ k. said_card (resistor_card names k)) rs

  abbrev said_ps : List Card
  said_ps = map (λ k. said_card (pad_card names k)) ps

  abbrev said_ls : List Card
  said_ls = map (λ k. said_card (load_card names k)) ls

  said_same : map said_card (cards net names) ≡ said_rs ++ (said_ps ++ said_ls)
  said_same =
      map-append said_card (map (resistor_card names) rs) (map (pad_card names) ps ++ map (load_card names) ls)
      ∙ ap (λ z. map said_card (map (resistor_card names) rs) ++ z) (map-append said_card (map (pad_card names) ps) (map (load_card names) ls))
      ∙ (λ i. map_twice said_card (resistor_card names) rs i ++ (map_twice said_card (pad_card names) ps i ++ map_twice said_card (load_card names) ls i))

  says : InTurn (SaysCard names) (said_rs ++ (said_ps ++ said_ls)) (parts net)
  says =
      turn_both (SaysCard names) said_rs (said_ps ++ said_ls) (map resistor_said rs) (map pad_said ps ++ map load_said ls)
      (turn_map (λ (k : ℕ × Resistor). IsResistorHere n k.1) (SaysCard names) (λ k. said_card (resistor_card names k)) resistor_said (resistor_says names can.node_names laws) rs rs_good)
      (turn_both (SaysCard names) said_ps said_ls (map pad_said ps) (map load_said ls)
      (turn_map (λ (k : ℕ × Pad). IsPadHere n k.1) (SaysCard names) (λ k. said_card (pad_card names k)) pad_said (pad_says names can.node_names laws) ps ps_good)
      (turn_map (λ (k : ℕ × (ℕ × LoadRange)). IsLoadHere n k.1) (SaysCard names) (λ k. said_card (load_card names k)) load_said (load_says names can.node_names laws) ls ls_good))

  -- ## their nodes

  abbrev Names : Card → Type 0
  Names card = (name : List ℕ) → Contains (nodes_of card) name → IsNamed names name

  all_named : AllByRecursion Names (said_rs ++ (said_ps ++ said_ls))
  all_named =
      each_both Names said_rs (said_ps ++ said_ls)
      (each_map (λ (k : ℕ × Resistor). IsResistorHere n k.1) Names (λ k. said_card (resistor_card names k))
      (λ k h name c. in_two names k.1.a k.1.b name h.0 h.1 (subst (λ z. Contains z name) (resistor_nodes names can.node_names k h) c)) rs rs_good)
      (each_both Names said_ps said_ls
      (each_map (λ (k : ℕ × Pad). IsPadHere n k.1) Names (λ k. said_card (pad_card names k))
      (λ k h name c. in_one names k.1.node name h.0 (subst (λ z. Contains z name) (pad_nodes names can.node_names k h) c)) ps ps_good)
      (each_map (λ (k : ℕ × (ℕ × LoadRange)). IsLoadHere n k.1) Names (λ k. said_card (load_card names k))
      (λ k h name c. in_one names k.1.0 name h.0 (subst (λ z. Contains z name) (load_nodes names can.node_names k h) c)) ls ls_good))

  abbrev flat : List Card → List (List ℕ)
  flat found = flat_map nodes_of found

  flat_same : flat (said_rs ++ (said_ps ++ said_ls)) ≡ flat said_rs ++ (flat said_ps ++ flat said_ls)
  flat_same = flat_map-append nodes_of said_rs (said_ps ++ said_ls) ∙ ap (λ z. flat said_rs ++ z) (flat_map-append nodes_of said_ps said_ls)

  of_two : (a b node : ℕ) → (node ≡ a) ⊎ (node ≡ b) → Contains (name_of names a ∷ name_of names b ∷ []) (name_of names node)
  of_two a b node (inl e) = (0, omega arith, ap (name_of names) (sym e))
  of_two a b node (inr e) = (1, omega arith, ap (name_of names) (sym e))

  on_resistor : (node : ℕ) → Any (λ (r : Resistor). stands_at node r ≡ true) net.resistors → Contains (flat said_rs) (name_of names node)
  on_resistor node a =
      subst (λ z. Contains z (name_of names node)) (sym (flat_mapped nodes_of (λ k. said_card (resistor_card names k)) rs))
      (flat_has (λ k. nodes_of (said_card (resistor_card names k))) rs (name_of names node)
      (any_of (λ (k : ℕ × Resistor). stands_at node k.1 ≡ true) (λ (k : ℕ × Resistor). Contains (nodes_of (said_card (resistor_card names k))) (name_of names node)) (λ (k : ℕ × Resistor). IsResistorHere n k.1)
      (λ k h e. subst (λ z. Contains z (name_of names node)) (sym (resistor_nodes names can.node_names k h))
      (of_two k.1.a k.1.b node (ends_by k.1.a k.1.b node (k.1.a == node) (k.1.b == node) refl refl e)))
      rs rs_good (any_numbered (λ (r : Resistor). stands_at node r ≡ true) 1 net.resistors a)))

  on_pad : (node : ℕ) → Any (λ (p : Pad). p.node ≡ node) net.pads → Contains (flat said_ps) (name_of names node)
  on_pad node a =
      subst (λ z. Contains z (name_of names node)) (sym (flat_mapped nodes_of (λ k. said_card (pad_card names k)) ps))
      (flat_has (λ k. nodes_of (said_card (pad_card names k))) ps (name_of names node)
      (any_of (λ (k : ℕ × Pad). k.1.node ≡ node) (λ (k : ℕ × Pad). Contains (nodes_of (said_card (pad_card names k))) (name_of names node)) (λ (k : ℕ × Pad). IsPadHere n k.1)
      (λ k h e. subst (λ z. Contains z (name_of names node)) (sym (pad_nodes names can.node_names k h)) (0, omega arith, ap (name_of names) e))
      ps ps_good (any_numbered (λ (p : Pad). p.node ≡ node) 1 net.pads a)))

  on_load : (node : ℕ) → draws (load_range net node) ≡ true → Contains (flat said_ls) (name_of names node)
  on_load node d =
      let a = any_numbered (λ (l : ℕ × LoadRange). l.0 ≡ 0 + node) 1 (drawing_loads net) (any_drawn net.loads 0 node d) in
      subst (λ z. Contains z (name_of names node)) (sym (flat_mapped nodes_of (λ k. said_card (load_card names k)) ls))
      (flat_has (λ k. nodes_of (said_card (load_card names k))) ls (name_of names node)
      (any_of (λ (k : ℕ × (ℕ × LoadRange)). k.1.0 ≡ 0 + node) (λ (k : ℕ × (ℕ × LoadRange)). Contains (nodes_of (said_card (load_card names k))) (name_of names node)) (λ (k : ℕ × (ℕ × LoadRange)). IsLoadHere n k.1)
      (λ k h e. subst (λ z. Contains z (name_of names node)) (sym (load_nodes names can.node_names k h)) (0, omega arith, ap (name_of names) (let f : k.1.0 ≡ node = omega arith in f)))
      ls ls_good a))

  on_card : (node : ℕ) → HasCard net node → Contains (flat said_rs ++ (flat said_ps ++ flat said_ls)) (name_of names node)
  on_card node (inl a) = Contains-append_left (flat said_rs) (flat said_ps ++ flat said_ls) (name_of names node) (on_resistor node a)
  on_card node (inr (inl a)) =
      Contains-append_right (flat said_rs) (flat said_ps ++ flat said_ls) (name_of names node)
      (Contains-append_left (flat said_ps) (flat said_ls) (name_of names node) (on_pad node a))
  on_card node (inr (inr d)) =
      Contains-append_right (flat said_rs) (flat said_ps ++ flat said_ls) (name_of names node)
      (Contains-append_right (flat said_ps) (flat said_ls) (name_of names node) (on_load node d))

  named_here : (name : List ℕ) → Contains names name → Contains (flat (said_rs ++ (said_ps ++ said_ls))) name
  named_here name (i, l, e) =
      let node : i < net.nodes = omega (arith, l, can.one_name_a_node) in
      subst (Contains (flat (said_rs ++ (said_ps ++ said_ls)))) (get_or_default names i [] name l ∙ e)
      (subst (λ z. Contains z (name_of names i)) (sym flat_same) (on_card i (can.each_has_a_card i node)))

  here_named : (name : List ℕ) → Contains (flat (said_rs ++ (said_ps ++ said_ls))) name → Contains names name
  here_named name c =
      let is = flat_named names (said_rs ++ (said_ps ++ said_ls)) all_named name c in
      (is.0, is.1, get_or_default names is.0 name [] is.1 ∙ sym is.2)

  -- ## the record

  abbrev us : List (List Token)
  us = all_units notes (cards net names)

  cards_same : cards_of us ≡ said_rs ++ (said_ps ++ said_ls)
  cards_same =
      let first : ℕ = first_card notes in
      let last : ℕ = past_all first (cards net names) in
      let end : List (List Token) = (end_after (joined (text_units notes (cards net names))) ∷ []) ∷ [] in
      ap cards_of (append_assoc (units first (cards net names)) (last_units last) end)
      ∙ cards_are (cards net names) first (last_units last ++ end) cards_good
      ∙ append-nil (map said_card (cards net names)) ∙ said_same

  none_here : capacitors_of us ≡ []
  none_here = ap (filter_map capacitor_in) (cards_same ∙ sym said_same) ∙ no_capacitors (cards net names)

  order : SaysInOrder us names (parts net)
  order = record {
    says = subst (λ z. InTurn (SaysCard names) z (parts net)) (sym cards_same) says;
    in_byte_order = can.in_byte_order;
    nodes = λ name. (
      (λ c. subst (λ z. Contains (flat z) name) (sym cards_same) (named_here name c)),
      (λ c. here_named name (subst (λ z. Contains (flat z) name) cards_same c)),
    );
  }

  pads_same : pads_of names (parts net) ≡ net.pads
  pads_same = (λ i. pads_are net i ++ no_ground_pad names can.node_names i) ∙ append-nil net.pads

  keeps : KeepsLimits net.nodes net.resistors net.pads (drawn net)
  keeps = record {
    ends_are_nodes = λ k d l. (let r = can.built.is_network.each_resistor k d l in (r.a_is_node, r.b_is_node));
    pads_are_nodes = can.built.pads_are_nodes;
    loads_are_nodes = All-from_recursion (λ (l : Load). l.node < net.nodes) (drawn net)
        (each_map (IsLoadHere net.nodes) (λ (l : Load). l.node < net.nodes) (λ k. entry k.0 k.1) (λ k h. h.0) (drawing_loads net) (drawn_good net can.built));
    few_nodes = can.built.few_nodes;
    few_resistors = can.built.few_resistors;
    resistances = λ k d l. ((can.built.is_network.each_resistor k d l).resists, can.built.resistances k d l);
    voltages = can.built.voltages;
    sum_of_loads = given_small net can.built;
  }

  accepted : refusal_by names (parts net) ≡ None
  accepted =
      (λ i. first_net_refusal (can.one_name_a_node i) (resistors_are net i) (pads_same i) (loads_are net i))
      ∙ none net.nodes net.resistors net.pads (drawn net) keeps (pads_agree net can.built)

  again : network_of net.nodes net.resistors net.pads (drawn net) ≡ net
  again = λ i. record {
    nodes = net.nodes;
    resistors = net.resistors;
    pads = pads_again law net can.built i;
    loads = loads_again net can.built i;
  }

  network_same : network_by names (parts net) ≡ net
  network_same = (λ i. network_of (can.one_name_a_node i) (resistors_are net i) (pads_same i) (loads_are net i)) ∙ again

  pub reads_back : ReadsNetlist (written_netlist net names notes) (Ok (read_back net names))
  reads_back = (
    us,
    subst (λ z. IsNetlist z us) (sym (text_same net names notes))
        (text_read laws whole notes (cards net names) (recursion_from_All IsOnOneLine notes can.notes_are_lines) cards_good),
    record { parts = parts net; order = order; accepted = accepted; network = sym network_same; shorts = sym (shorts_are net); caps = subst (λ z. InTurn (IsCapacitor names) z []) (sym none_here) tt },
  )
