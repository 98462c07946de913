-- A network of a grid reads back once it is written.
use Rattle.std.proofs.Common.{◌≡◌, ◌≢◌, ◌⊎◌, inl, inr, ℕ, zero, suc, ◌+◌, ◌-◌, ◌/◌, ◌%◌, ◌<◌, ◌≤◌, ◌==◌, ◌&&◌, ◌||◌, not, Bool, true, false, cond, eqb, eqb-true, eq-eqb, ltb, ℤ, pos, negsuc, neg_ℤ, ◌≤ℤ◌, List, [], ◌∷◌, ◌++◌, length, map, codes, get_or, slice_get, All, Contains, Option, None, Some, refl, sym, ◌∙◌, ap, subst, arith}
use Rattle.std.specs.Prelude.{Any, decimal, if◌then◌else◌}
use Rattle.std.specs.Fmt.{digits, digits_onto, digit_glyph, signed_decimal}
use Rattle.std.specs.List.{AllByRecursion, list_all}
use Rattle.std.specs.Option.{option_map}
use Rattle.std.proofs.lemmas.List.{get_or_default, length-map, get_or-map}
use Rattle.std.proofs.lemmas.List.Elements.{All-contains, All-map, Contains-get_or}
use Rattle.std.proofs.lemmas.Option.{get_or_from_slice_get, slice_get_within}
use Rattle.std.proofs.lemmas.Str.Ascii.{lowercase_is}
use Rattle.text_lex.specs.Bytes.{line_feed, is_white, is_plain, count_of}
use Rattle.text_lex.specs.declared.word.Mode.TheVariants.{LefDef, Lines}
use Rattle.text_lex.specs.Name.{IsName}
use Rattle.text_lex.specs.Piece.{IsBare}
use Rattle.node_names.specs.Folding.{folded}
use Rattle.name_table.specs.ByteOrder.{IsInByteOrder}
use Rattle.lef_tech.specs.declared.layer.RoutingLayer.{RoutingLayer}
use Rattle.lef_tech.specs.declared.tech.Tech.{Tech}
use Rattle.grid_pieces.specs.declared.grid.Grid.{Grid}
use Rattle.grid_net.specs.declared.note.Note.{Note}
use Rattle.grid_net.specs.declared.part.Resistor.{Resistor}
use Rattle.grid_net.specs.declared.part.Pad.{Pad}
use Rattle.grid_net.specs.Level.{AreJoined, IsWithin, IsSupplied}
use Rattle.grid_net.specs.Limits.{IsBuilt}
use Rattle.grid_net.specs.Network.{Network, first_pad, stands_at}
use Rattle.grid_network.specs.declared.extracted.Extracted.{Extracted}
use Rattle.grid_network.specs.declared.key.Key.{Key}
use Rattle.grid_network.specs.Drawing.{Drawing}
use Rattle.grid_network.specs.Layers.{IsNoteOf}
use Rattle.grid_network.specs.Network.{IsNetworkOf, IsNetworkOn}
use Rattle.grid_network.specs.Nodes.{layer_number, name_of}
use Rattle.grid_extract.specs.Extraction.{drawing_of}
use Rattle.spice_grid.specs.Named.{ground}
use Rattle.written_netlists.specs.Fits.{IsNodeName, IsOnOneLine, HasCard, CanBeWritten}
use Rattle.network_texts.specs.Texts.{AreNames}

-- ## names are in lower case

-- No byte is a capital.
abbrev IsKept : List ℕ → Type 0
IsKept text = AllByRecursion (λ c. (c < 65) ⊎ (90 < c)) text

folded_kept : (text : List ℕ) → IsKept text → folded text ≡ text
folded_kept [] h = refl
folded_kept (c ∷ cs) (inl low, h) = λ i. (lowercase_is c).1 low i ∷ folded_kept cs h i
folded_kept (c ∷ cs) (inr high, h) = λ i. (lowercase_is c).2 high i ∷ folded_kept cs h i

kept_both : (xs ys : List ℕ) → IsKept xs → IsKept ys → IsKept (xs ++ ys)
kept_both [] ys h k = k
kept_both (x ∷ xs) ys h k = (h.0, kept_both xs ys h.1 k)

glyph_by : (n : ℕ) (b : Bool) → ltb (n % 10) 10 ≡ b → cond b (48 + n % 10) (87 + n % 10) < 65
glyph_by n true e = omega arith
glyph_by n false e = absurd (let t : ltb (n % 10) 10 ≡ true = grind arith in let u : true ≡ false = sym t ∙ e in cc)

glyph_low : (n : ℕ) → digit_glyph false (n % 10) < 65
glyph_low n = glyph_by n (ltb (n % 10) 10) refl

onto_kept : (k n : ℕ) (front : List ℕ) → IsKept front → IsKept (digits_onto k 10 false n front)
onto_kept zero n front kept = kept
onto_kept (suc k) n front kept =
    by (eqb (n / 10) 0) (digit_glyph false (n % 10) ∷ front) (digits_onto k 10 false (n / 10) (digit_glyph false (n % 10) ∷ front))
    (inl (glyph_low n), kept)
    (onto_kept k (n / 10) (digit_glyph false (n % 10) ∷ front) (inl (glyph_low n), kept))
  where
    by : (b : Bool) (xs ys : List ℕ) → IsKept xs → IsKept ys → IsKept (cond b xs ys)
    by true xs ys p q = p
    by false xs ys p q = q

decimal_kept : (n : ℕ) → IsKept (decimal n)
unfolding digits
decimal_kept n = onto_kept 64 n [] tt

signed_kept : (z : ℤ) → IsKept (signed_decimal z)
signed_kept (pos n) = decimal_kept n
signed_kept (negsuc n) = (inl (omega arith), decimal_kept (suc n))

name_kept : (layers : ℕ) (key : Key) → IsKept (name_of layers key)
name_kept layers key =
    let number = decimal (layer_number layers key.net key.layer) in
    let x = signed_decimal key.x in
    let y = signed_decimal key.y in
    let bar : IsKept (codes "_") = (inr (omega arith), tt) in
    let first : IsKept (codes "n") = (inr (omega arith), tt) in
    kept_both ((((codes "n" ++ number) ++ codes "_") ++ x) ++ codes "_") y
    (kept_both (((codes "n" ++ number) ++ codes "_") ++ x) (codes "_")
    (kept_both ((codes "n" ++ number) ++ codes "_") x
    (kept_both (codes "n" ++ number) (codes "_") (kept_both (codes "n") number first (decimal_kept (layer_number layers key.net key.layer))) bar)
    (signed_kept key.x)) bar)
    (signed_kept key.y)

other_byte : (a b : ℕ) → a ≡ b → b < a → ⊥
other_byte a b e h = omega arith

not_zero : (layers : ℕ) (key : Key) → name_of layers key ≢ ground
not_zero layers key e = other_byte 110 48 (ap (λ z. get_or z 0 0) e) (omega arith)

node_name : (layers : ℕ) (key : Key) → IsBare Lines true (name_of layers key) [] → IsNodeName (name_of layers key)
node_name layers key word = record { word = word; no_capitals = folded_kept (name_of layers key) (name_kept layers key); not_ground = not_zero layers key }

-- ## names of notes stay on their line

no_feed_by : (white feed : Bool) → (not white && not feed && true) ≡ true → feed ≡ false
no_feed_by true feed h = absurd (let t : false ≡ true = h in cc)
no_feed_by false true h = absurd (let t : false ≡ true = h in cc)
no_feed_by false false h = refl

both : (a b : Bool) → (a && b) ≡ true → (a ≡ true) × (b ≡ true)
both true b h = (refl, h)
both false b h = absurd (let t : false ≡ true = h in cc)

no_feeds : (text : List ℕ) → list_all (is_plain LefDef) text ≡ true → count_of line_feed text ≡ 0
no_feeds [] h = refl
no_feeds (c ∷ cs) h =
    let t = both (is_plain LefDef c) (list_all (is_plain LefDef) cs) h in
    let none = ap (λ z. (if z then 1 else 0) + count_of line_feed cs) (no_feed_by (is_white LefDef c) (c == line_feed) t.0) in
    let more = no_feeds cs t.1 in
    omega (arith, none, more)

name_line : (name : List ℕ) → IsName name → count_of line_feed name ≡ 0
name_line name h = no_feeds name h.0.plain

none_some : {X : Type 0} (x : X) → None ≡ Some x → ⊥
none_some x h = cc

at_place : {X : Type 0} (xs : List X) (k : ℕ) (x : X) → slice_get xs k ≡ Some x → Contains xs x
at_place xs k x e = (k, slice_get_within xs k x e, get_or_from_slice_get xs k x x e)

layer_by : (layers : List RoutingLayer) → All (λ (l : RoutingLayer). IsName l.name) layers → (k : ℕ) (found : Option RoutingLayer) (name : List ℕ) →
    slice_get layers k ≡ found → option_map (λ (l : RoutingLayer). l.name) found ≡ Some name → IsName name
layer_by layers good k None name e h = absurd (none_some name h)
layer_by layers good k (Some layer) name e h =
    let same : layer.name ≡ name = cc in
    subst IsName same (All-contains (λ (l : RoutingLayer). IsName l.name) layers layer good (at_place layers k layer e))

note_line : (tech : Tech) (grid : Grid) → AreNames tech grid → (d : Drawing) → d.grid ≡ grid → (key : Key) (n : Note) → IsNoteOf d tech key n → IsOnOneLine n
note_line tech grid names d same key n is = record {
  layer = name_line n.layer (layer_by tech.routing names.layers key.layer (slice_get tech.routing key.layer) n.layer refl is.layer);
  net = name_line n.net (All-contains IsName grid.nets n.net names.nets (at_place grid.nets key.net n.net (ap (λ (g : Grid). slice_get g.nets key.net) (sym same) ∙ is.net)));
}

-- ## a node that is supplied has a card

first_by : (b : Bool) (p : Pad) (ps : List Pad) (i : ℕ) (v : ℤ) → (p.node == i) ≡ b → (Any (λ (q : Pad). q.node ≡ i) ps → Any (λ (q : Pad). q.node ≡ i) (p ∷ ps)) →
    (first_pad ps i ≡ Some v → Any (λ (q : Pad). q.node ≡ i) ps) → (if b then Some p.volts else first_pad ps i) ≡ Some v → Any (λ (q : Pad). q.node ≡ i) (p ∷ ps)
first_by true p ps i v e later more h = (0, p, omega arith, refl, eqb-true p.node i e)
first_by false p ps i v e later more h = later (more h)

any_later : (P : Pad → Type 0) (p : Pad) (ps : List Pad) → Any P ps → Any P (p ∷ ps)
any_later P p ps (k, q, l, e, h) = (suc k, q, omega arith, e, h)

any_pad : (pads : List Pad) (i : ℕ) (v : ℤ) → first_pad pads i ≡ Some v → Any (λ (p : Pad). p.node ≡ i) pads
any_pad [] i v h = absurd (none_some v h)
any_pad (p ∷ ps) i v h = first_by (p.node == i) p ps i v refl (any_later (λ (q : Pad). q.node ≡ i) p ps) (any_pad ps i v) h

or_true : (a b : Bool) → b ≡ true → (a || b) ≡ true
or_true true b h = refl
or_true false b h = h

stands_by : (r : Resistor) (i j : ℕ) → ((r.a ≡ i) × (r.b ≡ j)) ⊎ ((r.a ≡ j) × (r.b ≡ i)) → stands_at i r ≡ true
stands_by r i j (inl e) = ap (λ z. z || (r.b == i)) (eq-eqb r.a i e.0)
stands_by r i j (inr e) = or_true (r.a == i) (r.b == i) (eq-eqb r.b i e.1)

on_resistor : (net : Network) (i j : ℕ) → AreJoined net i j → Any (λ (r : Resistor). stands_at i r ≡ true) net.resistors
on_resistor net i j joined =
    let none : Resistor = record { a = 0; b = 0; ohms = pos 0 } in
    let r : Resistor = get_or net.resistors joined.place none in
    (joined.place, r, joined.in_list, get_or_default net.resistors joined.place r none joined.in_list, stands_by r i j (joined.ends none))

within_card : (net : Network) (k i : ℕ) → IsWithin net k i → HasCard net i
within_card net zero i h = inr (inl (any_pad net.pads i h.0 h.1))
within_card net (suc k) i (inl h) = within_card net k i h
within_card net (suc k) i (inr (j, l, joined, h)) = inl (on_resistor net i j joined)

-- ## the whole

-- The laws of the names of nodes, as they are handed in.
pub record ExtractLaws : Type 0 where
  pub names : (tech : Tech) (grid : Grid) (e : Extracted) → IsNetworkOn grid tech e → length e.names ≡ e.net.nodes
  pub words : (tech : Tech) (grid : Grid) (e : Extracted) → IsNetworkOn grid tech e → All (λ name. IsBare Lines true name []) e.names

word_at : (layers : ℕ) (keys : List Key) → All (λ name. IsBare Lines true name []) (map (name_of layers) keys) → (k : ℕ) (key : Key) → k < length keys →
    IsBare Lines true (name_of layers (get_or keys k key)) []
word_at layers keys words k key l =
    subst (λ name. IsBare Lines true name []) (get_or-map (name_of layers) keys k key (name_of layers key) l)
    (words k (name_of layers key) (omega (arith, l, length-map keys (name_of layers))))

module _ (laws : ExtractLaws) (tech : Tech) (grid : Grid) (e : Extracted) (named : AreNames tech grid) (is : IsNetworkOn grid tech e) (built : IsBuilt e.net)
    (supplied : (node : ℕ) → node < e.net.nodes → IsSupplied e.net node) where
  abbrev d : Drawing
  d = drawing_of grid is.pads is.taps

  network : IsNetworkOf d tech e
  network = is.network

  node_names : All IsNodeName e.names
  node_names =
      let layers : ℕ = length tech.routing in
      let words : All (λ name. IsBare Lines true name []) (map (name_of layers) e.keys) =
      subst (All (λ name. IsBare Lines true name [])) network.names (laws.words tech grid e is) in
      subst (All IsNodeName) (sym network.names)
      (All-map IsNodeName (name_of layers) e.keys
      (λ k key l. node_name layers (get_or e.keys k key) (word_at layers e.keys words k key l)))

  pub can_be_written : CanBeWritten e.net e.names e.notes
  can_be_written = record {
    built = built;
    one_name_a_node = laws.names tech grid e is;
    node_names = node_names;
    in_byte_order = subst IsInByteOrder (sym network.names) network.nodes.in_order;
    each_has_a_card = λ node l. (let h = supplied node l in within_card e.net h.0 node h.1);
    notes_are_lines = λ k n l.
        (let note = get_or e.notes k n in
        let key = (network.notes.all note).0 (Contains-get_or e.notes k n l) in note_line tech grid named d refl key.0 note key.1);
  }
