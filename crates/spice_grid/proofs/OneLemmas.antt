-- A text has one record or one refusal.
use Rattle.std.proofs.Common.{◌≡◌, ◌≢◌, ◌↔◌, ◌⊎◌, inl, inr, ℕ, ◌<◌, ℤ, Bool, true, false, if◌then◌else◌, List, [], ◌∷◌, ◌++◌, Option, None, Some, Result, Ok, Err, get_or, slice_get, Contains, refl, sym, ap, ◌∙◌, subst, arith}
use Rattle.std.specs.Prelude.{neg_ℤ}
use Rattle.std.proofs.lemmas.Option.{slice_get_within, get_or_from_slice_get}
use Rattle.capacitors.specs.declared.End.{End}
use Rattle.capacitors.specs.declared.End.TheVariants as ends
use Rattle.capacitors.specs.declared.Cap.{Cap}
use Rattle.entry_list.specs.InTurn.{InTurn}
use Rattle.entry_list.specs.Laws.{in-turn-one}
use Rattle.grid_net.specs.declared.part.Load.{Load as NetLoad}
use Rattle.grid_net.specs.declared.error.Quantity.{Quantity}
use Rattle.grid_net.specs.declared.error.NetError.{NetError}
use Rattle.grid_net.specs.declared.error.NetError.TheVariants as net
use Rattle.name_table.specs.ByteOrder.{IsBefore, IsInByteOrder}
use Rattle.node_names.specs.Folding.{folded}
use Rattle.number_place.specs.declared.place.NumberPlace.{NumberPlace}
use Rattle.number_place.specs.declared.place.Refused.{Refused}
use Rattle.number_place.specs.Place.{IsNumberAt}
use Rattle.outside.specs.declared.place.Place.{Place}
use Rattle.reading.specs.declared.error.ReadError.{ReadError}
use Rattle.reading.specs.Word.{Token}
use Rattle.spice_cards.specs.declared.error.CardsKind.{CardsKind}
use Rattle.spice_cards.specs.declared.error.CardsKind.TheVariants as cards
use Rattle.spice_cards.specs.Card.{Card, Resistor, Source, Load, Capacitor, CapacitorCard, Ends, is_ground, cards_of, capacitors_of}
use Rattle.spice_cards.specs.Fault.{is_zero}
use Rattle.spice_cards.specs.Format.{IsNetlist, IsRefusedNetlist}
use Rattle.spice_cards.specs.Number.{ohms, volts, amperes, farads}
use Rattle.spice_cards.specs.Record.{HasNumber, Part, resistor_part, short_part, pad_part, load_part, SaysCard, SaysSource, LoadsNode, IsRange}
use Rattle.spice_grid.specs.declared.error.NetRefusal.{NetRefusal}
use Rattle.spice_grid.specs.declared.error.NetRefusal.TheVariants.{Range, PadConflict}
use Rattle.spice_grid.specs.declared.error.SpiceError.{SpiceError}
use Rattle.spice_grid.specs.declared.error.SpiceKind.{SpiceKind}
use Rattle.spice_grid.specs.declared.error.SpiceKind.TheVariants as kinds
use Rattle.spice_grid.specs.declared.named.Named.{Named}
use Rattle.spice_grid.specs.Caps.{IsEnd, IsCapacitor}
use Rattle.spice_grid.specs.Named.{IsRefusedFor}
use Rattle.spice_grid.specs.Netlist.{SaysInOrder, shorts_of, network_by, refusal_by, IsNamedBy, RefusesNetwork, spice_kind, RefusesWord, RefusesText, ReadsNetlist, IsAtWord}
use Rattle.spice_grid.proofs.PlaceLemmas.{not_before_itself}

-- What other crates tell: a text stands for one number in a place, and names that are the same have one order.
abbrev pub OneNumber : Type 0
OneNumber = (place : NumberPlace) (text : List ℕ) (r s : Result ℤ Refused) → IsNumberAt place text r → IsNumberAt place text s → r ≡ s

abbrev pub OneOrder : Type 0
OneOrder = (first second : List (List ℕ)) → IsInByteOrder first → IsInByteOrder second → ((name : List ℕ) → Contains first name ↔ Contains second name) → first ≡ second

-- ## one part for each card

same_ok : (v w : ℤ) → ◌≡◌ {A = Result ℤ Refused} (Ok v) (Ok w) → v ≡ w
same_ok v w h = cc

module _ (number : OneNumber) (names : List (List ℕ)) (up : IsInByteOrder names) where
  value : (place : NumberPlace) (text : List ℕ) (v w : ℤ) → IsNumberAt place text (Ok v) → IsNumberAt place text (Ok w) → v ≡ w
  value place text v w h k = same_ok v w (number place text (Ok v) (Ok w) h k)

  node : (name : List ℕ) (m n : ℕ) → HasNumber names name m → HasNumber names name n → m ≡ n
  node name m n h k =
      let lower : m < n → ⊥ = below m n h k in
      let higher : n < m → ⊥ = below n m k h in omega (arith, lower, higher)
    where
      at : (i : ℕ) → slice_get names i ≡ Some (folded name) → get_or names i [] ≡ folded name
      at i e = get_or_from_slice_get names i (folded name) [] e

      below : (i j : ℕ) → slice_get names i ≡ Some (folded name) → slice_get names j ≡ Some (folded name) → i < j → ⊥
      below i j e f less =
          not_before_itself (folded name) (subst (λ z. IsBefore z (folded name)) (at i e) (subst (λ z. IsBefore (get_or names i []) z) (at j f)
          (up i j [] less (slice_get_within names j (folded name) f))))

  either_one : (a b : List ℕ) (v w : ℤ) (m n i j : ℕ) (p q : Part) → v ≡ w → m ≡ i → n ≡ j → p ≡ (if is_zero v then short_part m n else resistor_part m n v) →
      q ≡ (if is_zero w then short_part i j else resistor_part i j w) → p ≡ q
  either_one a b v w m n i j p q same first second e f =
      e ∙ ap (λ z. if is_zero z then short_part m n else resistor_part m n z) same
      ∙ (λ t. if is_zero w then short_part (first t) (second t) else resistor_part (first t) (second t) w) ∙ sym f

  source_one : (first second : Bool) (a b : List ℕ) (v w : ℤ) (p q : Part) → v ≡ w → SaysSource first second names a b v p → SaysSource first second names a b w q → p ≡ q
  source_one true true a b v w p q same h k = h.2 ∙ (λ t. pad_part (node a h.0 k.0 h.1 k.1 t) (same t)) ∙ sym k.2
  source_one true false a b v w p q same h k = h.2 ∙ (λ t. pad_part (node b h.0 k.0 h.1 k.1 t) (neg_ℤ (same t))) ∙ sym k.2
  source_one false true a b v w p q same h k = h.2 ∙ (λ t. pad_part (node a h.0 k.0 h.1 k.1 t) (same t)) ∙ sym k.2
  source_one false false a b v w p q same h k = h.5 ∙ (λ t. short_part (node a h.0 k.0 h.2 k.2 t) (node b h.1 k.1 h.3 k.3 t)) ∙ sym k.5

  loads_one : (first : Bool) (name : List ℕ) (low high low' high' : ℤ) (ls ks : List NetLoad) → low ≡ low' → high ≡ high' → LoadsNode first names name low high ls →
      LoadsNode first names name low' high' ks → ls ≡ ks
  loads_one true name low high low' high' ls ks e f h k = h ∙ sym k
  loads_one false name low high low' high' ls ks e f h k =
      h.2 ∙ (λ t. record { node = node name h.0 k.0 h.1 k.1 t; low = e t; high = f t } ∷ []) ∙ sym k.2

  range_one : (range : Option Ends) (v w low high low' high' : ℤ) → v ≡ w → IsRange range v low high → IsRange range w low' high' → (low ≡ low') × (high ≡ high')
  range_one None v w low high low' high' same h k = (h.0 ∙ same ∙ sym k.0, h.1 ∙ same ∙ sym k.1)
  range_one (Some ends) v w low high low' high' same h k = (value amperes ends.low low low' h.0 k.0, value amperes ends.high high high' h.1 k.1)

  part_one : (card : Card) (p q : Part) → SaysCard names card p → SaysCard names card q → p ≡ q
  part_one (Resistor a b text) p q h k =
      either_one a b h.0 k.0 h.1 h.2 k.1 k.2 p q (value ohms text h.0 k.0 h.3 k.3) (node a h.1 k.1 h.4 k.4) (node b h.2 k.2 h.5 k.5) h.6 k.6
  part_one (Source a b text) p q h k = source_one (is_ground a) (is_ground b) a b h.0 k.0 p q (value volts text h.0 k.0 h.1 k.1) h.2 k.2
  part_one (Load a b text range) p q h k =
      let same = value amperes text h.0 k.0 h.3 k.3 in
      let ends = range_one range h.0 k.0 h.1 h.2 k.1 k.2 same h.4 k.4 in
      let s = h.5 in
      let t = k.5 in
      let first = loads_one (is_ground a) a h.1 h.2 k.1 k.2 s.0 t.0 ends.0 ends.1 s.2 t.2 in
      let second = loads_one (is_ground b) b (neg_ℤ h.2) (neg_ℤ h.1) (neg_ℤ k.2) (neg_ℤ k.1) s.1 t.1 (ap neg_ℤ ends.1) (ap neg_ℤ ends.0) s.3 t.3 in
      s.4 ∙ (λ t. load_part (first t ++ second t)) ∙ sym t.4
  part_one (Capacitor a b text) p q h k = h ∙ sym k

  -- one end for each name

  named_there : (name : List ℕ) (n : ℕ) → HasNumber names name n → Contains names (folded name)
  named_there name n h = (n, slice_get_within names n (folded name) h, get_or_from_slice_get names n (folded name) (folded name) h)

  unlike : (name : List ℕ) → is_ground name ≡ false → is_ground name ≡ true → ⊥
  unlike name e f = let t : ◌≡◌ {A = Bool} false true = sym e ∙ f in cc

  end_one : (name : List ℕ) (x y : End) → IsEnd names name x → IsEnd names name y → x ≡ y
  end_one name (ends.Node m) (ends.Node n) h k = ap (λ z. ends.Node z) (node name m n h.1 k.1)
  end_one name (ends.Node m) ends.Ground h k = absurd (unlike name h.0 k)
  end_one name (ends.Node m) ends.Nowhere h k = absurd (k.1 (named_there name m h.1))
  end_one name ends.Ground (ends.Node n) h k = absurd (unlike name k.0 h)
  end_one name ends.Ground ends.Ground h k = refl
  end_one name ends.Ground ends.Nowhere h k = absurd (unlike name k.0 h)
  end_one name ends.Nowhere (ends.Node n) h k = absurd (h.1 (named_there name n k.1))
  end_one name ends.Nowhere ends.Ground h k = absurd (unlike name h.0 k)
  end_one name ends.Nowhere ends.Nowhere h k = refl

  cap_one : (card : CapacitorCard) (x y : Cap) → IsCapacitor names card x → IsCapacitor names card y → x ≡ y
  cap_one card x y h k =
      let first = end_one card.a x.a y.a h.a k.a in
      let second = end_one card.b x.b y.b h.b k.b in
      let same = value farads card.value x.farads y.farads h.farads k.farads in
      λ t. record { a = first t; b = second t; farads = same t }

-- ## one network for the units

module _ (number : OneNumber) (order : OneOrder) (units : List (List Token)) where
  names_one : (ns ms : List (List ℕ)) (ps qs : List Part) → SaysInOrder units ns ps → SaysInOrder units ms qs → ns ≡ ms
  names_one ns ms ps qs h k =
      order ns ms h.in_byte_order k.in_byte_order (λ name. ((λ x. (k.nodes name).1 ((h.nodes name).0 x)), (λ x. (h.nodes name).1 ((k.nodes name).0 x))))

  parts_one : (ns ms : List (List ℕ)) (ps qs : List Part) → ns ≡ ms → SaysInOrder units ns ps → SaysInOrder units ms qs → ps ≡ qs
  parts_one ns ms ps qs same h k =
      in-turn-one (SaysCard ns) (λ card p q. part_one number ns h.in_byte_order card p q) (cards_of units) ps qs h.says
      (subst (λ z. InTurn (SaysCard z) (cards_of units) qs) (sym same) k.says)

  pub record_one : (a b : Named) → IsNamedBy units a → IsNamedBy units b → a ≡ b
  record_one a b h k =
      let ns = names_one a.names b.names h.parts k.parts h.order k.order in
      let ps = parts_one a.names b.names h.parts k.parts ns h.order k.order in
      let nets : a.net ≡ b.net = h.network ∙ (λ t. network_by (ns t) (ps t)) ∙ sym k.network in
      let shorts : a.shorts ≡ b.shorts = h.shorts ∙ ap shorts_of ps ∙ sym k.shorts in
      let caps : a.caps ≡ b.caps = in-turn-one (IsCapacitor a.names) (λ card x y. cap_one number a.names h.order.in_byte_order card x y) (capacitors_of units) a.caps b.caps h.caps
      (subst (λ z. InTurn (IsCapacitor z) (capacitors_of units) b.caps) (sym ns) k.caps) in
      λ t. record { net = nets t; names = ns t; shorts = shorts t; caps = caps t }

  refusal_here : (ns ms : List (List ℕ)) (ps qs : List Part) → SaysInOrder units ns ps → SaysInOrder units ms qs → refusal_by ns ps ≡ refusal_by ms qs
  refusal_here ns ms ps qs h k =
      let same = names_one ns ms ps qs h k in
      let parts = parts_one ns ms ps qs same h k in λ t. refusal_by (same t) (parts t)

  -- A network that nothing refuses is not refused.
  pub not_refused : (named : Named) (refusal : NetRefusal) → IsNamedBy units named → RefusesNetwork units refusal → ⊥
  not_refused named refusal h (ns, ps, k, told) = none refusal (sym h.accepted ∙ refusal_here named.names ns h.parts ps h.order k) told
    where
      none : (refusal : NetRefusal) → None ≡ refusal_by ns ps → IsRefusedFor ns (refusal_by ns ps) refusal → ⊥
      none (Range quantity at number) e f = cc
      none (PadConflict node first second) e f = let g = f.2 in cc

  pub refusal_one : (a b : NetRefusal) → RefusesNetwork units a → RefusesNetwork units b → a ≡ b
  refusal_one a b (ns, ps, h, told) (ms, qs, k, retold) =
      told_one ns (refusal_by ns ps) a b told
      (subst (λ z. IsRefusedFor z (refusal_by ns ps) b) (sym (names_one ns ms ps qs h k)) (found_moves ms (refusal_by ms qs) (refusal_by ns ps) b (sym (refusal_here ns ms ps qs h k)) retold))
    where
      found_moves : (names : List (List ℕ)) (x y : Option NetError) (r : NetRefusal) → x ≡ y → IsRefusedFor names x r → IsRefusedFor names y r
      found_moves names x y r e f = subst (λ z. IsRefusedFor names z r) e f

      same_range : (p q : Quantity) (i j : ℕ) (v w : ℤ) → ◌≡◌ {A = Option NetError} (Some (net.Range p i v)) (Some (net.Range q j w)) → ◌≡◌ {A = NetRefusal} (Range p i v) (Range q j w)
      same_range p q i j v w e = cc

      told_one : (names : List (List ℕ)) (found : Option NetError) (r s : NetRefusal) → IsRefusedFor names found r → IsRefusedFor names found s → r ≡ s
      told_one names found (Range p i v) (Range q j w) e f = same_range p q i j v w (sym e ∙ f)
      told_one names found (Range p i v) (PadConflict node first second) e f = let g = f.2 in absurd (cc)
      told_one names found (PadConflict node first second) (Range q j w) e f = let g = e.2 in absurd (cc)
      told_one names found (PadConflict node first second) (PadConflict other third fourth) e f = conflict_one names node other first second third fourth e.0 f.0 e.1 f.1 (sym e.2 ∙ f.2)
        where
          conflict_one : (names : List (List ℕ)) (node other : List ℕ) (first second third fourth : ℤ) (m n : ℕ) → slice_get names m ≡ Some node → slice_get names n ≡ Some other →
              ◌≡◌ {A = Option NetError} (Some (net.PadConflict m first second)) (Some (net.PadConflict n third fourth)) → ◌≡◌ {A = NetRefusal} (PadConflict node first second) (PadConflict other third fourth)
          conflict_one names node other first second third fourth m n at there e =
              let same : m ≡ n = cc in
              let one : first ≡ third = cc in
              let two : second ≡ fourth = cc in
              let name : node ≡ other = cc in
              λ t. PadConflict (name t) (one t) (two t)

-- ## one answer for the text

-- A refusal is want of memory, that of the network, or that of a word.
abbrev WordRefusal : List ℕ → Place → SpiceKind → Type 0
WordRefusal text place kind = (of : CardsKind) × RefusesWord text place of × (kind ≡ spice_kind of)

abbrev NetworkRefusal : List ℕ → SpiceKind → Type 0
NetworkRefusal text kind = (units : List (List Token)) × (refusal : NetRefusal) × IsNetlist text units × RefusesNetwork units refusal × (kind ≡ kinds.Net refusal)

told : (text : List ℕ) (place : Place) (kind : SpiceKind) → RefusesText text place kind → (kind ≡ kinds.Want) ⊎ (NetworkRefusal text kind ⊎ WordRefusal text place kind)
told text place kinds.Syntax h = inr (inr (cards.Syntax, h, refl))
told text place kinds.OutOfProfileCard h = inr (inr (cards.OutOfProfileCard, h, refl))
told text place kinds.FloatingSource h = inr (inr (cards.FloatingSource, h, refl))
told text place (kinds.Number error) h = inr (inr (cards.Number error, h, refl))
told text place kinds.OutOfRange h = inr (inr (cards.OutOfRange, h, refl))
told text place (kinds.Net refusal) h = inr (inl (h.0, refusal, h.1, h.2, refl))
told text place kinds.Want h = inl refl

at_word_not : (kind : SpiceKind) (refusal : NetRefusal) → kind ≡ kinds.Net refusal → IsAtWord kind → ⊥
at_word_not kind refusal e h = subst IsAtWord e h

at_word_no_want : (kind : SpiceKind) → kind ≡ kinds.Want → IsAtWord kind → ⊥
at_word_no_want kind e h = subst IsAtWord e h

-- What the reading of the cards tells.
pub record CardsLaws : Type 0 where
  pub units : (text : List ℕ) (a b : List (List Token)) → IsNetlist text a → IsNetlist text b → a ≡ b
  pub refusal : (text : List ℕ) (a b : ReadError CardsKind) → IsRefusedNetlist text a → IsRefusedNetlist text b → a ≡ b
  pub not_both : (text : List ℕ) (units : List (List Token)) (error : ReadError CardsKind) → IsNetlist text units → IsRefusedNetlist text error → ⊥

module _ (laws : CardsLaws) (number : OneNumber) (order : OneOrder) (text : List ℕ) where
  pub records_agree : (a b : Named) → ReadsNetlist text (Ok a) → ReadsNetlist text (Ok b) → a ≡ b
  records_agree a b h k = record_one number order h.0 a b h.2 (subst (λ z. IsNamedBy z b) (sym (laws.units text h.0 k.0 h.1 k.1)) k.2)

  words_agree : (p q : Place) (j k : CardsKind) → RefusesWord text p j → RefusesWord text q k → ◌≡◌ {A = ReadError CardsKind} (record { place = p; kind = j }) (record { place = q; kind = k })
  words_agree p q j k h i = laws.refusal text (record { place = p; kind = j }) (record { place = q; kind = k }) h i

  networks_agree : (a b : SpiceKind) → NetworkRefusal text a → NetworkRefusal text b → a ≡ b
  networks_agree a b (us, r, is, refused, e) (vs, s, also, again, f) =
      e ∙ ap (λ z. kinds.Net z) (refusal_one number order us r s refused (subst (λ z. RefusesNetwork z s) (sym (laws.units text us vs is also)) again)) ∙ sym f

  apart : (a b : SpiceKind) (p : Place) → NetworkRefusal text a → WordRefusal text p b → ⊥
  apart a b p (us, r, is, refused, e) (k, at, f) = laws.not_both text us (record { place = p; kind = k }) is at

  kinds_by : (a b : SpiceError) → (a.kind ≡ kinds.Want) ⊎ (NetworkRefusal text a.kind ⊎ WordRefusal text a.place a.kind) →
      (b.kind ≡ kinds.Want) ⊎ (NetworkRefusal text b.kind ⊎ WordRefusal text b.place b.kind) → a.kind ≢ kinds.Want → b.kind ≢ kinds.Want → a.kind ≡ b.kind
  kinds_by a b (inl e) k first_not second_not = absurd (first_not e)
  kinds_by a b h (inl e) first_not second_not = absurd (second_not e)
  kinds_by a b (inr (inl h)) (inr (inl k)) first_not second_not = networks_agree a.kind b.kind h k
  kinds_by a b (inr (inl h)) (inr (inr k)) first_not second_not = absurd (apart a.kind b.kind b.place h k)
  kinds_by a b (inr (inr h)) (inr (inl k)) first_not second_not = absurd (apart b.kind a.kind a.place k h)
  kinds_by a b (inr (inr h)) (inr (inr k)) first_not second_not = h.2 ∙ ap (λ (z : ReadError CardsKind). spice_kind z.kind) (words_agree a.place b.place h.0 k.0 h.1 k.1) ∙ sym k.2

  pub kinds_agree : (a b : SpiceError) → ReadsNetlist text (Err a) → ReadsNetlist text (Err b) → a.kind ≢ kinds.Want → b.kind ≢ kinds.Want → a.kind ≡ b.kind
  kinds_agree a b h k first_not second_not = kinds_by a b (told text a.place a.kind h) (told text b.place b.kind k) first_not second_not

  places_by : (a b : SpiceError) → (a.kind ≡ kinds.Want) ⊎ (NetworkRefusal text a.kind ⊎ WordRefusal text a.place a.kind) →
      (b.kind ≡ kinds.Want) ⊎ (NetworkRefusal text b.kind ⊎ WordRefusal text b.place b.kind) → IsAtWord a.kind → b.kind ≢ kinds.Want → a.place ≡ b.place
  places_by a b (inl e) k at second_not = absurd (at_word_no_want a.kind e at)
  places_by a b (inr (inl h)) k at second_not = absurd (at_word_not a.kind h.1 h.4 at)
  places_by a b (inr (inr h)) (inl e) at second_not = absurd (second_not e)
  places_by a b (inr (inr h)) (inr (inl k)) at second_not = absurd (apart b.kind a.kind a.place k h)
  places_by a b (inr (inr h)) (inr (inr k)) at second_not = ap (λ (z : ReadError CardsKind). z.place) (words_agree a.place b.place h.0 k.0 h.1 k.1)

  pub places_agree : (a b : SpiceError) → ReadsNetlist text (Err a) → ReadsNetlist text (Err b) → IsAtWord a.kind → b.kind ≢ kinds.Want → a.place ≡ b.place
  places_agree a b h k at second_not = places_by a b (told text a.place a.kind h) (told text b.place b.kind k) at second_not

  both_by : (named : Named) (error : SpiceError) → ReadsNetlist text (Ok named) → (error.kind ≡ kinds.Want) ⊎ (NetworkRefusal text error.kind ⊎ WordRefusal text error.place error.kind) →
      error.kind ≡ kinds.Want
  both_by named error h (inl e) = e
  both_by named error h (inr (inl k)) =
      absurd (not_refused number order h.0 named k.1 h.2 (subst (λ z. RefusesNetwork z k.1) (sym (laws.units text h.0 k.0 h.1 k.2)) k.3))
  both_by named error h (inr (inr k)) = absurd (laws.not_both text h.0 (record { place = error.place; kind = k.0 }) h.1 k.1)

  pub not_both_but_want : (named : Named) (error : SpiceError) → ReadsNetlist text (Ok named) → ReadsNetlist text (Err error) → error.kind ≡ kinds.Want
  not_both_but_want named error h k = both_by named error h (told text error.place error.kind k)
