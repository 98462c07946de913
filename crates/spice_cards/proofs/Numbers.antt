-- The numbers of the cards are those of names.
use Rattle.std.proofs.Common.{◌≡◌, ℕ, ◌<◌, ℤ, Bool, true, false, if◌then◌else◌, List, [], ◌∷◌, ◌++◌, All, length, sym, subst}
use Rattle.std.specs.Prelude.{flat_map, neg_ℤ}
use Rattle.std.proofs.lemmas.List.Elements.{All-nil, All-cons, All-append}
use Rattle.std.proofs.lemmas.Option.{slice_get_within}
use Rattle.entry_list.specs.InTurn.{InTurn}
use Rattle.grid_net.specs.declared.part.Resistor.{Resistor as NetResistor}
use Rattle.grid_net.specs.declared.part.Pad.{Pad as NetPad}
use Rattle.grid_net.specs.declared.part.Load.{Load as NetLoad}
use Rattle.node_names.specs.Folding.{folded}
use Rattle.reading.specs.Word.{Token}
use Rattle.spice_cards.specs.declared.record.Cards.{Cards}
use Rattle.spice_cards.specs.Card.{Card, Resistor, Source, Load, Capacitor, is_ground, cards_of}
use Rattle.spice_cards.specs.Fault.{is_zero}
use Rattle.spice_cards.specs.Record.{HasNumber, Part, resistor_part, short_part, pad_part, load_part, no_part, SaysCard, SaysSource, LoadsNode, SaysCards, AreNumbered}

abbrev JoinsNodes : ℕ → NetResistor → Type 0
JoinsNodes count r = (r.a < count) × (r.b < count)

abbrev ShortsNodes : ℕ → ℕ × ℕ → Type 0
ShortsNodes count s = (s.0 < count) × (s.1 < count)

abbrev PadsNode : ℕ → NetPad → Type 0
PadsNode count p = p.node < count

abbrev DrawsAtNode : ℕ → NetLoad → Type 0
DrawsAtNode count l = l.node < count

-- Each number of a part is below the count.
record Stays (count : ℕ) (part : Part) : Type 0 where
  resistors : All (JoinsNodes count) part.resistors
  shorts : All (ShortsNodes count) part.shorts
  pads : All (PadsNode count) part.pads
  loads : All (DrawsAtNode count) part.loads

resistor_stays : (count m n : ℕ) (v : ℤ) → m < count → n < count → Stays count (resistor_part m n v)
resistor_stays count m n v first second = record {
  resistors = All-cons (JoinsNodes count) (record { a = m; b = n; ohms = v }) [] (first, second) (All-nil (JoinsNodes count));
  shorts = All-nil (ShortsNodes count);
  pads = All-nil (PadsNode count);
  loads = All-nil (DrawsAtNode count);
}

short_stays : (count m n : ℕ) → m < count → n < count → Stays count (short_part m n)
short_stays count m n first second = record {
  resistors = All-nil (JoinsNodes count);
  shorts = All-cons (ShortsNodes count) (m, n) [] (first, second) (All-nil (ShortsNodes count));
  pads = All-nil (PadsNode count);
  loads = All-nil (DrawsAtNode count);
}

pad_stays : (count n : ℕ) (v : ℤ) → n < count → Stays count (pad_part n v)
pad_stays count n v node = record {
  resistors = All-nil (JoinsNodes count);
  shorts = All-nil (ShortsNodes count);
  pads = All-cons (PadsNode count) (record { node = n; volts = v }) [] node (All-nil (PadsNode count));
  loads = All-nil (DrawsAtNode count);
}

load_stays : (count : ℕ) (loads : List NetLoad) → All (DrawsAtNode count) loads → Stays count (load_part loads)
load_stays count loads all = record {
  resistors = All-nil (JoinsNodes count);
  shorts = All-nil (ShortsNodes count);
  pads = All-nil (PadsNode count);
  loads = all;
}

none_stays : (count : ℕ) → Stays count no_part
none_stays count = record {
  resistors = All-nil (JoinsNodes count);
  shorts = All-nil (ShortsNodes count);
  pads = All-nil (PadsNode count);
  loads = All-nil (DrawsAtNode count);
}

either_stays : (count m n : ℕ) (v : ℤ) (zero : Bool) (part : Part) → m < count → n < count → part ≡ (if zero then short_part m n else resistor_part m n v) → Stays count part
either_stays count m n v true part first second e = subst (Stays count) (sym e) (short_stays count m n first second)
either_stays count m n v false part first second e = subst (Stays count) (sym e) (resistor_stays count m n v first second)

within : (names : List (List ℕ)) (name : List ℕ) (n : ℕ) → HasNumber names name n → n < length names
within names name n h = slice_get_within names n (folded name) h

source_stays : (first second : Bool) (names : List (List ℕ)) (a b : List ℕ) (v : ℤ) (part : Part) → SaysSource first second names a b v part → Stays (length names) part
source_stays true true names a b v part h = subst (Stays (length names)) (sym h.2) (pad_stays (length names) h.0 v (within names a h.0 h.1))
source_stays true false names a b v part h = subst (Stays (length names)) (sym h.2) (pad_stays (length names) h.0 (neg_ℤ v) (within names b h.0 h.1))
source_stays false true names a b v part h = subst (Stays (length names)) (sym h.2) (pad_stays (length names) h.0 v (within names a h.0 h.1))
source_stays false false names a b v part h =
    subst (Stays (length names)) (sym h.5) (short_stays (length names) h.0 h.1 (within names a h.0 h.2) (within names b h.1 h.3))

node_stays : (ground : Bool) (names : List (List ℕ)) (name : List ℕ) (low high : ℤ) (loads : List NetLoad) → LoadsNode ground names name low high loads → All (DrawsAtNode (length names)) loads
node_stays true names name low high loads h = subst (All (DrawsAtNode (length names))) (sym h) (All-nil (DrawsAtNode (length names)))
node_stays false names name low high loads h =
    subst (All (DrawsAtNode (length names))) (sym h.2)
    (All-cons (DrawsAtNode (length names)) (record { node = h.0; low = low; high = high }) [] (within names name h.0 h.1) (All-nil (DrawsAtNode (length names))))

part_stays : (names : List (List ℕ)) (card : Card) (part : Part) → SaysCard names card part → Stays (length names) part
part_stays names (Resistor a b value) part h = either_stays (length names) h.1 h.2 h.0 (is_zero h.0) part (within names a h.1 h.4) (within names b h.2 h.5) h.6
part_stays names (Source a b value) part h = source_stays (is_ground a) (is_ground b) names a b h.0 part h.2
part_stays names (Load a b value range) part h =
    let s = h.5 in
    subst (Stays (length names)) (sym s.4) (load_stays (length names) (s.0 ++ s.1) (All-append (DrawsAtNode (length names)) s.0 s.1
    (node_stays (is_ground a) names a h.1 h.2 s.0 s.2) (node_stays (is_ground b) names b (neg_ℤ h.2) (neg_ℤ h.1) s.1 s.3)))
part_stays names (Capacitor a b value) part h = subst (Stays (length names)) (sym h) (none_stays (length names))

-- What each part has, all have.
all_parts : {A : Type 0} (P : A → Type 0) (field : Part → List A) (names : List (List ℕ)) → ((part : Part) → Stays (length names) part → All P (field part)) →
    (cards : List Card) (parts : List Part) → InTurn (SaysCard names) cards parts → All P (flat_map field parts)
all_parts P field names has [] [] h = All-nil P
all_parts P field names has (card ∷ cards) (part ∷ parts) h =
    All-append P (field part) (flat_map field parts) (has part (part_stays names card part h.0)) (all_parts P field names has cards parts h.1)
all_parts P field names has [] (part ∷ parts) h = absurd h
all_parts P field names has (card ∷ cards) [] h = absurd h

-- The numbers of a netlist's cards are those of its names.
pub cards_numbered : (units : List (List Token)) (cards : Cards) → SaysCards units cards → AreNumbered cards
cards_numbered units cards h =
    let n = length cards.names in
    let names = cards.names in record {
      resistors = subst (All (JoinsNodes n)) (sym h.resistors) (all_parts (JoinsNodes n) (λ part. part.resistors) names (λ part s. s.resistors) (cards_of units) h.parts h.says);
      shorts = subst (All (ShortsNodes n)) (sym h.shorts) (all_parts (ShortsNodes n) (λ part. part.shorts) names (λ part s. s.shorts) (cards_of units) h.parts h.says);
      pads = subst (All (PadsNode n)) (sym h.pads) (all_parts (PadsNode n) (λ part. part.pads) names (λ part s. s.pads) (cards_of units) h.parts h.says);
      loads = subst (All (DrawsAtNode n)) (sym h.loads) (all_parts (DrawsAtNode n) (λ part. part.loads) names (λ part s. s.loads) (cards_of units) h.parts h.says);
    }
