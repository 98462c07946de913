-- The units of the lines of wiring.
use Rattle.std.proofs.Common.{◌≡◌, ℕ, ◌+◌, Bool, true, false, ℤ, pos, List, [], ◌∷◌, ◌++◌, take, map, codes, Ok, refl, sym, ◌∙◌, ap, subst, arith, inl, inr}
use Rattle.std.specs.Prelude.{◌⊎◌, ◌<ℤ◌, ◌≤ℤ◌}
use Rattle.std.specs.Fmt.{signed_decimal}
use Rattle.std.proofs.lemmas.Int.{ints}
use Rattle.number_place.specs.declared.place.NumberSign.TheVariants.{Any, NotNegative}
use Rattle.number_place.specs.Place.{IsNumberAt}
use Rattle.reading.specs.declared.word.Form.TheVariants.{Bare}
use Rattle.reading.specs.Word.{Token}
use Rattle.wiring_file.specs.declared.record.WireText.{WireText}
use Rattle.wiring_file.specs.declared.record.PlaceText.{PlaceText}
use Rattle.wiring_file.specs.declared.record.Wiring.{Wiring}
use Rattle.wiring_file.specs.declared.number.Quantity.TheVariants as quantities
use Rattle.wiring_file.specs.declared.section.Section.{Section}
use Rattle.wiring_file.specs.declared.section.Section.TheVariants as sections
use Rattle.wiring_file.specs.declared.sort.Sort.TheVariants.{Open, Close, Plus, Routed}
use Rattle.wiring_file.specs.Sort.{the, sort_of_text}
use Rattle.wiring_file.specs.Number.{limit, place_of}
use Rattle.wiring_file.specs.Rule.{is_shape, is_via, is_number, line_front, line_back}
use Rattle.wiring_file.specs.Standing.{Standing}
use Rattle.wiring_file.specs.Fault.{HasWidth, HasOtherShape, HasOtherEnd}
use Rattle.wiring_file.specs.Written.{wire_words, place_words, WireReads, PlaceReads}
use Rattle.wiring_file.proofs.Digits.{Laws, same_number, zero_is, no_true, no_false}
use Rattle.wiring_file.proofs.Spelled.{is_bare}
use Rattle.written_words.specs.Spelled.{Written, bare, tokens, IsWritten, AreWritten}
use Rattle.wiring_file.proofs.Sorts.{in_turn_match, before_match, via_sort}
use Rattle.wiring_file.proofs.Blocks.{Says_in, no_fault, nothing, joins_written, none_written}
use Rattle.wiring_file.proofs.Facts.{known, IsNameWord, IsNumber, name_word, number, line_fit, not_open}
use Rattle.wiring_file.proofs.ViaUnits.{bares, standing_at}

-- ## pieces

pub record WireFacts (net : List ℕ) (w : WireText) : Type 0 where
  pub of_net : w.net ≡ net
  pub layer : IsNameWord w.layer
  pub width : IsNumber NotNegative w.width
  pub some : w.width ≡ pos 0 → ⊥
  pub shape_sort : is_shape (sort_of_text w.shape) ≡ true
  pub shape_word : IsWritten (bare w.shape)
  pub x1 : IsNumber Any w.x1
  pub y1 : IsNumber Any w.y1
  pub x2 : IsNumber Any w.x2
  pub y2 : IsNumber Any w.y2

not_zero : (v : ℤ) → pos 0 <ℤ v → v ≡ pos 0 → ⊥
not_zero v h e = omega (arith, ints)

above : (v : ℤ) → pos 0 <ℤ v → pos 0 ≤ℤ v
above v h = omega (arith, ints)

abbrev IsShape : List ℕ → Type 0
IsShape text = (is_shape (sort_of_text text) ≡ true) × IsWritten (bare text)

shape_is : (text : List ℕ) → (text ≡ codes "RING") ⊎ ((text ≡ codes "STRIPE") ⊎ (text ≡ codes "FOLLOWPIN")) → IsShape text
shape_is text (inl e) = subst IsShape (sym e) (refl, known (codes "RING") refl)
shape_is text (inr (inl e)) = subst IsShape (sym e) (refl, known (codes "STRIPE") refl)
shape_is text (inr (inr e)) = subst IsShape (sym e) (refl, known (codes "FOLLOWPIN") refl)

pub wire_facts : Laws → (net : List ℕ) (w : WireText) → WireReads net w → WireFacts net w
wire_facts laws net w h =
    let shape : IsShape w.shape = shape_is w.shape h.shape in
    record {
      of_net = h.net;
      layer = name_word w.layer h.layer;
      width = number laws NotNegative w.width (above w.width h.width.0) h.width.1;
      some = not_zero w.width h.width.0;
      shape_sort = shape.0;
      shape_word = shape.1;
      x1 = number laws Any w.x1 tt h.x1;
      y1 = number laws Any w.y1 tt h.y1;
      x2 = number laws Any w.x2 tt h.x2;
      y2 = number laws Any w.y2 tt h.y2;
    }

pub wire_written : (net : List ℕ) (w : WireText) → WireFacts net w → AreWritten (bares (wire_words w))
wire_written net w h = (h.layer.word, (h.width.word, (known (codes "+") refl, (known (codes "SHAPE") refl, (h.shape_word, (known (codes "(") refl, (h.x1.word, (h.y1.word, (known (codes ")") refl, (known (codes "(") refl, (h.x2.word, (h.y2.word, (known (codes ")") refl, tt)))))))))))))

abbrev pub wires_said : List WireText → Wiring
wires_said wires = record { vias = []; wires = wires; places = [] }

abbrev wire_front : WireText → List (List ℕ)
wire_front w = w.layer ∷ signed_decimal w.width ∷ codes "+" ∷ codes "SHAPE" ∷ w.shape ∷ codes "(" ∷ signed_decimal w.x1 ∷ signed_decimal w.y1 ∷ codes ")" ∷ []

abbrev wire_back : WireText → List (List ℕ)
wire_back w = codes "(" ∷ signed_decimal w.x2 ∷ signed_decimal w.y2 ∷ codes ")" ∷ []

no_width : Laws → (net : List ℕ) (w : WireText) → WireFacts net w → IsNumberAt (place_of quantities.NotNegative) (signed_decimal w.width) (Ok (pos 0)) → ⊥
no_width laws net w h is =
    h.some (same_number w.width (pos 0) (laws.one (place_of quantities.NotNegative) (signed_decimal w.width) (Ok w.width) (Ok (pos 0)) h.width.is is))

wire_taken : Laws → (net : List ℕ) (w : WireText) → WireFacts net w → (count : List ℕ) (entries : ℕ) →
    Says_in (standing_at sections.Line count entries net false) (bares (wire_words w) ∷ []) (standing_at sections.Next count entries net false) (wires_said (w ∷ []))
wire_taken laws net w h count entries f =
    let s : Standing = standing_at sections.Line count entries net false in
    let u : List Token = tokens f (bares (wire_words w)) in
    let front : List Token = tokens f (bares (wire_front w)) in
    let back : List Token = tokens (λ n. f (9 + n)) (bares (wire_back w)) in
    let five : HasOtherShape (take 5 u) → ⊥ = λ other. no_width laws net w h other.0 in
    let ten : HasOtherEnd (take 10 u) → ⊥ = λ other. elim other [ inl none ↦ no_width laws net w h none.0 | inr wide ↦ no_true wide.1 ] in
    record {
      taken = (
        omega arith,
        before_match line_front line_back front back (h.layer.sort, (h.width.sort, (refl, (refl, (h.shape_sort, (refl, (h.x1.sort, (h.y1.sort, (refl, tt)))))))))
            (inl (in_turn_match (the Open ∷ is_number ∷ is_number ∷ the Close ∷ []) back (refl, (h.x2.sort, (h.y2.sort, (refl, tt)))))),
        no_fault laws s u (λ within. (w.width, h.width.is), (λ within. (w.x1, h.x1.is), (λ within. (w.y1, h.y1.is), (λ within. (w.x2, h.x2.is), (λ within. (w.y2, h.y2.is), tt)))))
            (λ n within unfit. line_fit false u (λ e. absurd (no_false e)) five ten n within unfit),
        tt,
      );
      leads = refl;
      vias = tt;
      wires = (record { net = h.of_net; layer = refl; width = h.width.is; shape = refl; x1 = h.x1.is; y1 = h.y1.is; x2 = h.x2.is; y2 = h.y2.is }, tt);
      places = tt;
    }

-- ## arrays of stacks

pub record PlaceFacts (net : List ℕ) (p : PlaceText) : Type 0 where
  pub of_net : p.net ≡ net
  pub layer : IsNameWord p.layer
  pub x : IsNumber Any p.x
  pub y : IsNumber Any p.y
  pub via_sort : is_via (sort_of_text p.via) ≡ true
  pub via_word : IsWritten (bare p.via)

pub place_facts : Laws → (net : List ℕ) (p : PlaceText) → PlaceReads net p → PlaceFacts net p
place_facts laws net p h = record {
  of_net = h.net;
  layer = name_word p.layer h.layer;
  x = number laws Any p.x tt h.x;
  y = number laws Any p.y tt h.y;
  via_sort = via_sort p.via h.via.1 h.not_open;
  via_word = is_bare p.via h.via.0;
}

pub place_written : (net : List ℕ) (p : PlaceText) → PlaceFacts net p → AreWritten (bares (place_words p))
place_written net p h = (h.layer.word, (known (codes "0") refl, (known (codes "+") refl, (known (codes "SHAPE") refl, (known (codes "STRIPE") refl, (known (codes "(") refl, (h.x.word, (h.y.word, (known (codes ")") refl, (h.via_word, tt))))))))))

abbrev pub places_said : List PlaceText → Wiring
places_said places = record { vias = []; wires = []; places = places }

abbrev place_front : PlaceText → List (List ℕ)
place_front p = p.layer ∷ codes "0" ∷ codes "+" ∷ codes "SHAPE" ∷ codes "STRIPE" ∷ codes "(" ∷ signed_decimal p.x ∷ signed_decimal p.y ∷ codes ")" ∷ []

zero_width : Laws → (width : ℤ) → IsNumberAt (place_of quantities.NotNegative) (codes "0") (Ok width) → width ≡ pos 0
zero_width laws width is = same_number width (pos 0) (laws.one (place_of quantities.NotNegative) (codes "0") (Ok width) (Ok (pos 0)) is (zero_is laws limit))

place_taken : Laws → (net : List ℕ) (p : PlaceText) → PlaceFacts net p → (count : List ℕ) (entries : ℕ) (placed : Bool) →
    Says_in (standing_at sections.Line count entries net placed) (bares (place_words p) ∷ []) (standing_at sections.Next count entries net true) (places_said (p ∷ []))
place_taken laws net p h count entries placed f =
    let s : Standing = standing_at sections.Line count entries net placed in
    let u : List Token = tokens f (bares (place_words p)) in
    let front : List Token = tokens f (bares (place_front p)) in
    let last : Token = record { text = p.via; place = f 9; form = Bare } in
    let two : placed ≡ true → HasWidth (take 2 u) → ⊥ = λ e wide. wide.2 (zero_width laws wide.0 wide.1) in
    let five : HasOtherShape (take 5 u) → ⊥ = λ other. no_true other.1 in
    let ten : HasOtherEnd (take 10 u) → ⊥ = λ other. elim other [
      | inl none ↦ no_true (sym none.1 ∙ not_open (sort_of_text p.via) h.via_sort)
      | inr wide ↦ wide.0.2 (zero_width laws wide.0.0 wide.0.1)
    ] in
    record {
      taken = (
        omega arith,
        before_match line_front line_back front (last ∷ []) (h.layer.sort, (refl, (refl, (refl, (refl, (refl, (h.x.sort, (h.y.sort, (refl, tt))))))))) (inr (last, h.via_sort, refl)),
        no_fault laws s u (λ within. (pos 0, zero_is laws limit), (λ within. (p.x, h.x.is), (λ within. (p.y, h.y.is), (λ within. absurd (omega arith), (λ within. absurd (omega arith), tt)))))
            (λ n within unfit. line_fit placed u two five ten n within unfit),
        tt,
      );
      leads = refl;
      vias = tt;
      wires = tt;
      places = (record { net = h.of_net; layer = refl; x = h.x.is; y = h.y.is; via = refl }, tt);
    }

-- ## lines

-- Where a line begins, which is the first one of its net or is not.
abbrev pub line_place : Bool → Section
line_place true = sections.First
line_place false = sections.Next

abbrev pub start_words : Bool → List (List ℕ)
start_words true = codes "+" ∷ codes "ROUTED" ∷ []
start_words false = codes "NEW" ∷ []

start_taken : Laws → (first : Bool) (count : List ℕ) (entries : ℕ) (net : List ℕ) (placed : Bool) →
    Says_in (standing_at (line_place first) count entries net placed) (bares (start_words first) ∷ []) (standing_at sections.Line count entries net placed) nothing
start_taken laws true count entries net placed = λ f.
    let s : Standing = standing_at sections.First count entries net placed in
    let u : List Token = tokens f (bares (start_words true)) in
    record {
      taken = (omega arith, inl (in_turn_match (the Plus ∷ the Routed ∷ []) u (refl, (refl, tt))), no_fault laws s u tt (λ n within unfit. unfit), tt);
      leads = refl;
      vias = tt;
      wires = tt;
      places = tt;
    }
start_taken laws false count entries net placed = λ f.
    let s : Standing = standing_at sections.Next count entries net placed in
    let word : Token = record { text = codes "NEW"; place = f 0; form = Bare } in
    let u : List Token = tokens f (bares (start_words false)) in
    record {
      taken = (omega arith, inl (word, refl, refl), no_fault laws s u tt (λ n within unfit. unfit), tt);
      leads = refl;
      vias = tt;
      wires = tt;
      places = tt;
    }

-- The end of a net.
pub net_ended : Laws → (first : Bool) (count : List ℕ) (entries : ℕ) (net : List ℕ) (placed : Bool) →
    Says_in (standing_at (line_place first) count entries net placed) (bares (codes ";" ∷ []) ∷ []) (standing_at sections.Nets count entries net placed) nothing
net_ended laws true count entries net placed = λ f.
    let s : Standing = standing_at sections.First count entries net placed in
    let word : Token = record { text = codes ";"; place = f 0; form = Bare } in
    record {
      taken = (omega arith, inr (word, refl, refl), no_fault laws s (word ∷ []) tt (λ n within unfit. unfit), tt);
      leads = refl;
      vias = tt;
      wires = tt;
      places = tt;
    }
net_ended laws false count entries net placed = λ f.
    let s : Standing = standing_at sections.Next count entries net placed in
    let word : Token = record { text = codes ";"; place = f 0; form = Bare } in
    record {
      taken = (omega arith, inr (word, refl, refl), no_fault laws s (word ∷ []) tt (λ n within unfit. unfit), tt);
      leads = refl;
      vias = tt;
      wires = tt;
      places = tt;
    }

-- The units of lines of wiring.
abbrev pub routed_units : Bool → List (List (List ℕ)) → List (List Written)
routed_units first [] = []
routed_units first (words ∷ more) = bares (start_words first) ∷ bares words ∷ routed_units false more

-- Whether the line after these is the first one.
abbrev pub still : Bool → List (List (List ℕ)) → Bool
still first [] = first
still first (words ∷ more) = still false more

pub routed-append : (first : Bool) (xs ys : List (List (List ℕ))) → routed_units first (xs ++ ys) ≡ routed_units first xs ++ routed_units (still first xs) ys
routed-append first [] ys = refl
routed-append first (x ∷ xs) ys = ap (λ z. bares (start_words first) ∷ bares x ∷ z) (routed-append false xs ys)

-- Whether a line with a via of the net stands, after these.
abbrev pub turned : Bool → List PlaceText → Bool
turned placed [] = placed
turned placed (p ∷ places) = turned true places

abbrev pub AllWires : List ℕ → List WireText → Type 0
AllWires net [] = Unit {0}
AllWires net (w ∷ wires) = WireFacts net w × AllWires net wires

abbrev pub AllPlaces : List ℕ → List PlaceText → Type 0
AllPlaces net [] = Unit {0}
AllPlaces net (p ∷ places) = PlaceFacts net p × AllPlaces net places

abbrev pub wires_words : List WireText → List (List (List ℕ))
wires_words wires = map wire_words wires

abbrev pub places_words : List PlaceText → List (List (List ℕ))
places_words places = map place_words places

pub wires_taken : Laws → (net : List ℕ) (wires : List WireText) → AllWires net wires → (first : Bool) (count : List ℕ) (entries : ℕ) →
    Says_in (standing_at (line_place first) count entries net false) (routed_units first (wires_words wires))
    (standing_at (line_place (still first (wires_words wires))) count entries net false) (wires_said wires)
wires_taken laws net [] h first count entries = none_written (standing_at (line_place first) count entries net false)
wires_taken laws net (w ∷ wires) h first count entries =
    let s : Standing = standing_at (line_place first) count entries net false in
    let at : Standing = standing_at sections.Line count entries net false in
    let next : Standing = standing_at sections.Next count entries net false in
    let last : Standing = standing_at (line_place (still false (wires_words wires))) count entries net false in
    let line : List (List Written) = bares (wire_words w) ∷ [] in
    let more : List (List Written) = routed_units false (wires_words wires) in
    joins_written s at last (bares (start_words first) ∷ []) (line ++ more) nothing (wires_said (w ∷ wires)) (start_taken laws first count entries net false)
    (joins_written at next last line more (wires_said (w ∷ [])) (wires_said wires) (wire_taken laws net w h.0 count entries) (wires_taken laws net wires h.1 false count entries))

pub places_taken : Laws → (net : List ℕ) (places : List PlaceText) → AllPlaces net places → (first placed : Bool) (count : List ℕ) (entries : ℕ) →
    Says_in (standing_at (line_place first) count entries net placed) (routed_units first (places_words places))
    (standing_at (line_place (still first (places_words places))) count entries net (turned placed places)) (places_said places)
places_taken laws net [] h first placed count entries = none_written (standing_at (line_place first) count entries net placed)
places_taken laws net (p ∷ places) h first placed count entries =
    let s : Standing = standing_at (line_place first) count entries net placed in
    let at : Standing = standing_at sections.Line count entries net placed in
    let next : Standing = standing_at sections.Next count entries net true in
    let last : Standing = standing_at (line_place (still false (places_words places))) count entries net (turned true places) in
    let line : List (List Written) = bares (place_words p) ∷ [] in
    let more : List (List Written) = routed_units false (places_words places) in
    joins_written s at last (bares (start_words first) ∷ []) (line ++ more) nothing (places_said (p ∷ places)) (start_taken laws first count entries net placed)
    (joins_written at next last line more (places_said (p ∷ [])) (places_said places) (place_taken laws net p h.0 count entries placed)
    (places_taken laws net places h.1 false true count entries))
